-- How the tasks of a batch end: none at its deadline, and none by the close step.
use Rattle.std.specs.Prelude.{◌≡◌, ℕ, zero, suc, ◌+◌, Bool, true, false, not, ◌&&◌, List, [], ◌∷◌, length, map, refl, if◌then◌else◌}
use Rattle.std.proofs.Common.{replicate}
use Rattle.std.specs.List.{AllByRecursion}
use Rattle.meta_state.specs.declared.versions.Next.{Next}
use Rattle.meta_state.specs.declared.versions.Next.TheVariants.{Same, Changed}
use Rattle.meta_state.specs.Versions.{next_of}
use Rattle.executors.specs.declared.contexts.Mark.{Mark}
use Rattle.executors.specs.declared.contexts.Verdict.{Verdict}
use Rattle.executors.specs.declared.contexts.Verdict.TheVariants.{Success, Refused}
use Rattle.executors.specs.declared.executions.Executed.{Executed}
use Rattle.executors.specs.declared.executions.Executed.TheVariants.{Made, Failed}
use Rattle.executors.specs.Contexts.{numbered}
use Rattle.executors.specs.Executions.{executed}
use Rattle.executors.specs.Kinds.{needs_master}
use Rattle.session_law.specs.declared.task_ends.TaskEnd.{TaskEnd}
use Rattle.session_law.specs.declared.task_ends.TaskEnd.TheVariants as end
use Rattle.session_law.specs.declared.worlds.Stepped.{Stepped}
use Rattle.session_law.specs.declared.worlds.World.{World}
use Rattle.session_law.specs.BatchSteps.{BatchInput, batch_step, commit_step, drop_step, end_by, end_of, executed_step, next_step, refused_step}
use Rattle.session_law.specs.Endings.{is_batch_end}
use Rattle.session_law.specs.Publications.{does_commit, reach_of}

abbrev AreBatchEnds : List TaskEnd → Type 0
AreBatchEnds ends = AllByRecursion (λ e. is_batch_end e ≡ true) ends

abbrev HasBatchEnds : Stepped × World → Type 0
HasBatchEnds step = AreBatchEnds step.0.ends

-- all in the same way
same_ends : (end : TaskEnd) (count : ℕ) → is_batch_end end ≡ true → AreBatchEnds (replicate count end)
same_ends end zero h = tt
same_ends end (suc count) h = (h, same_ends end count h)

-- each as it was marked
one_end : (success : TaskEnd) (verdict : Verdict) → is_batch_end success ≡ true → is_batch_end (end_by success verdict) ≡ true
one_end success Success h = h
one_end success (Refused refusal) h = refl

marked_ends : (success : TaskEnd) (marks : List Mark) → is_batch_end success ≡ true → AreBatchEnds (map (end_of success) marks)
marked_ends success [] h = tt
marked_ends success (mark ∷ marks) h = (one_end success mark.verdict h, marked_ends success marks h)

-- one of two steps
either_ends : (b : Bool) (a c : Stepped × World) → HasBatchEnds a → HasBatchEnds c → HasBatchEnds (if b then a else c)
either_ends true a c h k = h
either_ends false a c h k = k

next_ends : (input : BatchInput) (world : World) (marks : List Mark) (next : Next) → HasBatchEnds (next_step input world marks next)
next_ends input world marks Same = marked_ends (end.Unchanged world.state.version) marks refl
next_ends input world marks (Changed new) =
    let reach = reach_of input.cut world.state new input.nodes world.nodes in
    either_ends (does_commit new reach) (commit_step input world new marks reach) (drop_step input world new reach)
    (marked_ends (end.Ok new.version) marks refl) (same_ends end.PublishFailed (length input.tasks) refl)

executed_ends : (input : BatchInput) (world : World) (made : Executed) → HasBatchEnds (executed_step input world made)
executed_ends input world (Failed position refusal) = same_ends (end.BatchFailed position refusal) (length input.tasks) refl
executed_ends input world (Made state marks) = next_ends input world marks (next_of world.state state (world.proposals + 2))

pub ends_of_batches : (input : BatchInput) (world : World) → AllByRecursion (λ e. is_batch_end e ≡ true) (batch_step input world).0.ends
unfolding batch_step
ends_of_batches input world =
    let made = executed input.kind world.state (numbered 0 input.tasks) in
    either_ends (needs_master input.kind && not world.in_office) (refused_step input world) (executed_step input world made)
    (same_ends end.NotMaster (length input.tasks) refl) (executed_ends input world made)
