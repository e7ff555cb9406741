-- Each task of a batch ends: there are as many ends as entries.
use Rattle.std.specs.Prelude.{◌≡◌, ℕ, ◌+◌, true, not, ◌&&◌, List, [], ◌∷◌, ◌++◌, length, map, Option, Some, option_and_then, slice_get, refl}
use Rattle.std.proofs.Common.{sym, ◌∙◌, ap, subst, arith}
use Rattle.std.proofs.Math.Bool.{true≢false}
use Rattle.std.proofs.lemmas.List.{length-append, length-map, length-replicate}
use Rattle.std.specs.List.{AllByRecursion, cons_option}
use Rattle.meta_state.specs.declared.cluster_state.ClusterState.{ClusterState}
use Rattle.meta_state.specs.declared.versions.Next.{Next}
use Rattle.meta_state.specs.declared.versions.Next.TheVariants.{Same, Changed}
use Rattle.meta_state.specs.Versions.{next_of}
use Rattle.executors.specs.declared.contexts.Mark.{Mark}
use Rattle.executors.specs.declared.contexts.TaskContext.{TaskContext}
use Rattle.executors.specs.declared.contexts.Verdict.{Verdict}
use Rattle.executors.specs.declared.contexts.Verdict.TheVariants.{Success, Refused}
use Rattle.session_law.specs.declared.task_ends.TaskEnd.TheVariants as end
use Rattle.executors.specs.declared.executions.Executed.{Executed}
use Rattle.executors.specs.declared.executions.Executed.TheVariants.{Made, Failed}
use Rattle.executors.specs.declared.kinds.Kind.{Kind}
use Rattle.scripts.specs.declared.queues.QueueSpec.{QueueSpec}
use Rattle.scripts.specs.declared.whole_script.Script.{Script}
use Rattle.scripts.specs.declared.steps.Step.{Step}
use Rattle.scripts.specs.declared.steps.Step.TheVariants as step
use Rattle.executors.specs.declared.tasks.Task.{Task}
use Rattle.executors.specs.Contexts.{marked, numbered}
use Rattle.executors.specs.Executions.{executed, failed_by, failed_or, folded, made_of, ran_none, unless_refused}
use Rattle.executors.specs.Kinds.{is_atomic, needs_master}
use Rattle.executors.specs.TaskRuns.{task_outcome}
use Rattle.session_law.specs.declared.batches.Entry.{Entry}
use Rattle.session_law.specs.declared.worlds.Stepped.{Stepped}
use Rattle.session_law.specs.declared.worlds.World.{World}
use Rattle.session_law.specs.Histories.{IsOwn, is_own_step, step_at, submitted, task_at, tasks_at}
use Rattle.session_law.specs.Publications.{cut_by, does_commit, reach_of}
use Rattle.session_law.specs.BatchSteps.{BatchInput, batch_step, commit_step, drop_step, end_of, executed_step, next_step, refused_step}
use Rattle.master_run.specs.Books.{input_at, placed_in, ran_at}
use Rattle.master_run.proofs.Alls.{either}
use Rattle.master_run.proofs.Bounds.{Stands, stands}

-- ---- each task is marked

numbered_count : (place : ℕ) (tasks : List Task) → length (numbered place tasks) ≡ length tasks
numbered_count place [] = refl
numbered_count place (task ∷ tasks) = let rest = numbered_count (place + 1) tasks in omega arith

folded_count : (state : ClusterState) (marks : List Mark) (contexts : List TaskContext)
    → length (folded (record { state = state; marks = marks }) contexts).marks ≡ length marks + length contexts
unfolding folded
folded_count state marks [] = omega arith
folded_count state marks (context ∷ contexts) =
    let mark = marked context.position (task_outcome state context.task).1 in
    let rest = folded_count (task_outcome state context.task).0 (marks ++ mark ∷ []) contexts in
    let one = length-append marks (mark ∷ []) in
    omega arith

-- so many marks, where a state was made
abbrev HasMarks : ℕ → Executed → Type 0
HasMarks count (Made state marks) = length marks ≡ count
HasMarks count (Failed position refusal) = Unit {0}

failed_marks : (count position : ℕ) (verdict : Verdict) (rest : Executed) → HasMarks count rest → HasMarks count (failed_by verdict position rest)
failed_marks count position Success rest h = h
failed_marks count position (Refused refusal) rest h = tt

refused_marks : (count : ℕ) (marks : List Mark) (made : Executed) → HasMarks count made → HasMarks count (failed_or marks made)
refused_marks count [] made h = h
refused_marks count (mark ∷ marks) made h = failed_marks count mark.position mark.verdict (failed_or marks made) (refused_marks count marks made h)

executed_marks : (kind : Kind) (state : ClusterState) (tasks : List Task) → HasMarks (length tasks) (executed kind state (numbered 0 tasks))
unfolding executed
executed_marks kind state tasks =
    let ran = folded (ran_none state) (numbered 0 tasks) in
    let marks = folded_count state [] (numbered 0 tasks) in
    let places = numbered_count 0 tasks in
    let made : HasMarks (length tasks) (made_of ran) = omega arith in
    either (HasMarks (length tasks)) (is_atomic kind) (unless_refused ran) (made_of ran) (refused_marks (length tasks) ran.marks (made_of ran) made) made

-- ---- each task ends

abbrev HasEnds : ℕ → Stepped × World → Type 0
HasEnds count step = length step.0.ends ≡ count

next_ends : (input : BatchInput) (world : World) (marks : List Mark) (next : Next) → length marks ≡ length input.tasks → HasEnds (length input.tasks) (next_step input world marks next)
next_ends input world marks Same e = length-map marks (end_of (end.Unchanged world.state.version)) ∙ e
next_ends input world marks (Changed new) e =
    let reach = reach_of input.cut world.state new input.nodes world.nodes in
    either (HasEnds (length input.tasks)) (does_commit new reach) (commit_step input world new marks reach) (drop_step input world new reach)
    (length-map marks (end_of (end.Ok new.version)) ∙ e) (length-replicate (length input.tasks) end.PublishFailed)

executed_ends : (input : BatchInput) (world : World) (made : Executed) → HasMarks (length input.tasks) made → HasEnds (length input.tasks) (executed_step input world made)
executed_ends input world (Failed position refusal) h = length-replicate (length input.tasks) (end.BatchFailed position refusal)
executed_ends input world (Made state marks) h = next_ends input world marks (next_of world.state state (world.proposals + 2)) h

step_ends : (input : BatchInput) (world : World) → HasEnds (length input.tasks) (batch_step input world)
unfolding batch_step
step_ends input world =
    let made = executed input.kind world.state (numbered 0 input.tasks) in
    either (HasEnds (length input.tasks)) (needs_master input.kind && not world.in_office) (refused_step input world) (executed_step input world made)
    (length-replicate (length input.tasks) end.NotMaster) (executed_ends input world made (executed_marks input.kind world.state input.tasks))

-- ---- each entry has a task

step_counts : (script : Script) (name : List ℕ) (found : Step) (rest : List Task) → is_own_step script name (Some found) ≡ true → length (cons_option (submitted found) rest) ≡ length rest + 1
step_counts script name (step.Submit queue task timeout ack) rest h = omega arith
step_counts script name (step.Await _ _) rest h = absurd (true≢false (sym h))
step_counts script name (step.Watch _ _ _ _) rest h = absurd (true≢false (sym h))
step_counts script name (step.Next _ _ _ _) rest h = absurd (true≢false (sym h))
step_counts script name (step.Read _ _) rest h = absurd (true≢false (sym h))
step_counts script name (step.Sleep _) rest h = absurd (true≢false (sym h))
step_counts script name step.Close rest h = absurd (true≢false (sym h))

entry_counts : (script : Script) (name : List ℕ) (entry : Entry) (rest : List Task) → Stands script name entry.client entry.step
    → length (cons_option (task_at script entry) rest) ≡ length rest + 1
entry_counts script name entry rest at =
    let here : step_at script entry.client entry.step ≡ Some at.step =
    ap (option_and_then (λ steps. slice_get steps entry.step)) at.of_client ∙ at.of_steps in
    subst (λ (found : Option Step). length (cons_option (option_and_then submitted found) rest) ≡ length rest + 1) (sym here) (step_counts script name at.step rest at.own)

pub entries_count : (script : Script) (name : List ℕ) (entries : List Entry) → AllByRecursion (IsOwn script) (map (λ e. record { queue = name; entry = e }) entries)
    → length (tasks_at script entries) ≡ length entries
entries_count script name [] own = refl
entries_count script name (entry ∷ entries) own =
    let one = entry_counts script name entry (tasks_at script entries) (stands script (record { queue = name; entry = entry }) own.0) in
    let rest = entries_count script name entries own.1 in
    omega arith

pub ends_count : (script : Script) (world : World) (queue : QueueSpec) (entries : List Entry) (at : ℕ) → AllByRecursion (IsOwn script) (placed_in queue.name entries) → length (ran_at script world queue entries at).0.ends ≡ length entries
ends_count script world queue entries at own =
    step_ends (input_at (cut_by script.faults) script queue entries at) world ∙ entries_count script queue.name entries own
