-- A batch in two halves: what comes of it on a world before anything is sent, and what comes of it once the nodes have
-- answered. Both together are the batch's step (`batch_step`), which is proved.
use Rattle.std.specs.Prelude.{ℕ, ◌+◌, not, ◌&&◌, List, length, map, if◌then◌else◌}
use Rattle.meta_state.specs.declared.versions.Next.{Next}
use Rattle.meta_state.specs.declared.versions.Next.TheVariants.{Same, Changed}
use Rattle.meta_state.specs.Versions.{next_of}
use Rattle.executors.specs.declared.contexts.Mark.{Mark}
use Rattle.executors.specs.declared.executions.Executed.{Executed}
use Rattle.executors.specs.declared.executions.Executed.TheVariants.{Made, Failed}
use Rattle.executors.specs.declared.kinds.Kind.{Kind}
use Rattle.executors.specs.declared.tasks.Task.{Task}
use Rattle.executors.specs.Contexts.{numbered}
use Rattle.executors.specs.Executions.{executed}
use Rattle.executors.specs.Kinds.{needs_master}
use Rattle.session_law.specs.declared.batches.BatchResult.TheVariants as result
use Rattle.session_law.specs.declared.task_ends.TaskEnd.TheVariants as end
use Rattle.session_law.specs.declared.worlds.Reach.{Reach}
use Rattle.session_law.specs.declared.worlds.Stepped.{Stepped}
use Rattle.session_law.specs.declared.worlds.World.{World}
use Rattle.session_law.specs.BatchSteps.{BatchInput, all_end, end_of, publish_step}
use Rattle.master_run.specs.declared.plans.Plan.{Plan}
use Rattle.master_run.specs.declared.plans.Plan.TheVariants.{Settled, Proposed}
use Rattle.master_run.specs.declared.plans.Proposal.{Proposal}

-- ---- before anything is sent

-- the executor made a state of the current one: it is proposed where it differs
abbrev pub plan_next : World → List Mark → Next → Plan
plan_next world marks Same = Settled (record {
  result = result.Unchanged world.state.version;
  ends = map (end_of (end.Unchanged world.state.version)) marks;
})
plan_next world marks (Changed new) = Proposed (record { new = new; marks = marks })

-- the executor ran, on so many tasks
abbrev pub plan_executed : ℕ → World → Executed → Plan
plan_executed count world (Failed position refusal) = Settled (record {
  result = result.Failed position refusal;
  ends = all_end (end.BatchFailed position refusal) count;
})
plan_executed count world (Made state marks) = plan_next world marks (next_of world.state state (world.proposals + 2))

unfoldable pub plan_of : Kind → List Task → World → Plan
plan_of kind tasks world =
    if needs_master kind && not world.in_office
    then Settled (record { result = result.NotMaster; ends = all_end end.NotMaster (length tasks) })
    else plan_executed (length tasks) world (executed kind world.state (numbered 0 tasks))

-- ---- once the nodes have answered

-- a proposal is published, with what it reached; what is settled is so whatever is sent
abbrev pub concluded : (Proposal → Reach) → BatchInput → World → Plan → Stepped × World
concluded reach input world (Settled stepped) = (stepped, world)
concluded reach input world (Proposed proposal) = publish_step input world proposal.new proposal.marks (reach proposal)
