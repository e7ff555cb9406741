-- One batch: what it does to the world, and how each of its tasks ends. That a task is refused while the master is out of
-- office, that a failed executor ends every task of its batch, that an unchanged state isn't published, and that a failed
-- publication ends every task, are Elasticsearch's rules (`MasterService`). The order in which the cases are tried, and
-- that a failed publication puts the master out of office until a reelect commits, are this project's own.
use Rattle.std.specs.Prelude.{ℕ, ◌+◌, Bool, false, not, ◌&&◌, ◌||◌, List, length, map, if◌then◌else◌}
use Rattle.std.proofs.Common.{replicate}
use Rattle.meta_state.specs.declared.cluster_state.ClusterState.{ClusterState}
use Rattle.meta_state.specs.declared.versions.Next.{Next}
use Rattle.meta_state.specs.declared.versions.Next.TheVariants.{Same, Changed}
use Rattle.meta_state.specs.Versions.{next_of}
use Rattle.executors.specs.declared.contexts.Mark.{Mark}
use Rattle.executors.specs.declared.contexts.Verdict.{Verdict}
use Rattle.executors.specs.declared.contexts.Verdict.TheVariants as verdict
use Rattle.session_law.specs.declared.task_ends.TaskEnd.{TaskEnd}
use Rattle.session_law.specs.declared.task_ends.TaskEnd.TheVariants as end
use Rattle.executors.specs.declared.executions.Executed.{Executed}
use Rattle.executors.specs.declared.executions.Executed.TheVariants as executed
use Rattle.executors.specs.declared.kinds.Kind.{Kind}
use Rattle.scripts.specs.declared.whole_script.ScriptNode.{ScriptNode}
use Rattle.executors.specs.declared.tasks.Task.{Task}
use Rattle.executors.specs.Contexts.{numbered}
use Rattle.executors.specs.Executions as run
use Rattle.executors.specs.Kinds.{needs_master}
use Rattle.session_law.specs.declared.batches.BatchResult.TheVariants as result
use Rattle.session_law.specs.declared.worlds.Reach.{Reach}
use Rattle.session_law.specs.declared.worlds.Stepped.{Stepped}
use Rattle.session_law.specs.declared.worlds.World.{World}
use Rattle.session_law.specs.Publications.{does_commit, reach_of}

-- what a batch is run with, beside the world: which nodes can't be reached (`cut`), the script's nodes, the executor of
-- its queue, its tasks, and the reading at which it commits if at all
pub record BatchInput : Type 0 where
  pub cut : List ℕ → ℕ → Bool
  pub nodes : List ScriptNode
  pub kind : Kind
  pub tasks : List Task
  pub commit : ℕ

-- ---- how tasks end

-- every task of a batch ends in the same way
abbrev pub all_end : TaskEnd → ℕ → List TaskEnd
all_end end count = replicate count end

abbrev pub end_by : TaskEnd → Verdict → TaskEnd
end_by success verdict.Success = success
end_by success (verdict.Refused refusal) = end.Refused refusal

-- each task ends as it was marked: a success by what came of its batch
abbrev pub end_of : TaskEnd → Mark → TaskEnd
end_of success mark = end_by success mark.verdict

-- ---- the world after it

-- where the new state is committed; a batch that doesn't need the master puts it into office
abbrev pub committed_world : World → Kind → ClusterState → Reach → World
committed_world world kind new reach = record {
  state = new;
  proposals = world.proposals + 1;
  in_office = world.in_office || not (needs_master kind);
  nodes = reach.nodes;
}

-- where it is dropped: the master is out of office
abbrev pub dropped_world : World → Reach → World
dropped_world world reach = record {
  state = world.state;
  proposals = world.proposals + 1;
  in_office = false;
  nodes = reach.nodes;
}

-- ---- the cases: what came of the batch, and the world after it

-- the new state is published and committed
abbrev pub commit_step : BatchInput → World → ClusterState → List Mark → Reach → Stepped × World
commit_step input world new marks reach = (
  record {
    result = result.Published new.version new.id input.commit reach.diffs reach.fulls (reach.diffs + reach.fulls);
    ends = map (end_of (end.Ok new.version)) marks;
  },
  committed_world world input.kind new reach,
)

-- too few nodes accepted it, so it is dropped
abbrev pub drop_step : BatchInput → World → ClusterState → Reach → Stepped × World
drop_step input world new reach = (
  record {
    result = result.PublishFailed new.id reach.diffs reach.fulls (reach.diffs + reach.fulls);
    ends = all_end end.PublishFailed (length input.tasks);
  },
  dropped_world world reach,
)

abbrev pub publish_step : BatchInput → World → ClusterState → List Mark → Reach → Stepped × World
publish_step input world new marks reach =
    if does_commit new reach then commit_step input world new marks reach else drop_step input world new reach

-- the executor made a state of the current one
abbrev pub next_step : BatchInput → World → List Mark → Next → Stepped × World
next_step input world marks Same = (
  record {
    result = result.Unchanged world.state.version;
    ends = map (end_of (end.Unchanged world.state.version)) marks;
  },
  world,
)
next_step input world marks (Changed new) =
    publish_step input world new marks (reach_of input.cut world.state new input.nodes world.nodes)

-- the executor ran
abbrev pub executed_step : BatchInput → World → Executed → Stepped × World
executed_step input world (executed.Failed position refusal) = (
  record {
    result = result.Failed position refusal;
    ends = all_end (end.BatchFailed position refusal) (length input.tasks);
  },
  world,
)
executed_step input world (executed.Made state marks) =
    next_step input world marks (next_of world.state state (world.proposals + 2))

-- the master is out of office, and the executor needs it
abbrev pub refused_step : BatchInput → World → Stepped × World
refused_step input world = (record { result = result.NotMaster; ends = all_end end.NotMaster (length input.tasks) }, world)

unfoldable pub batch_step : BatchInput → World → Stepped × World
batch_step input world =
    if needs_master input.kind && not world.in_office
    then refused_step input world
    else executed_step input world (run.executed input.kind world.state (numbered 0 input.tasks))
