-- What an executor makes of a batch: a fold over its tasks, each on the state that those before it left. That it runs a
-- queue's tasks as one batch, completes each by its context and leaves the versions to the master is Elasticsearch's
-- (`ClusterStateTaskExecutor`, `MasterService`); that its marks stand in the order of the tasks, and that the first
-- refused task fails a batch that fails as a whole, are this project's own.
use Rattle.std.specs.Prelude.{◌≡◌, ℕ, ◌-◌, ◌^◌, ◌<◌, List, [], ◌∷◌, ◌++◌, map, if◌then◌else◌}
use Rattle.std.specs.List.{AllByRecursion}
use Rattle.meta_state.specs.declared.index_metadata.IndexMetadata.{IndexMetadata}
use Rattle.meta_state.specs.declared.cluster_state.ClusterState.{ClusterState}
use Rattle.executors.specs.declared.contexts.TaskContext.{TaskContext}
use Rattle.executors.specs.declared.executions.Executed.{Executed}
use Rattle.executors.specs.declared.executions.Executed.TheVariants.{Made, Failed}
use Rattle.executors.specs.declared.contexts.Mark.{Mark}
use Rattle.executors.specs.declared.contexts.Verdict.{Verdict}
use Rattle.executors.specs.declared.contexts.Verdict.TheVariants.{Success, Refused}
use Rattle.executors.specs.declared.kinds.Kind.{Kind}
use Rattle.executors.specs.declared.folds.Ran.{Ran}
use Rattle.executors.specs.declared.tasks.Task.{Task}
use Rattle.executors.specs.Contexts.{marked}
use Rattle.executors.specs.Kinds.{is_atomic}
use Rattle.executors.specs.TaskRuns.{task_outcome}

abbrev pub tasks_of : List TaskContext → List Task
tasks_of contexts = map (λ c. c.task) contexts

-- before the first task
abbrev pub ran_none : ClusterState → Ran
ran_none state = record { state = state; marks = [] }

-- after one task more
abbrev pub ran_more : Ran → TaskContext → Ran
ran_more ran context = record {
  state = (task_outcome ran.state context.task).0;
  marks = ran.marks ++ marked context.position (task_outcome ran.state context.task).1 ∷ [];
}

-- after all tasks of a batch
unfoldable pub folded : Ran → List TaskContext → Ran
folded ran [] = ran
folded ran (context ∷ contexts) = folded (ran_more ran context) contexts

abbrev pub made_of : Ran → Executed
made_of ran = Made ran.state ran.marks

-- a refused task fails its batch
abbrev pub failed_by : Verdict → ℕ → Executed → Executed
failed_by Success position rest = rest
failed_by (Refused refusal) position rest = Failed position refusal

-- the first refused task of a batch fails it
abbrev pub failed_or : List Mark → Executed → Executed
failed_or [] made = made
failed_or (mark ∷ marks) made = failed_by mark.verdict mark.position (failed_or marks made)

-- a batch that fails as a whole where a task is refused, whatever was marked before
abbrev pub unless_refused : Ran → Executed
unless_refused ran = failed_or ran.marks (made_of ran)

-- what follows the last task
abbrev pub settled : Kind → Ran → Executed
settled kind ran = if is_atomic kind then unless_refused ran else made_of ran

-- what a kind of executor makes of a batch on a state
unfoldable pub executed : Kind → ClusterState → List TaskContext → Executed
executed kind state contexts = settled kind (folded (ran_none state) contexts)

-- one mark for each context, in order, where a state was made
abbrev pub AreMarked : List TaskContext → Executed → Type 0
AreMarked contexts (Made state marks) = map (λ m. m.position) marks ≡ map (λ c. c.position) contexts
AreMarked contexts (Failed position refusal) = Unit {0}

-- two states whose identifier, version and metadata version are the same
pub record HasVersionsOf (old new : ClusterState) : Type 0 where
  pub id : new.id ≡ old.id
  pub version : new.version ≡ old.version
  pub metadata_version : new.metadata.version ≡ old.metadata.version

-- an executor raises no version of the state: that is the master's alone
abbrev pub KeepsVersions : ClusterState → Executed → Type 0
KeepsVersions old (Made state marks) = HasVersionsOf old state
KeepsVersions old (Failed position refusal) = Unit {0}

-- each version of an index can rise once more
pub record CanIndexRise (index : IndexMetadata) : Type 0 where
  pub version : index.version < 2 ^ 64 - 1
  pub settings_version : index.settings_version < 2 ^ 64 - 1
  pub aliases_version : index.aliases_version < 2 ^ 64 - 1

-- each counter that tasks raise can rise once more
pub record CanRise (state : ClusterState) : Type 0 where
  pub term : state.term < 2 ^ 64 - 1
  pub created : state.metadata.created < 2 ^ 64 - 1
  pub indices : AllByRecursion (λ p. CanIndexRise p.1) state.metadata.indices
