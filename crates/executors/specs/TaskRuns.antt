-- What one task does to a state, by its kind. That a refused task changes nothing is Elasticsearch's
-- (`ClusterStateTaskExecutor.TaskContext.onFailure`); the tasks' own files say where their rules come from.
use Rattle.std.specs.Prelude.{ℕ, Bool, true, false, List, Some, None, Option}
use Rattle.meta_state.specs.declared.cluster_state.ClusterState.{ClusterState}
use Rattle.executors.specs.declared.contexts.Verdict.{Verdict}
use Rattle.executors.specs.declared.contexts.Verdict.TheVariants.{Success, Refused}
use Rattle.executors.specs.declared.refusals.TaskRefusal.{TaskRefusal}
use Rattle.executors.specs.declared.tasks.Task.{Task}
use Rattle.executors.specs.declared.tasks.Task.TheVariants as task
use Rattle.executors.specs.IndexTasks.{create_refusal, created_in, deleted_in, missing_refusal, index_setting_refusal, replicas_in, opened_in}
use Rattle.executors.specs.AliasTasks.{add_refusal, added_in, remove_refusal, removed_in}
use Rattle.executors.specs.SettingTasks.{setting_refusal, set_in}
use Rattle.executors.specs.NodeTasks.{join_refusal, joined_in, leave_refusal, left_in, reelected_in}

-- a refused task changes nothing
abbrev pub outcome : Option TaskRefusal → ClusterState → ClusterState → ClusterState × Verdict
outcome None state changed = (changed, Success)
outcome (Some refusal) state changed = (state, Refused refusal)

-- an alias is added, or taken away
abbrev pub alias_outcome : ClusterState → List ℕ → List ℕ → Bool → ClusterState × Verdict
alias_outcome state index alias true = outcome (add_refusal state index alias) state (added_in state index alias)
alias_outcome state index alias false = outcome (remove_refusal state index alias) state (removed_in state index alias)

-- the state that one task leaves, and how it was completed
unfoldable pub task_outcome : ClusterState → Task → ClusterState × Verdict
task_outcome state (task.CreateIndex index shards replicas) = outcome (create_refusal state index shards replicas) state (created_in state index shards replicas)
task_outcome state (task.DeleteIndex index) = outcome (missing_refusal state index) state (deleted_in state index)
task_outcome state (task.IndexSetting index key value) = outcome (index_setting_refusal state index key value) state (replicas_in state index value)
task_outcome state (task.OpenClose index opened) = outcome (missing_refusal state index) state (opened_in state index opened)
task_outcome state (task.Alias index alias add) = alias_outcome state index alias add
task_outcome state (task.ClusterSetting key value) = outcome (setting_refusal key value) state (set_in state key value)
task_outcome state (task.Join node) = outcome (join_refusal state node) state (joined_in state node)
task_outcome state (task.Leave name) = outcome (leave_refusal state name) state (left_in state name)
task_outcome state task.Reelect = (reelected_in state, Success)
