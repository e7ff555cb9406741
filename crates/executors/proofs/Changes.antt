-- What an executor changes: no identifier and no version of the state, and of its indices, settings and nodes those
-- alone that its tasks are about.
use Rattle.std.specs.Prelude.{ℕ, ◌+◌, ◌==◌, Bool, true, false, List, [], ◌∷◌, Option, Some, None, refl, if◌then◌else◌}
use Rattle.std.proofs.Common.{◌∙◌}
use Rattle.std.specs.Bool.{beq}
use Rattle.plain_data.specs.Agreements as maps
use Rattle.plain_data.specs.Pairs.{lookup, with, without}
use Rattle.plain_data.proofs.Agreements.{agree_with, agree_with_itself, agree_without}
use Rattle.meta_state.specs.declared.index_metadata.IndexMetadata.{IndexMetadata}
use Rattle.meta_state.specs.declared.cluster_state.ClusterState.{ClusterState}
use Rattle.meta_state.specs.declared.node_info.NodeInfo.{NodeInfo}
use Rattle.meta_state.specs.declared.touches.Touched.{Touched}
use Rattle.meta_state.specs.Aliases.{is_aliased}
use Rattle.meta_state.specs.Touches.{AgreeOutside, touched_by_both, touched_none}
use Rattle.meta_state.proofs.Agreeing.{state_agrees_with_itself, states_agree_outside_both}
use Rattle.executors.specs.declared.folds.Ran.{Ran}
use Rattle.executors.specs.declared.contexts.TaskContext.{TaskContext}
use Rattle.executors.specs.declared.refusals.TaskRefusal.{TaskRefusal}
use Rattle.executors.specs.declared.tasks.Task.{Task}
use Rattle.executors.specs.declared.tasks.Task.TheVariants as task
use Rattle.executors.specs.AliasTasks.{add_refusal, added_at, remove_refusal, removed_at, with_alias, without_alias}
use Rattle.executors.specs.Executions.{folded, ran_none, ran_more, tasks_of, HasVersionsOf}
use Rattle.executors.specs.IndexTasks.{create_refusal, missing_refusal, index_setting_refusal, new_index, replicas_at, with_replicas, opened_at, with_opened, with_index}
use Rattle.executors.specs.NodeTasks.{join_refusal, leave_refusal, reelected_in}
use Rattle.executors.specs.TaskRuns.{task_outcome, alias_outcome, outcome}
use Rattle.executors.specs.SettingTasks.{setting_refusal, set_in, settings_with}
use Rattle.executors.specs.Touching.{index_alone, node_alone, setting_alone, touched_also, touched_by, touched_by_one}

-- what tasks that are about these names may make of a state
pub record IsChange (touched : Touched) (old new : ClusterState) : Type 0 where
  pub versions : HasVersionsOf old new
  pub outside : AgreeOutside touched old new

then_versions : (a b c : ClusterState) → HasVersionsOf a b → HasVersionsOf b c → HasVersionsOf a c
then_versions a b c p q = record { id = q.id ∙ p.id; version = q.version ∙ p.version; metadata_version = q.metadata_version ∙ p.metadata_version }

no_change : (touched : Touched) (state : ClusterState) → IsChange touched state state
no_change touched state = record {
  versions = record { id = refl; version = refl; metadata_version = refl };
  outside = state_agrees_with_itself touched state;
}

change_after : (touched others : Touched) (a b c : ClusterState) → IsChange touched a b → IsChange others b c → IsChange (touched_by_both touched others) a c
change_after touched others a b c p q = record {
  versions = then_versions a b c p.versions q.versions;
  outside = states_agree_outside_both touched others a b c p.outside q.outside;
}

-- ---- one key of a map

module _ {V : Type 0} where
  put_in : (name : List ℕ) (v : V) (m : List (List ℕ × V)) → maps.AgreeOutside ((name, tt) ∷ []) m (with name v m)
  put_in name v m = agree_with [] name m m (agree_with_itself [] m) v

  taken_out : (name : List ℕ) (m : List (List ℕ × V)) → maps.AgreeOutside ((name, tt) ∷ []) m (without name m)
  taken_out name m = agree_without [] name m m (agree_with_itself [] m)

set_at : (key : List ℕ) (value : Option (List ℕ)) (settings : List (List ℕ × List ℕ)) → maps.AgreeOutside ((key, tt) ∷ []) settings (settings_with settings key value)
set_at key None settings = taken_out key settings
set_at key (Some value) settings = put_in key value settings

-- ---- one task

index_changed : (state : ClusterState) (name : List ℕ) (created : ℕ) (indices : List (List ℕ × IndexMetadata)) → maps.AgreeOutside ((name, tt) ∷ []) state.metadata.indices indices
    → IsChange (index_alone name) state (record state { metadata = record state.metadata { created = created; indices = indices } })
index_changed state name created indices agree = record {
  versions = record { id = refl; version = refl; metadata_version = refl };
  outside = record { indices = agree; settings = λ _ _. refl; nodes = λ _ _. refl };
}

index_put : (state : ClusterState) (name : List ℕ) (index : IndexMetadata) → IsChange (index_alone name) state (with_index state name index)
index_put state name index = index_changed state name state.metadata.created _ (put_in name index state.metadata.indices)

setting_changed : (state : ClusterState) (key : List ℕ) (value : Option (List ℕ)) → IsChange (setting_alone key) state (set_in state key value)
setting_changed state key value = record {
  versions = record { id = refl; version = refl; metadata_version = refl };
  outside = record { indices = λ _ _. refl; settings = set_at key value state.metadata.settings; nodes = λ _ _. refl };
}

node_changed : (state : ClusterState) (name : List ℕ) (nodes : List (List ℕ × NodeInfo)) → maps.AgreeOutside ((name, tt) ∷ []) state.nodes nodes
    → IsChange (node_alone name) state (record state { nodes = nodes })
node_changed state name nodes agree = record {
  versions = record { id = refl; version = refl; metadata_version = refl };
  outside = record { indices = λ _ _. refl; settings = λ _ _. refl; nodes = agree };
}

reelected_change : (state : ClusterState) → IsChange touched_none state (reelected_in state)
reelected_change state = record {
  versions = record { id = refl; version = refl; metadata_version = refl };
  outside = record { indices = λ _ _. refl; settings = λ _ _. refl; nodes = λ _ _. refl };
}

outcome_change : (touched : Touched) (refusal : Option TaskRefusal) (state changed : ClusterState) → IsChange touched state changed → IsChange touched state (outcome refusal state changed).0
outcome_change touched None state changed made = made
outcome_change touched (Some _) state changed made = no_change touched state

either_change : (stays : Bool) (state : ClusterState) (name : List ℕ) (index : IndexMetadata) → IsChange (index_alone name) state (if stays then state else with_index state name index)
either_change true state name index = no_change (index_alone name) state
either_change false state name index = index_put state name index

replicas_change : (state : ClusterState) (name : List ℕ) (value : ℕ) (found : Option IndexMetadata) → IsChange (index_alone name) state (replicas_at state name value found)
replicas_change state name value None = no_change (index_alone name) state
replicas_change state name value (Some index) = either_change (index.replicas == value) state name (with_replicas index value)

opened_change : (state : ClusterState) (name : List ℕ) (opened : Bool) (found : Option IndexMetadata) → IsChange (index_alone name) state (opened_at state name opened found)
opened_change state name opened None = no_change (index_alone name) state
opened_change state name opened (Some index) = either_change (beq index.opened opened) state name (with_opened index opened)

added_change : (state : ClusterState) (name alias : List ℕ) (found : Option IndexMetadata) → IsChange (index_alone name) state (added_at state name alias found)
added_change state name alias None = no_change (index_alone name) state
added_change state name alias (Some index) = either_change (is_aliased alias index) state name (with_alias index alias)

removed_change : (state : ClusterState) (name alias : List ℕ) (found : Option IndexMetadata) → IsChange (index_alone name) state (removed_at state name alias found)
removed_change state name alias None = no_change (index_alone name) state
removed_change state name alias (Some index) = index_put state name (without_alias index alias)

alias_change : (state : ClusterState) (index alias : List ℕ) (add : Bool) → IsChange (index_alone index) state (alias_outcome state index alias add).0
alias_change state index alias true = outcome_change (index_alone index) (add_refusal state index alias) state _ (added_change state index alias (lookup index state.metadata.indices))
alias_change state index alias false = outcome_change (index_alone index) (remove_refusal state index alias) state _ (removed_change state index alias (lookup index state.metadata.indices))

task_change : (state : ClusterState) (task : Task) → IsChange (touched_by_one task) state (task_outcome state task).0
unfolding task_outcome
task_change state (task.CreateIndex index shards replicas) = outcome_change (index_alone index) (create_refusal state index shards replicas) state _ (index_changed state index (state.metadata.created + 1) _ (put_in index (new_index (state.metadata.created + 1) shards replicas) state.metadata.indices))
task_change state (task.DeleteIndex index) = outcome_change (index_alone index) (missing_refusal state index) state _ (index_changed state index state.metadata.created _ (taken_out index state.metadata.indices))
task_change state (task.IndexSetting index key value) = outcome_change (index_alone index) (index_setting_refusal state index key value) state _ (replicas_change state index value (lookup index state.metadata.indices))
task_change state (task.OpenClose index opened) = outcome_change (index_alone index) (missing_refusal state index) state _ (opened_change state index opened (lookup index state.metadata.indices))
task_change state (task.Alias index alias add) = alias_change state index alias add
task_change state (task.ClusterSetting key value) = outcome_change (setting_alone key) (setting_refusal key value) state _ (setting_changed state key value)
task_change state (task.Join node) = outcome_change (node_alone node.name) (join_refusal state node) state _ (node_changed state node.name _ (put_in node.name node state.nodes))
task_change state (task.Leave name) = outcome_change (node_alone name) (leave_refusal state name) state _ (node_changed state name _ (taken_out name state.nodes))
task_change state task.Reelect = reelected_change state

-- ---- whole batches

folded_change : (touched : Touched) (initial : ClusterState) (ran : Ran) (contexts : List TaskContext) → IsChange touched initial ran.state
    → IsChange (touched_also touched (tasks_of contexts)) initial (folded ran contexts).state
unfolding folded
folded_change touched initial ran [] made = made
folded_change touched initial ran (context ∷ contexts) made =
    folded_change (touched_by_both touched (touched_by_one context.task)) initial (ran_more ran context) contexts
    (change_after touched (touched_by_one context.task) initial ran.state _ made (task_change ran.state context.task))

-- what all tasks of a batch leave
pub batch_change : (state : ClusterState) (contexts : List TaskContext) → IsChange (touched_by (tasks_of contexts)) state (folded (ran_none state) contexts).state
unfolding touched_by
batch_change state contexts = folded_change touched_none state (ran_none state) contexts (no_change touched_none state)
