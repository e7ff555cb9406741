-- States whose names are names and whose maps are in byte order: each task keeps a state one, and so does each batch.
use Rattle.std.specs.Prelude.{◌≡◌, ℕ, ◌+◌, ◌==◌, Bool, true, false, not, ◌||◌, List, [], ◌∷◌, Option, Some, None, is_none, is_some, refl, IsTrue, if◌then◌else◌}
use Rattle.std.proofs.Common.{sym, subst}
use Rattle.std.specs.Bool.{beq}
use Rattle.std.specs.List.{AllByRecursion}
use Rattle.std.proofs.lemmas.Bool.{or_parts, true≢false}
use Rattle.plain_data.specs.Pairs.{lookup}
use Rattle.meta_state.specs.declared.cluster_state.ClusterState.{ClusterState}
use Rattle.meta_state.specs.declared.index_metadata.IndexMetadata.{IndexMetadata}
use Rattle.meta_state.specs.declared.node_info.NodeInfo.{NodeInfo}
use Rattle.meta_state.specs.Aliases.{is_aliased}
use Rattle.meta_state.specs.Names.{name_fault}
use Rattle.scripts.specs.Names.{is_name}
use Rattle.executors.specs.declared.contexts.TaskContext.{TaskContext}
use Rattle.executors.specs.declared.executions.Executed.{Executed}
use Rattle.executors.specs.declared.executions.Executed.TheVariants.{Made, Failed}
use Rattle.executors.specs.declared.kinds.Kind.{Kind}
use Rattle.executors.specs.declared.refusals.TaskRefusal.{TaskRefusal}
use Rattle.executors.specs.declared.refusals.TaskRefusal.TheVariants.{BadValue, InvalidName, NotFound}
use Rattle.executors.specs.declared.tasks.Task.{Task}
use Rattle.executors.specs.declared.tasks.Task.TheVariants as task
use Rattle.executors.specs.AliasTasks.{add_refusal, added_at, remove_refusal, removed_at, with_alias, without_alias}
use Rattle.executors.specs.Contexts.{numbered}
use Rattle.executors.specs.Executions.{executed, folded, made_of, ran_more, ran_none, unless_refused}
use Rattle.executors.specs.IndexTasks.{create_refusal, created_in, deleted_in, has_index, index_setting_refusal, missing_refusal, new_index, opened_at, replicas_at, with_index, with_opened, with_replicas}
use Rattle.executors.specs.Kinds.{is_atomic}
use Rattle.executors.specs.NodeTasks.{join_refusal, joined_in, leave_refusal, left_in, reelected_in}
use Rattle.executors.specs.SettingTasks.{is_key, is_too_long, set_in, setting_refusal, settings_with}
use Rattle.executors.specs.TaskRuns.{alias_outcome, outcome, task_outcome}
use Rattle.executors.proofs.Settled.{settled_or}
use Rattle.report_law.specs.GoodForm.{is_index_name}
use Rattle.report_law.proofs.NamedMaps.{FoundAt, IsGoodMap, found_good, good_empty, good_put, good_take}
use Rattle.report_law.proofs.Runs.{if_none}

-- ---- what is asked of a state

abbrev pub IsAliasName : List ℕ × Unit {0} → Type 0
IsAliasName p = IsTrue (is_index_name p.0)

pub record IsNamedIndex (p : List ℕ × IndexMetadata) : Type 0 where
  pub name : IsTrue (is_index_name p.0)
  pub aliases : IsGoodMap IsAliasName p.1.aliases

pub record IsNamedNode (p : List ℕ × NodeInfo) : Type 0 where
  pub name : IsTrue (is_name p.0)
  pub own : p.0 ≡ p.1.name

abbrev pub IsNamedSetting : List ℕ × List ℕ → Type 0
IsNamedSetting p = IsTrue (is_key p.0)

-- all but the names of its cluster and its master, of which the zero state has no master
pub record HasNamedMaps (state : ClusterState) : Type 0 where
  pub nodes : IsGoodMap IsNamedNode state.nodes
  pub indices : IsGoodMap IsNamedIndex state.metadata.indices
  pub settings : IsGoodMap IsNamedSetting state.metadata.settings

-- a state of a cluster and a master
pub record IsNamedOf (cluster master : List ℕ) (state : ClusterState) : Type 0 where
  pub of_cluster : state.cluster ≡ cluster
  pub of_master : state.master ≡ master
  pub maps : HasNamedMaps state

-- a task of joining is of a node of a name
abbrev pub is_named_task : Task → Bool
is_named_task (task.Join node) = is_name node.name
is_named_task _ = true

is_none_from : (o : Option ℕ) → is_some o ≡ false → is_none o ≡ true
is_none_from None e = refl
is_none_from (Some n) e = absurd (true≢false e)

not_is : (b : Bool) → not b ≡ false → b ≡ true
not_is true e = refl
not_is false e = absurd (true≢false e)

-- what each task of a batch keeps, a fold over them keeps
fold_keeps : {R : Type 0} (go : R → List TaskContext → R) (step : R → TaskContext → R) (P : R → Type 0)
    → ((r : R) → go r [] ≡ r) → ((r : R) (c : TaskContext) (more : List TaskContext) → go r (c ∷ more) ≡ go (step r c) more)
    → ((r : R) (c : TaskContext) → IsTrue (is_named_task c.task) → P r → P (step r c))
    → (r : R) (place : ℕ) (tasks : List Task) → AllByRecursion (λ t. IsTrue (is_named_task t)) tasks → P r → P (go r (numbered place tasks))
fold_keeps go step P none more keeps r place [] all h = subst P (sym (none r)) h
fold_keeps go step P none more keeps r place (one ∷ tasks) all h =
    let context : TaskContext = record { position = place; task = one } in
    subst P (sym (more r context (numbered (place + 1) tasks)))
    (fold_keeps go step P none more keeps (step r context) (place + 1) tasks all.1 (keeps r context all.0 h))

module _ (cluster master : List ℕ) where
  abbrev Named : ClusterState → Type 0
  Named state = IsNamedOf cluster master state

  -- ---- one task

  -- a refused task changes nothing
  outcome_named : (refusal : Option TaskRefusal) (state changed : ClusterState) → Named state → (refusal ≡ None → Named changed) → Named (outcome refusal state changed).0
  outcome_named None state changed h f = f refl
  outcome_named (Some _) state changed h f = h

  put_named : (state : ClusterState) (name : List ℕ) (index : IndexMetadata) → Named state → IsNamedIndex (name, index) → Named (with_index state name index)
  put_named state name index h one = record {
    of_cluster = h.of_cluster;
    of_master = h.of_master;
    maps = record { nodes = h.maps.nodes; indices = good_put IsNamedIndex name index state.metadata.indices one h.maps.indices; settings = h.maps.settings };
  }

  -- a state that stays, or gets another index
  either_named : (stays : Bool) (state : ClusterState) (name : List ℕ) (index : IndexMetadata) → Named state → IsNamedIndex (name, index)
      → Named (if stays then state else with_index state name index)
  either_named true state name index h one = h
  either_named false state name index h one = put_named state name index h one

  create_named : (state : ClusterState) (index : List ℕ) (shards replicas : ℕ) → create_refusal state index shards replicas ≡ None → IsTrue (is_index_name index)
  create_named state index shards replicas e = is_none_from (name_fault index) (if_none (is_some (name_fault index)) InvalidName _ e).0

  created_named : (state : ClusterState) (index : List ℕ) (shards replicas : ℕ) → Named state → IsTrue (is_index_name index)
      → Named (created_in state index shards replicas)
  created_named state index shards replicas h name = record {
    of_cluster = h.of_cluster;
    of_master = h.of_master;
    maps = record {
      nodes = h.maps.nodes;
      indices = good_put IsNamedIndex index (new_index (state.metadata.created + 1) shards replicas) state.metadata.indices
          (record { name = name; aliases = good_empty IsAliasName }) h.maps.indices;
      settings = h.maps.settings;
    };
  }

  deleted_named : (state : ClusterState) (index : List ℕ) → Named state → Named (deleted_in state index)
  deleted_named state index h = record {
    of_cluster = h.of_cluster;
    of_master = h.of_master;
    maps = record { nodes = h.maps.nodes; indices = good_take IsNamedIndex index state.metadata.indices h.maps.indices; settings = h.maps.settings };
  }

  replicas_named : (state : ClusterState) (name : List ℕ) (value : ℕ) (found : Option IndexMetadata) → Named state → FoundAt IsNamedIndex name found
      → Named (replicas_at state name value found)
  replicas_named state name value None h one = h
  replicas_named state name value (Some index) h one =
      either_named (index.replicas == value) state name (with_replicas index value) h (record { name = one.name; aliases = one.aliases })

  opened_named : (state : ClusterState) (name : List ℕ) (opened : Bool) (found : Option IndexMetadata) → Named state → FoundAt IsNamedIndex name found
      → Named (opened_at state name opened found)
  opened_named state name opened None h one = h
  opened_named state name opened (Some index) h one =
      either_named (beq index.opened opened) state name (with_opened index opened) h (record { name = one.name; aliases = one.aliases })

  added_named : (state : ClusterState) (name alias : List ℕ) (found : Option IndexMetadata) → Named state → FoundAt IsNamedIndex name found → IsTrue (is_index_name alias)
      → Named (added_at state name alias found)
  added_named state name alias None h one named = h
  added_named state name alias (Some index) h one named =
      either_named (is_aliased alias index) state name (with_alias index alias) h
      (record { name = one.name; aliases = good_put IsAliasName alias tt index.aliases named one.aliases })

  removed_named : (state : ClusterState) (name alias : List ℕ) (found : Option IndexMetadata) → Named state → FoundAt IsNamedIndex name found
      → Named (removed_at state name alias found)
  removed_named state name alias None h one = h
  removed_named state name alias (Some index) h one =
      put_named state name (without_alias index alias) h (record { name = one.name; aliases = good_take IsAliasName alias index.aliases one.aliases })

  add_named : (state : ClusterState) (index alias : List ℕ) → add_refusal state index alias ≡ None → IsTrue (is_index_name alias)
  add_named state index alias e =
      let there = if_none (not (has_index state index)) NotFound _ e in
      is_none_from (name_fault alias) (if_none (is_some (name_fault alias)) InvalidName _ there.1).0

  found_named : (state : ClusterState) (name : List ℕ) → Named state → FoundAt IsNamedIndex name (lookup name state.metadata.indices)
  found_named state name h = found_good IsNamedIndex name state.metadata.indices h.maps.indices.all

  alias_named : (state : ClusterState) (index alias : List ℕ) (add : Bool) → Named state → Named (alias_outcome state index alias add).0
  alias_named state index alias true h =
      outcome_named (add_refusal state index alias) state _ h
      (λ e. added_named state index alias (lookup index state.metadata.indices) h (found_named state index h) (add_named state index alias e))
  alias_named state index alias false h =
      outcome_named (remove_refusal state index alias) state _ h (λ e. removed_named state index alias (lookup index state.metadata.indices) h (found_named state index h))

  settings_named : (settings : List (List ℕ × List ℕ)) (key : List ℕ) (value : Option (List ℕ)) → IsTrue (is_key key) → IsGoodMap IsNamedSetting settings
      → IsGoodMap IsNamedSetting (settings_with settings key value)
  settings_named settings key None named good = good_take IsNamedSetting key settings good
  settings_named settings key (Some value) named good = good_put IsNamedSetting key value settings named good

  setting_named : (key : List ℕ) (value : Option (List ℕ)) → setting_refusal key value ≡ None → IsTrue (is_key key)
  setting_named key value e =
      not_is (is_key key) (or_parts (not (is_key key)) (is_too_long value) (if_none (not (is_key key) || is_too_long value) BadValue None e).0).0

  set_named : (state : ClusterState) (key : List ℕ) (value : Option (List ℕ)) → Named state → IsTrue (is_key key) → Named (set_in state key value)
  set_named state key value h named = record {
    of_cluster = h.of_cluster;
    of_master = h.of_master;
    maps = record { nodes = h.maps.nodes; indices = h.maps.indices; settings = settings_named state.metadata.settings key value named h.maps.settings };
  }

  joined_named : (state : ClusterState) (node : NodeInfo) → Named state → IsTrue (is_name node.name) → Named (joined_in state node)
  joined_named state node h name = record {
    of_cluster = h.of_cluster;
    of_master = h.of_master;
    maps = record {
      nodes = good_put IsNamedNode node.name node state.nodes (record { name = name; own = refl }) h.maps.nodes;
      indices = h.maps.indices;
      settings = h.maps.settings;
    };
  }

  left_named : (state : ClusterState) (name : List ℕ) → Named state → Named (left_in state name)
  left_named state name h = record {
    of_cluster = h.of_cluster;
    of_master = h.of_master;
    maps = record { nodes = good_take IsNamedNode name state.nodes h.maps.nodes; indices = h.maps.indices; settings = h.maps.settings };
  }

  reelected_named : (state : ClusterState) → Named state → Named (reelected_in state)
  reelected_named state h = record {
    of_cluster = h.of_cluster;
    of_master = h.of_master;
    maps = record { nodes = h.maps.nodes; indices = h.maps.indices; settings = h.maps.settings };
  }

  task_named : (state : ClusterState) (one : Task) → IsTrue (is_named_task one) → Named state → Named (task_outcome state one).0
  unfolding task_outcome
  task_named state (task.CreateIndex index shards replicas) t h =
      outcome_named (create_refusal state index shards replicas) state _ h (λ e. created_named state index shards replicas h (create_named state index shards replicas e))
  task_named state (task.DeleteIndex index) t h = outcome_named (missing_refusal state index) state _ h (λ e. deleted_named state index h)
  task_named state (task.IndexSetting index key value) t h =
      outcome_named (index_setting_refusal state index key value) state _ h (λ e. replicas_named state index value (lookup index state.metadata.indices) h (found_named state index h))
  task_named state (task.OpenClose index opened) t h =
      outcome_named (missing_refusal state index) state _ h (λ e. opened_named state index opened (lookup index state.metadata.indices) h (found_named state index h))
  task_named state (task.Alias index alias add) t h = alias_named state index alias add h
  task_named state (task.ClusterSetting key value) t h = outcome_named (setting_refusal key value) state _ h (λ e. set_named state key value h (setting_named key value e))
  task_named state (task.Join node) t h = outcome_named (join_refusal state node) state _ h (λ e. joined_named state node h t)
  task_named state (task.Leave name) t h = outcome_named (leave_refusal state name) state _ h (λ e. left_named state name h)
  task_named state task.Reelect t h = reelected_named state h

  -- ---- whole batches

  folded_named : (state : ClusterState) (tasks : List Task) → AllByRecursion (λ t. IsTrue (is_named_task t)) tasks → Named state
      → Named (folded (ran_none state) (numbered 0 tasks)).state
  unfolding folded
  folded_named state tasks all h =
      fold_keeps folded ran_more (λ r. Named r.state) (λ r. refl) (λ r c more. refl) (λ r c t k. task_named r.state c.task t k) (ran_none state) 0 tasks all h

  -- what an executor made of a state, where it made one
  abbrev pub IsNamedResult : Executed → Type 0
  IsNamedResult (Made state marks) = IsNamedOf cluster master state
  IsNamedResult (Failed position refusal) = Unit {0}

  either_result : (atomic : Bool) (state : ClusterState) (contexts : List TaskContext) → Named (folded (ran_none state) contexts).state
      → IsNamedResult (if atomic then unless_refused (folded (ran_none state) contexts) else made_of (folded (ran_none state) contexts))
  either_result true state contexts h = settled_or IsNamedResult (λ _ _. tt) (folded (ran_none state) contexts).marks (made_of (folded (ran_none state) contexts)) h
  either_result false state contexts h = h

  pub executed_named : (kind : Kind) (state : ClusterState) (tasks : List Task) → AllByRecursion (λ t. IsTrue (is_named_task t)) tasks → Named state
      → IsNamedResult (executed kind state (numbered 0 tasks))
  unfolding executed
  executed_named kind state tasks all h = either_result (is_atomic kind) state (numbered 0 tasks) (folded_named state tasks all h)
