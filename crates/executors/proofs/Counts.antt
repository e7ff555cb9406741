-- How high the counters of a state can stand that tasks raise: at most one above how many tasks there were.
use Rattle.std.specs.Prelude.{◌≡◌, ℕ, ◌+◌, ◌≤◌, ◌==◌, Bool, true, false, List, [], ◌∷◌, length, Option, Some, None, if◌then◌else◌, cond, refl}
use Rattle.std.proofs.Common.{arith, sym, subst}
use Rattle.std.specs.Bool.{beq}
use Rattle.std.specs.List.{AllByRecursion}
use Rattle.std.specs.Map as entries
use Rattle.std.specs.BTreeMap as tree
use Rattle.std.specs.Ordering.{nat_cmp, match_ordering}
use Rattle.std.specs.declared.cmp.Ordering.{Ordering}
use Rattle.std.specs.declared.cmp.Ordering.TheVariants.{Less, Equal, Greater}
use Rattle.std.specs.Cmp.Lexicographic.{slice_cmp}
use Rattle.plain_data.specs.Pairs.{lookup, with}
use Rattle.meta_state.specs.declared.index_metadata.IndexMetadata.{IndexMetadata}
use Rattle.meta_state.specs.declared.cluster_state.ClusterState.{ClusterState}
use Rattle.meta_state.specs.Aliases.{is_aliased}
use Rattle.executors.specs.declared.folds.Ran.{Ran}
use Rattle.executors.specs.declared.contexts.TaskContext.{TaskContext}
use Rattle.executors.specs.declared.executions.Executed.{Executed}
use Rattle.executors.specs.declared.executions.Executed.TheVariants.{Made, Failed}
use Rattle.executors.specs.declared.kinds.Kind.{Kind}
use Rattle.executors.specs.declared.refusals.TaskRefusal.{TaskRefusal}
use Rattle.executors.specs.declared.tasks.Task.{Task}
use Rattle.executors.specs.declared.tasks.Task.TheVariants as task
use Rattle.executors.specs.AliasTasks.{add_refusal, added_at, remove_refusal, removed_at, with_alias, without_alias}
use Rattle.executors.specs.Contexts.{numbered}
use Rattle.executors.specs.Executions.{executed, settled, unless_refused, made_of, folded, ran_none, ran_more}
use Rattle.executors.specs.IndexTasks.{create_refusal, created_in, new_index, deleted_in, missing_refusal, index_setting_refusal, replicas_at, with_replicas, opened_at, with_opened, with_index}
use Rattle.executors.specs.Kinds.{is_atomic}
use Rattle.executors.specs.NodeTasks.{join_refusal, joined_in, leave_refusal, left_in, reelected_in}
use Rattle.executors.specs.TaskRuns.{task_outcome, alias_outcome, outcome}
use Rattle.executors.specs.SettingTasks.{setting_refusal, set_in}
use Rattle.executors.proofs.Rising.{FoundAll, found_in}
use Rattle.executors.proofs.Settled.{settled_or}

pub record IsCountedIndex (n : ℕ) (index : IndexMetadata) : Type 0 where
  pub version : index.version ≤ n + 1
  pub settings_version : index.settings_version ≤ n + 1
  pub aliases_version : index.aliases_version ≤ n + 1

abbrev pub AreCounted : ℕ → List (List ℕ × IndexMetadata) → Type 0
AreCounted n indices = AllByRecursion (λ p. IsCountedIndex n p.1) indices

-- what tasks alone raise
pub record IsCountedState (n : ℕ) (state : ClusterState) : Type 0 where
  pub term : state.term ≤ n + 1
  pub created : state.metadata.created ≤ n
  pub indices : AreCounted n state.metadata.indices

index_later : (n m : ℕ) (index : IndexMetadata) → n ≤ m → IsCountedIndex n index → IsCountedIndex m index
index_later n m index h c = record { version = let x = c.version in omega arith; settings_version = let x = c.settings_version in omega arith; aliases_version = let x = c.aliases_version in omega arith }

indices_later : (n m : ℕ) (indices : List (List ℕ × IndexMetadata)) → n ≤ m → AreCounted n indices → AreCounted m indices
indices_later n m [] h c = tt
indices_later n m (p ∷ ps) h c = (index_later n m p.1 h c.0, indices_later n m ps h c.1)

pub state_later : (n m : ℕ) (state : ClusterState) → n ≤ m → IsCountedState n state → IsCountedState m state
state_later n m state h c = record {
  term = let x = c.term in omega arith;
  created = let x = c.created in omega arith;
  indices = indices_later n m state.metadata.indices h c.indices;
}

-- ---- maps whose values each meet a fact: one more value that meets it, and one less

by_order : {V : Type 0} (Q : V → Type 0) (k : List ℕ) (v : V) (e : List ℕ × V) (es more : List (List ℕ × V))
    → Q v → AllByRecursion (λ p. Q p.1) (e ∷ es) → AllByRecursion (λ p. Q p.1) more
    → (o : Ordering) → AllByRecursion (λ p. Q p.1) (match_ordering o ((k, v) ∷ e ∷ es) ((e.0, v) ∷ es) (e ∷ more))
by_order Q k v e es more q all rest Less = (q, all)
by_order Q k v e es more q all rest Equal = (q, all.1)
by_order Q k v e es more q all rest Greater = (all.0, rest)

with_all : {V : Type 0} (Q : V → Type 0) (k : List ℕ) (v : V) (es : List (List ℕ × V)) → Q v → AllByRecursion (λ p. Q p.1) es → AllByRecursion (λ p. Q p.1) (with k v es)
with_all Q k v [] q all = (q, tt)
with_all Q k v (e ∷ es) q all = by_order Q k v e es (with k v es) q all (with_all Q k v es q all.1) (slice_cmp nat_cmp k e.0)

by_key : {V : Type 0} (Q : V → Type 0) (e : List ℕ × V) (es more : List (List ℕ × V)) → AllByRecursion (λ p. Q p.1) (e ∷ es) → AllByRecursion (λ p. Q p.1) more
    → (b : Bool) → AllByRecursion (λ p. Q p.1) (cond b es (e ∷ more))
by_key Q e es more all rest true = all.1
by_key Q e es more all rest false = (all.0, rest)

without_all : {V : Type 0} (Q : V → Type 0) (test : List ℕ → Bool) (es : List (List ℕ × V)) → AllByRecursion (λ p. Q p.1) es → AllByRecursion (λ p. Q p.1) (entries.remove_entry test es)
without_all Q test [] all = tt
without_all Q test (e ∷ es) all = by_key Q e es (entries.remove_entry test es) all (without_all Q test es all.1) (test e.0)

-- ---- one task raises each counter by one at most

-- a refused task raises none
outcome_counted : (n : ℕ) (refusal : Option TaskRefusal) (state changed : ClusterState) → IsCountedState n state → IsCountedState (n + 1) changed
    → IsCountedState (n + 1) (outcome refusal state changed).0
outcome_counted n None state changed c d = d
outcome_counted n (Some _) state changed c d = state_later n (n + 1) state (omega arith) c

-- another index in the place of one
put_counted : (n : ℕ) (state : ClusterState) (name : List ℕ) (index : IndexMetadata) → IsCountedState n state → IsCountedIndex (n + 1) index
    → IsCountedState (n + 1) (with_index state name index)
put_counted n state name index c d = record {
  term = let x = c.term in omega arith;
  created = let x = c.created in omega arith;
  indices = with_all (IsCountedIndex (n + 1)) name index state.metadata.indices d (indices_later n (n + 1) state.metadata.indices (omega arith) c.indices);
}

created_counted : (n : ℕ) (state : ClusterState) (index : List ℕ) (shards replicas : ℕ) → IsCountedState n state
    → IsCountedState (n + 1) (created_in state index shards replicas)
created_counted n state index shards replicas c = record {
  term = let x = c.term in omega arith;
  created = let x = c.created in omega arith;
  indices = with_all (IsCountedIndex (n + 1)) index (new_index (state.metadata.created + 1) shards replicas) state.metadata.indices
      (record { version = omega arith; settings_version = omega arith; aliases_version = omega arith })
      (indices_later n (n + 1) state.metadata.indices (omega arith) c.indices);
}

deleted_counted : (n : ℕ) (state : ClusterState) (index : List ℕ) → IsCountedState n state → IsCountedState (n + 1) (deleted_in state index)
deleted_counted n state index c = record {
  term = let x = c.term in omega arith;
  created = let x = c.created in omega arith;
  indices = without_all (IsCountedIndex (n + 1)) (tree.is_at (slice_cmp nat_cmp index)) state.metadata.indices (indices_later n (n + 1) state.metadata.indices (omega arith) c.indices);
}

-- a state that stays, or gets another index
either_counted : (n : ℕ) (stays : Bool) (state : ClusterState) (name : List ℕ) (index : IndexMetadata) → IsCountedState n state → IsCountedIndex (n + 1) index
    → IsCountedState (n + 1) (if stays then state else with_index state name index)
either_counted n true state name index c d = state_later n (n + 1) state (omega arith) c
either_counted n false state name index c d = put_counted n state name index c d

replicas_counted : (n : ℕ) (state : ClusterState) (name : List ℕ) (value : ℕ) (found : Option IndexMetadata) → IsCountedState n state
    → FoundAll (IsCountedIndex n) found → IsCountedState (n + 1) (replicas_at state name value found)
replicas_counted n state name value None c d = state_later n (n + 1) state (omega arith) c
replicas_counted n state name value (Some index) c d = either_counted n (index.replicas == value) state name (with_replicas index value) c
    (record { version = let x = d.version in omega arith; settings_version = let x = d.settings_version in omega arith; aliases_version = let x = d.aliases_version in omega arith })

opened_counted : (n : ℕ) (state : ClusterState) (name : List ℕ) (opened : Bool) (found : Option IndexMetadata) → IsCountedState n state
    → FoundAll (IsCountedIndex n) found → IsCountedState (n + 1) (opened_at state name opened found)
opened_counted n state name opened None c d = state_later n (n + 1) state (omega arith) c
opened_counted n state name opened (Some index) c d = either_counted n (beq index.opened opened) state name (with_opened index opened) c
    (record { version = let x = d.version in omega arith; settings_version = let x = d.settings_version in omega arith; aliases_version = let x = d.aliases_version in omega arith })

added_counted : (n : ℕ) (state : ClusterState) (name alias : List ℕ) (found : Option IndexMetadata) → IsCountedState n state
    → FoundAll (IsCountedIndex n) found → IsCountedState (n + 1) (added_at state name alias found)
added_counted n state name alias None c d = state_later n (n + 1) state (omega arith) c
added_counted n state name alias (Some index) c d = either_counted n (is_aliased alias index) state name (with_alias index alias) c
    (record { version = let x = d.version in omega arith; settings_version = let x = d.settings_version in omega arith; aliases_version = let x = d.aliases_version in omega arith })

removed_counted : (n : ℕ) (state : ClusterState) (name alias : List ℕ) (found : Option IndexMetadata) → IsCountedState n state
    → FoundAll (IsCountedIndex n) found → IsCountedState (n + 1) (removed_at state name alias found)
removed_counted n state name alias None c d = state_later n (n + 1) state (omega arith) c
removed_counted n state name alias (Some index) c d = put_counted n state name (without_alias index alias) c
    (record { version = let x = d.version in omega arith; settings_version = let x = d.settings_version in omega arith; aliases_version = let x = d.aliases_version in omega arith })

-- a task that raises none
same_counted : (n : ℕ) (state changed : ClusterState) → IsCountedState n state → changed.term ≡ state.term → changed.metadata.created ≡ state.metadata.created
    → changed.metadata.indices ≡ state.metadata.indices → IsCountedState (n + 1) changed
same_counted n state changed c term created indices = record {
  term = let x = c.term in omega arith;
  created = let x = c.created in omega arith;
  indices = subst (AreCounted (n + 1)) (sym indices) (indices_later n (n + 1) state.metadata.indices (omega arith) c.indices);
}

reelected_counted : (n : ℕ) (state : ClusterState) → IsCountedState n state → IsCountedState (n + 1) (reelected_in state)
reelected_counted n state c = record {
  term = let x = c.term in omega arith;
  created = let x = c.created in omega arith;
  indices = indices_later n (n + 1) state.metadata.indices (omega arith) c.indices;
}

found_index : (n : ℕ) (state : ClusterState) (name : List ℕ) → IsCountedState n state → FoundAll (IsCountedIndex n) (lookup name state.metadata.indices)
found_index n state name c = found_in (IsCountedIndex n) (tree.is_at (slice_cmp nat_cmp name)) state.metadata.indices c.indices

alias_counted : (n : ℕ) (state : ClusterState) (index alias : List ℕ) (add : Bool) → IsCountedState n state → IsCountedState (n + 1) (alias_outcome state index alias add).0
alias_counted n state index alias true c =
    outcome_counted n (add_refusal state index alias) state _ c (added_counted n state index alias (lookup index state.metadata.indices) c (found_index n state index c))
alias_counted n state index alias false c =
    outcome_counted n (remove_refusal state index alias) state _ c (removed_counted n state index alias (lookup index state.metadata.indices) c (found_index n state index c))

pub task_counted : (n : ℕ) (state : ClusterState) (task : Task) → IsCountedState n state → IsCountedState (n + 1) (task_outcome state task).0
unfolding task_outcome
task_counted n state (task.CreateIndex index shards replicas) c = outcome_counted n (create_refusal state index shards replicas) state _ c (created_counted n state index shards replicas c)
task_counted n state (task.DeleteIndex index) c = outcome_counted n (missing_refusal state index) state _ c (deleted_counted n state index c)
task_counted n state (task.IndexSetting index key value) c =
    outcome_counted n (index_setting_refusal state index key value) state _ c (replicas_counted n state index value (lookup index state.metadata.indices) c (found_index n state index c))
task_counted n state (task.OpenClose index opened) c =
    outcome_counted n (missing_refusal state index) state _ c (opened_counted n state index opened (lookup index state.metadata.indices) c (found_index n state index c))
task_counted n state (task.Alias index alias add) c = alias_counted n state index alias add c
task_counted n state (task.ClusterSetting key value) c = outcome_counted n (setting_refusal key value) state _ c (same_counted n state (set_in state key value) c refl refl refl)
task_counted n state (task.Join node) c = outcome_counted n (join_refusal state node) state _ c (same_counted n state (joined_in state node) c refl refl refl)
task_counted n state (task.Leave name) c = outcome_counted n (leave_refusal state name) state _ c (same_counted n state (left_in state name) c refl refl refl)
task_counted n state task.Reelect c = reelected_counted n state c

-- ---- whole batches

folded_counted : (n : ℕ) (ran : Ran) (place : ℕ) (tasks : List Task) → IsCountedState n ran.state
    → IsCountedState (n + length tasks) (folded ran (numbered place tasks)).state
unfolding folded
folded_counted n ran place [] c = state_later n (n + 0) ran.state (omega arith) c
folded_counted n ran place (task ∷ tasks) c =
    let context : TaskContext = record { position = place; task = task } in
    let rest = folded_counted (n + 1) (ran_more ran context) (place + 1) tasks (task_counted n ran.state task c) in
    state_later (n + 1 + length tasks) (n + length (task ∷ tasks)) (folded (ran_more ran context) (numbered (place + 1) tasks)).state (omega arith) rest

-- what an executor made of a state, where it made one
abbrev pub IsCountedResult : ℕ → Executed → Type 0
IsCountedResult n (Made state marks) = IsCountedState n state
IsCountedResult n (Failed position refusal) = Unit {0}

either_result : (n : ℕ) (atomic : Bool) (ran : Ran) → IsCountedState n ran.state → IsCountedResult n (if atomic then unless_refused ran else made_of ran)
either_result n true ran c = settled_or (IsCountedResult n) (λ _ _. tt) ran.marks (made_of ran) c
either_result n false ran c = c

settled_counted : (n : ℕ) (kind : Kind) (ran : Ran) → IsCountedState n ran.state → IsCountedResult n (settled kind ran)
settled_counted n kind ran c = either_result n (is_atomic kind) ran c

pub executed_counted : (n : ℕ) (kind : Kind) (state : ClusterState) (tasks : List Task) → IsCountedState n state
    → IsCountedResult (n + length tasks) (executed kind state (numbered 0 tasks))
unfolding executed
executed_counted n kind state tasks c = settled_counted (n + length tasks) kind (folded (ran_none state) (numbered 0 tasks)) (folded_counted n (ran_none state) 0 tasks c)
