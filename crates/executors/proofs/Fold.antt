-- The fold of a batch: how far it has come, and that the counters that tasks raise can still rise.
use Rattle.std.specs.Prelude.{◌≡◌, ℕ, ◌+◌, ◌-◌, ◌^◌, ◌<◌, ◌≤◌, List, [], ◌∷◌, Result, Ok, Err, IfOk, IsOkAnd}
use Rattle.std.proofs.Common.{sym, ◌∙◌, ap, subst, arith}
use Rattle.std.specs.List.{AllByRecursion}
use Rattle.plain_data.specs.declared.memory.OutOfMemory.{OutOfMemory}
use Rattle.meta_state.specs.declared.index_metadata.IndexMetadata.{IndexMetadata}
use Rattle.meta_state.specs.declared.cluster_state.ClusterState.{ClusterState}
use Rattle.meta_state.specs.States.{IsRoomy, IsRoomyIndex, AreRoomy}
use Rattle.executors.specs.declared.folds.Ran.{Ran}
use Rattle.executors.specs.declared.contexts.TaskContext.{TaskContext}
use Rattle.executors.specs.Executions.{folded, ran_none, ran_more, CanRise, CanIndexRise}
use Rattle.executors.proofs.Counts.{IsCountedState, IsCountedIndex, AreCounted, task_counted}

-- ---- room to rise: from a state with room on, each counter stays as low as the count of tasks lets it

roomy_index : (index : IndexMetadata) → IsRoomyIndex index → IsCountedIndex (2 ^ 63 - 1) index
roomy_index index r = record { version = let x = r.version in omega arith; settings_version = let x = r.settings_version in omega arith; aliases_version = let x = r.aliases_version in omega arith }

roomy_indices : (indices : List (List ℕ × IndexMetadata)) → AreRoomy indices → AreCounted (2 ^ 63 - 1) indices
roomy_indices [] r = tt
roomy_indices (p ∷ ps) r = (roomy_index p.1 r.0, roomy_indices ps r.1)

pub roomy_counted : (state : ClusterState) → IsRoomy state → IsCountedState (2 ^ 63 - 1) state
roomy_counted state r = record {
  term = let x = r.term in omega arith;
  created = let x = r.created in omega arith;
  indices = roomy_indices state.metadata.indices r.indices;
}

low_index : (n : ℕ) (index : IndexMetadata) → n + 2 < 2 ^ 64 → IsCountedIndex n index → CanIndexRise index
low_index n index low c = record { version = let x = c.version in omega arith; settings_version = let x = c.settings_version in omega arith; aliases_version = let x = c.aliases_version in omega arith }

low_indices : (n : ℕ) (indices : List (List ℕ × IndexMetadata)) → n + 2 < 2 ^ 64 → AreCounted n indices → AllByRecursion (λ p. CanIndexRise p.1) indices
low_indices n [] low c = tt
low_indices n (p ∷ ps) low c = (low_index n p.1 low c.0, low_indices n ps low c.1)

pub low_rises : (n : ℕ) (state : ClusterState) → n + 2 < 2 ^ 64 → IsCountedState n state → CanRise state
low_rises n state low c = record {
  term = let x = c.term in omega arith;
  created = let x = c.created in omega arith;
  indices = low_indices n state.metadata.indices low c.indices;
}

-- ---- the loop of a batch

-- the tasks that are left lead from here to where all lead, and each of them may raise each counter
pub record IsUnderWay (initial : ClusterState) (all : List TaskContext) (count : ℕ) (left : List TaskContext) (rest : ℕ) (ran : Ran) : Type 0 where
  pub leads : folded ran left ≡ folded (ran_none initial) all
  pub height : ℕ
  pub counted : IsCountedState height ran.state
  pub room : height + rest ≤ 2 ^ 63 - 1 + count

pub under_way_first : (initial : ClusterState) (all items : List TaskContext) (count n : ℕ) (r : Result Ran OutOfMemory)
    → IsRoomy initial → items ≡ all → n ≡ count → IfOk r (λ ran. ran ≡ ran_none initial) → IfOk r (IsUnderWay initial all count items n)
under_way_first initial all items count n (Ok ran) roomy same long e = subst (IsUnderWay initial all count items n) (sym e)
    (record { leads = ap (folded (ran_none initial)) same; height = 2 ^ 63 - 1; counted = roomy_counted initial roomy; room = omega arith })
under_way_first initial all items count n (Err _) roomy same long e = tt

pub under_way_rises : (initial : ClusterState) (all items : List TaskContext) (count n rest : ℕ) (r : Result Ran OutOfMemory)
    → count < 2 ^ 63 → rest + 1 ≡ n → IfOk r (IsUnderWay initial all count items n) → IfOk r (λ before. CanRise before.state)
under_way_rises initial all items count n rest (Ok ran) low one h = low_rises h.height ran.state (let room = h.room in omega arith) h.counted
under_way_rises initial all items count n rest (Err _) low one h = tt

pub under_way_next : (initial : ClusterState) (all : List TaskContext) (count : ℕ) (context : TaskContext) (items left : List TaskContext) (n rest : ℕ) (r s : Result Ran OutOfMemory)
    → items ≡ context ∷ left → rest + 1 ≡ n
    → IfOk r (IsUnderWay initial all count items n) → IfOk s (λ next. IsOkAnd r (λ before. next ≡ ran_more before context))
    → IfOk s (IsUnderWay initial all count left rest)
unfolding folded
under_way_next initial all count context items left n rest (Ok before) (Ok next) front one h e = subst (IsUnderWay initial all count left rest) (sym e)
    (record {
      leads = ap (folded before) (sym front) ∙ h.leads;
      height = h.height + 1;
      counted = task_counted h.height before.state context.task h.counted;
      room = let room = h.room in omega arith;
    })
under_way_next initial all count context items left n rest (Err _) (Ok next) front one h e = absurd e
under_way_next initial all count context items left n rest r (Err _) front one h e = tt

pub under_way_last : (initial : ClusterState) (all : List TaskContext) (count : ℕ) (items : List TaskContext) (n : ℕ) (r : Result Ran OutOfMemory)
    → items ≡ [] → IfOk r (IsUnderWay initial all count items n) → IfOk r (λ ran. ran ≡ folded (ran_none initial) all)
unfolding folded
under_way_last initial all count items n (Ok ran) none h = ap (folded ran) (sym none) ∙ h.leads
under_way_last initial all count items n (Err _) none h = tt
