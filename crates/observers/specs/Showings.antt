-- What a watch that was registered at a node has to do with the states that the node had one after the other: each part
-- was shown them without a gap from its place on, none but the final one hits it, and it is answered exactly where that
-- does; a part begins where the one before it was answered (this project's own, after Elasticsearch's
-- `ClusterStateObserver`).
use Rattle.std.specs.Prelude.{◌≡◌, ℕ, ◌+◌, ◌-◌, ◌≤◌, true, false, not, List, [], ◌∷◌, Option, Some, None, drop, is_some, length, slice_get, take, IsTrue}
use Rattle.std.specs.List.{AllByRecursion, list_all}
use Rattle.meta_state.specs.declared.cluster_state.ClusterState.{ClusterState}
use Rattle.meta_state.specs.declared.predicates.Pred.{Pred}
use Rattle.observers.specs.declared.watchings.WatchPart.{WatchPart}
use Rattle.observers.specs.declared.watchings.WatchSpec.{WatchSpec}
use Rattle.observers.specs.Registries.{Registry}
use Rattle.observers.specs.Watchings.{Watching, does_hit, final_place, has_more, parts_of, pred_of}

-- ---- one part

-- the states that a part was shown before its final one
abbrev pub passed_by : List ClusterState → WatchPart → List ClusterState
passed_by states part = take (part.shown - 1) (drop part.place states)

-- the final state is there, hits, and has this version
pub record IsHitting (last : Option ℕ) (pred : Option Pred) (told : ℕ) (found : Option ClusterState) : Type 0 where
  pub state : ClusterState
  pub is : found ≡ Some state
  pub hits : does_hit last pred state ≡ true
  pub version : state.version ≡ told

abbrev pub IsAnsweredSo : List ClusterState → Option Pred → WatchPart → Option ℕ → Type 0
IsAnsweredSo states pred part None = Unit {0}
IsAnsweredSo states pred part (Some version) = IsHitting part.last pred version (slice_get states (final_place part))

pub record IsShownPart (states : List ClusterState) (preds : List Pred) (part : WatchPart) : Type 0 where
  pub shown : 1 ≤ part.shown
  pub within : part.place + part.shown ≤ length states
  pub passed : IsTrue (list_all (λ s. not (does_hit part.last (slice_get preds part.part) s)) (passed_by states part))
  pub answered : IsAnsweredSo states (slice_get preds part.part) part part.answered

-- ---- the parts of a watch

-- a part begins where the one before it was answered
pub record Follows (part next : WatchPart) : Type 0 where
  pub watch : next.watch ≡ part.watch
  pub number : next.part ≡ part.part + 1
  pub some : IsTrue (is_some part.answered)
  pub last : next.last ≡ part.answered
  pub place : next.place ≡ final_place part

abbrev pub AreFollowing : WatchPart → List WatchPart → Type 0
AreFollowing part [] = Unit {0}
AreFollowing part (next ∷ more) = Follows part next × AreFollowing next more

pub record IsFirst (spec : WatchSpec) (part : WatchPart) : Type 0 where
  pub watch : part.watch ≡ spec.watch
  pub number : part.part ≡ 0
  pub last : part.last ≡ spec.last

abbrev pub AreBegun : WatchSpec → List WatchPart → Type 0
AreBegun spec [] = ⊥
AreBegun spec (first ∷ more) = IsFirst spec first × AreFollowing first more

-- ---- a watch

abbrev pub HasVersion : ℕ → Option ClusterState → Type 0
HasVersion version None = ⊥
HasVersion version (Some state) = state.version ≡ version

pub record IsShown (states : List ClusterState) (w : Watching) : Type 0 where
  pub begun : AreBegun w.spec (parts_of w)
  pub parts : AllByRecursion (IsShownPart states w.spec.preds) (parts_of w)
  pub few : w.part.part + 1 ≤ length w.spec.preds
  pub final : HasVersion w.version (slice_get states (final_place w.part))
  -- where its last part is answered, no predicate is left
  pub whole : (version : ℕ) → w.part.answered ≡ Some version → has_more w ≡ false
  pub ended : (version : ℕ) → w.part.answered ≡ Some version → w.over ≡ true

-- it was shown all states so far, and waits on
pub record IsUpToDate (states : List ClusterState) (w : Watching) : Type 0 where
  pub place : w.part.place + w.part.shown ≡ length states
  pub waits : w.part.answered ≡ None
  pub misses : (state : ClusterState) → slice_get states (final_place w.part) ≡ Some state → does_hit w.part.last (pred_of w) state ≡ false

-- ---- a registry

-- a kept watch is up to date until it is over
abbrev pub IsKeptUp : List ClusterState → Option Watching → Type 0
IsKeptUp states None = ⊥
IsKeptUp states (Some w) = w.over ≡ false → IsUpToDate states w

pub record AreShown (states : List ClusterState) (r : Registry) : Type 0 where
  pub shown : AllByRecursion (IsShown states) r.watchings
  pub kept : AllByRecursion (λ number. IsKeptUp states (slice_get r.watchings number)) r.kept
