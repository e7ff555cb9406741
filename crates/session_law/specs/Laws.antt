-- Laws over the definitions, in the subject's own words. Each is the contract of a function of its own. They are this
-- project's own.
use Rattle.std.specs.Prelude.{◌≡◌, ℕ, ◌+◌, ◌≤◌, ◌<◌, ◌⊎◌, false, List, [], ◌∷◌, Option, Some, None, count_by, drop, filter_map, is_some, map, slice_get, IsTrue}
use Rattle.std.specs.List.{AllByRecursion}
use Rattle.plain_data.specs.Pairs.{InOrder, lookup}
use Rattle.meta_state.specs.declared.looks.Found.{Found}
use Rattle.meta_state.specs.declared.looks.Found.TheVariants as found
use Rattle.meta_state.specs.declared.looks.Look.TheVariants as look
use Rattle.meta_state.specs.declared.predicates.Pred.{Pred}
use Rattle.meta_state.specs.declared.cluster_state.ClusterState.{ClusterState}
use Rattle.meta_state.specs.Hits.{is_hit_by}
use Rattle.meta_state.specs.Looks.{found_at}
use Rattle.scripts.specs.declared.whole_script.Script.{Script}
use Rattle.scripts.specs.declared.steps.Step.{Step}
use Rattle.session_law.specs.declared.batches.Batch.{Batch}
use Rattle.session_law.specs.declared.batches.BatchResult.{BatchResult}
use Rattle.session_law.specs.declared.batches.BatchResult.TheVariants as result
use Rattle.session_law.specs.declared.watches.Watch.{Watch}
use Rattle.session_law.specs.declared.worlds.World.{World}
use Rattle.session_law.specs.Committed.{committed_in}
use Rattle.session_law.specs.Histories.{IsSerial, after, history_of, step_at, stepped}
use Rattle.session_law.specs.NodeRecords.{applied_by, handed_to}
use Rattle.session_law.specs.Outcomes.{holds}
use Rattle.session_law.specs.Views.{views_of}
use Rattle.session_law.specs.Watches.{IsWatched, answered_version, final_place, pred_of_part, states_at}

-- ---- the committed versions of a book's batches are 2, 3, 4, .. in order

-- the version under which a batch was published
abbrev pub published_version : BatchResult → Option ℕ
published_version (result.Published version id commit diffs fulls accepted) = Some version
published_version _ = None

abbrev pub published_versions : List Batch → List ℕ
published_versions batches = filter_map (λ b. published_version b.result) batches

-- n, n + 1, n + 2, .. in order
abbrev pub AreConsecutive : ℕ → List ℕ → Type 0
AreConsecutive n [] = Unit {0}
AreConsecutive n (v ∷ vs) = (v ≡ n) × AreConsecutive (n + 1) vs

-- the versions that its batches published, and those of the states that are committed
pub record AreVersionsInOrder (script : Script) (batches : List Batch) : Type 0 where
  pub published : AreConsecutive 2 (published_versions batches)
  pub committed : map (λ s. s.version) (committed_in (history_of script batches)) ≡ published_versions batches

abbrev pub VersionsAreInOrder : Type 0
VersionsAreInOrder = (script : Script) (batches : List Batch) → IsSerial script batches → AreVersionsInOrder script batches

-- ---- no task is in two batches

abbrev pub TasksStandOnce : Type 0
TasksStandOnce = (script : Script) (batches : List Batch) → IsSerial script batches → (client step : ℕ) → count_by (holds client step) batches ≤ 1

-- ---- a batch that wasn't published leaves the current state

abbrev pub KeepsState : World → BatchResult → World → Type 0
KeepsState old (result.Published version id commit diffs fulls accepted) new = (version ≡ old.state.version + 1) × (new.state.version ≡ version)
KeepsState old (result.Unchanged version) new = (version ≡ old.state.version) × (new ≡ old)
KeepsState old (result.Failed position refusal) new = new ≡ old
KeepsState old result.NotMaster new = new ≡ old
KeepsState old (result.PublishFailed id diffs fulls accepted) new = (new.state ≡ old.state) × (new.in_office ≡ false)

abbrev pub OthersKeepTheState : Type 0
OthersKeepTheState = (script : Script) (world : World) (batch : Batch) → KeepsState world (stepped script world batch).0.result (after script world batch)

-- ---- an answered part was shown no earlier state that hits it

-- none of these states from one place on, and before another, hits
abbrev pub NoneHits : List ClusterState → ℕ → ℕ → Option ℕ → Pred → Type 0
NoneHits states place end last pred =
    (k : ℕ) (state : ClusterState) → place ≤ k → k < end → slice_get states k ≡ Some state → is_hit_by last pred state ≡ false

-- a part was shown a final state, which hits it, and none before that does
pub record IsFirstHit (states : List ClusterState) (watch : Watch) (pred : Pred) : Type 0 where
  pub state : ClusterState
  pub final : slice_get states (final_place watch) ≡ Some state
  pub hits : IsTrue (is_hit_by watch.last pred state)
  pub earlier : NoneHits states watch.place (final_place watch) watch.last pred

abbrev pub IsFirstHitOf : Script → List Batch → Watch → Type 0
IsFirstHitOf script batches watch =
    IsTrue (is_some (answered_version watch.end)) → (step : Step) (pred : Pred) →
    step_at script watch.client watch.step ≡ Some step → pred_of_part step watch.part ≡ Some pred →
    IsFirstHit (states_at script batches watch.client watch.step) watch pred

abbrev pub AnswersAreFirstHits : Type 0
AnswersAreFirstHits =
    (script : Script) (batches : List Batch) (watches : List Watch) → IsWatched script batches watches → AllByRecursion (IsFirstHitOf script batches) watches

-- ---- what a node applied after its first state is a part, in order, of what it was handed

-- some of the numbers, in their order
abbrev pub IsPartOf : List ℕ → List ℕ → Type 0
IsPartOf [] ys = Unit {0}
IsPartOf (x ∷ xs) [] = ⊥
IsPartOf (x ∷ xs) (y ∷ ys) = ((x ≡ y) × IsPartOf xs ys) ⊎ IsPartOf (x ∷ xs) ys

abbrev pub AppliedWasHanded : Type 0
AppliedWasHanded = (script : Script) (batches : List Batch) (node : List ℕ) → IsPartOf (drop 1 (applied_by script batches node)) (handed_to script batches node)

-- ---- under each alias a view keeps the names that a look at it finds

-- what is found of an alias in a view: it is missing where the view has no entry
abbrev pub found_in : Option (List (List ℕ)) → Found
found_in None = found.Missing
found_in (Some names) = found.Names names

-- of each state whose sets of aliases stand in order, as all sets do
abbrev pub ViewsAgreeWithLooks : Type 0
ViewsAgreeWithLooks =
    (state : ClusterState) (alias : List ℕ) → AllByRecursion (λ p. InOrder p.1.aliases) state.metadata.indices →
    found_in (lookup alias (views_of state).aliases) ≡ found_at state (look.Alias alias)
