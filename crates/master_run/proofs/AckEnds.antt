-- How acknowledgements end where a script has no faults: no required node fails to apply the version, and the batch that
-- published it stands in the book under its number, with its commit's reading.
use Rattle.std.specs.Prelude.{◌≡◌, ℕ, suc, ◌+◌, ◌-◌, ◌≤◌, ◌==◌, Bool, true, false, not, cond, ◌&&◌, List, [], ◌∷◌, count_by, filter, find, map, Option, Some, None, is_some, slice_get, unwrap_or, refl}
use Rattle.std.proofs.Common.{sym, ◌∙◌, ap, arith}
use Rattle.std.proofs.lemmas.Bool.{cond-false}
use Rattle.std.proofs.lemmas.Cmp.{eq_by_cmp_equiv, nat_list_cmp_total}
use Rattle.std.proofs.lemmas.List.Sums.{sum_by-cons}
use Rattle.std.proofs.lemmas.Map.Made.{is_some-lookup}
use Rattle.std.specs.BTreeMap.{is_at}
use Rattle.std.specs.Cmp.{unsigned_Decides}
use Rattle.std.specs.Cmp.Lexicographic.{slice_cmp}
use Rattle.std.specs.List.{AllByRecursion, list_any}
use Rattle.std.specs.Map.{keys_of}
use Rattle.std.specs.Ordering.{nat_cmp}
use Rattle.plain_data.specs.Pairs.{lookup}
use Rattle.meta_state.specs.declared.cluster_state.ClusterState.{ClusterState}
use Rattle.meta_state.specs.declared.node_info.NodeInfo.{NodeInfo}
use Rattle.meta_state.specs.States.{zero_state}
use Rattle.scripts.specs.declared.whole_script.Script.{Script}
use Rattle.scripts.specs.declared.steps.Ack.{Ack}
use Rattle.session_law.specs.declared.batches.Batch.{Batch}
use Rattle.session_law.specs.declared.worlds.World.{World}
use Rattle.session_law.specs.Acknowledgements.{does_apply, missing_of, must_of}
use Rattle.session_law.specs.Committed.{committed_in, is_published, states_of}
use Rattle.session_law.specs.Histories.{IsKept, IsSerial, SteppedBatch, after, commit_of, history_of, history_on, stepped}
use Rattle.session_law.specs.NodeRecords.{Commit, commit_to, does_fail, first_at, is_apply_fault, is_handed}
use Rattle.session_law.specs.Outcomes.{batch_number_of, holds, number_from, stepped_with}
use Rattle.session_law.specs.Publications.{fault_at}
use Rattle.session_law.specs.Worlds.{first_state_of, first_world}
use Rattle.master_run.specs.AckCourses.{Acked, acked_in}
use Rattle.master_run.proofs.AckVersions.{acked_version, found_has, found_passes}
use Rattle.master_run.proofs.Alls.{all_by, all_filter}
use Rattle.master_run.proofs.Handing.{handed_plain}
use Rattle.master_run.proofs.Keeping.{false_from, no_some, or_left, or_right, same_number, some_same}

-- ---- a node applies each version that it is handed

pub never_fails : (script : Script) (name : List ℕ) (c : Commit) → script.faults ≡ [] → does_fail script name c ≡ false
never_fails script name c none = λ i. is_apply_fault (fault_at (none i) name c.publication)

-- the versions that a node applies of these batches, which it is handed
abbrev taken_of : Script → List ℕ → List SteppedBatch → List ℕ
taken_of script name batches =
    map (λ (s : ClusterState). s.version) (map (λ (c : Commit). c.state) (filter (λ (c : Commit). not (does_fail script name c)) (map (commit_to script name) batches)))

-- of those of a history
abbrev versions_in : Script → List ℕ → List SteppedBatch → List ℕ
versions_in script name history = taken_of script name (filter (is_handed script name) history)

abbrev has_version : ℕ → List ℕ → Bool
has_version version versions = list_any (λ v. v == version) versions

-- one more is taken
taken_first : (script : Script) (name : List ℕ) (s : SteppedBatch) (kept : List SteppedBatch) → script.faults ≡ []
    → taken_of script name (s ∷ kept) ≡ s.world.state.version ∷ taken_of script name kept
taken_first script name s kept none =
    let c = commit_to script name s in
    ap (λ (b : Bool). map (λ (s : ClusterState). s.version) (map (λ (c : Commit). c.state)
    (cond (not b) (c ∷ filter (λ (c : Commit). not (does_fail script name c)) (map (commit_to script name) kept)) (filter (λ (c : Commit). not (does_fail script name c)) (map (commit_to script name) kept)))))
    (never_fails script name c none)

first_taken : (script : Script) (name : List ℕ) (s : SteppedBatch) (kept : List SteppedBatch) → script.faults ≡ []
    → has_version s.world.state.version (taken_of script name (s ∷ kept)) ≡ true
first_taken script name s kept none =
    ap (has_version s.world.state.version) (taken_first script name s kept none)
    ∙ or_left (s.world.state.version == s.world.state.version) (has_version s.world.state.version (taken_of script name kept)) (same_number s.world.state.version)

later_taken : (script : Script) (name : List ℕ) (s : SteppedBatch) (kept : List SteppedBatch) (version : ℕ) (b : Bool) → script.faults ≡ [] → has_version version (taken_of script name kept) ≡ true
    → has_version version (taken_of script name (cond b (s ∷ kept) kept)) ≡ true
later_taken script name s kept version true none h =
    ap (has_version version) (taken_first script name s kept none) ∙ or_right (s.world.state.version == version) (has_version version (taken_of script name kept)) h
later_taken script name s kept version false none h = h

-- a published batch's version is taken by each node of its state
abbrev IsTakenIn : Script → List ℕ → List SteppedBatch → SteppedBatch → Type 0
IsTakenIn script name history s =
    is_published s.stepped.result ≡ true → is_some (lookup name s.world.state.nodes) ≡ true → has_version s.world.state.version (versions_in script name history) ≡ true

all_taken : (script : Script) (name : List ℕ) (history : List SteppedBatch) → script.faults ≡ [] → AllByRecursion (IsTakenIn script name history) history
all_taken script name [] none = tt
all_taken script name (s ∷ more) none = (
  λ published inside.
      let kept = filter (is_handed script name) more in
      let handed : is_handed script name s ≡ true = handed_plain script name s none ∙ (λ i. published i && inside i) in
      ap (λ (b : Bool). has_version s.world.state.version (taken_of script name (cond b (s ∷ kept) kept))) handed ∙ first_taken script name s kept none,
  all_by (IsTakenIn script name more) (IsTakenIn script name (s ∷ more))
      (λ t h published inside. later_taken script name s (filter (is_handed script name) more) t.world.state.version (is_handed script name s) none (h published inside)) more (all_taken script name more none),
)

-- ---- so it does of each state that is committed

abbrev IsAppliedState : Script → List Batch → List ℕ → ClusterState → Type 0
IsAppliedState script batches name state = is_some (lookup name state.nodes) ≡ true → does_apply script batches state.version name ≡ true

applied_keep : (script : Script) (batches : List Batch) (name : List ℕ) (s : SteppedBatch) (kept : List SteppedBatch) (b : Bool) → is_published s.stepped.result ≡ b
    → IsTakenIn script name (history_of script batches) s → AllByRecursion (IsAppliedState script batches name) (map (λ s. s.world.state) kept)
    → AllByRecursion (IsAppliedState script batches name) (map (λ s. s.world.state) (cond b (s ∷ kept) kept))
applied_keep script batches name s kept true e h all = (
  λ inside. or_right ((first_at script name).version == s.world.state.version) (has_version s.world.state.version (versions_in script name (history_of script batches))) (h e inside),
  all,
)
applied_keep script batches name s kept false e h all = all

applied_each : (script : Script) (batches : List Batch) (name : List ℕ) (history : List SteppedBatch) → AllByRecursion (IsTakenIn script name (history_of script batches)) history
    → AllByRecursion (IsAppliedState script batches name) (committed_in history)
applied_each script batches name [] all = tt
applied_each script batches name (s ∷ more) all =
    applied_keep script batches name s (filter (λ s. is_published s.stepped.result) more) (is_published s.stepped.result) refl all.0 (applied_each script batches name more all.1)

-- ---- none of the required nodes fails

none_counted : {A : Type 0} (p : A → Bool) (xs : List A) → AllByRecursion (λ x. p x ≡ false) xs → count_by p xs ≡ 0
none_counted p [] all = refl
none_counted p (x ∷ xs) all =
    let rest = none_counted p xs all.1 in
    sum_by-cons (λ y. cond (p y) 1 0) x xs ∙ (λ i. cond (all.0 i) 1 0 + rest i)

own_key : (key : List ℕ) → is_at (slice_cmp nat_cmp key) key ≡ true
own_key key = (eq_by_cmp_equiv nat_list_cmp_total).refl key

among_own : (keys : List (List ℕ)) → AllByRecursion (λ key. list_any (is_at (slice_cmp nat_cmp key)) keys ≡ true) keys
among_own [] = tt
among_own (key ∷ more) = (
  or_left (is_at (slice_cmp nat_cmp key) key) (list_any (is_at (slice_cmp nat_cmp key)) more) (own_key key),
  all_by (λ (other : List ℕ). list_any (is_at (slice_cmp nat_cmp other)) more ≡ true) (λ (other : List ℕ). list_any (is_at (slice_cmp nat_cmp other)) (key ∷ more) ≡ true)
      (λ other h. or_right (is_at (slice_cmp nat_cmp other) key) (list_any (is_at (slice_cmp nat_cmp other)) more) h) more (among_own more),
)

keys_there : (pairs : List (List ℕ × NodeInfo)) → AllByRecursion (λ key. is_some (lookup key pairs) ≡ true) (keys_of pairs)
keys_there pairs =
    all_by (λ (key : List ℕ). list_any (is_at (slice_cmp nat_cmp key)) (keys_of pairs) ≡ true) (λ (key : List ℕ). is_some (lookup key pairs) ≡ true)
    (λ key h. is_some-lookup (is_at (slice_cmp nat_cmp key)) pairs ∙ h) (keys_of pairs) (among_own (keys_of pairs))

abbrev missing_in : Script → List Batch → Ack → ℕ → ClusterState → ℕ
missing_in script batches asked version state = count_by (λ name. not (does_apply script batches version name)) (must_of asked state)

none_of_state : (script : Script) (batches : List Batch) (asked : Ack) (version : ℕ) (state : ClusterState) → state.version ≡ version → ((name : List ℕ) → IsAppliedState script batches name state)
    → missing_in script batches asked version state ≡ 0
none_of_state script batches asked version state same h =
    none_counted (λ name. not (does_apply script batches version name)) (must_of asked state)
    (all_by (λ (name : List ℕ). is_some (lookup name state.nodes) ≡ true) (λ (name : List ℕ). not (does_apply script batches version name) ≡ false)
    (λ name inside. ap (λ (v : ℕ). not (does_apply script batches v name)) (sym same) ∙ ap not (h name inside)) (must_of asked state)
    (all_filter (λ (name : List ℕ). is_some (lookup name state.nodes) ≡ true) _ (keys_of state.nodes) (keys_there state.nodes)))

-- whichever is found among those that are committed; none is in the zero state
none_of_found : (script : Script) (batches : List Batch) (asked : Ack) (version : ℕ) (found : Option ClusterState) → script.faults ≡ []
    → find (λ s. s.version == version) (committed_in (history_of script batches)) ≡ found → missing_in script batches asked version (unwrap_or found (zero_state script.cluster)) ≡ 0
none_of_found script batches asked version None none e = refl
none_of_found script batches asked version (Some state) none e =
    let committed = committed_in (history_of script batches) in
    let same = (unsigned_Decides state.version version).0 (found_passes (λ s. s.version == version) committed state e) in
    none_of_state script batches asked version state same
    (λ name. found_has (IsAppliedState script batches name) (λ s. s.version == version) committed state
    (applied_each script batches name (history_of script batches) (all_taken script name (history_of script batches) none)) e)

other_version : (low version : ℕ) → low ≤ 1 → 2 ≤ version → (low == version) ≡ false
other_version low version l m = false_from (low == version) (λ e. let same = (unsigned_Decides low version).0 e in omega (arith, same, l, m))

-- a version from 2 on isn't that of the zero state or of the first state
found_committed : (script : Script) (batches : List Batch) (version : ℕ) → 2 ≤ version
    → find (λ s. s.version == version) (states_of script batches) ≡ find (λ s. s.version == version) (committed_in (history_of script batches))
found_committed script batches version next =
    let is_of : ClusterState → Bool = λ s. s.version == version in
    let committed = committed_in (history_of script batches) in
    cond-false (is_of (zero_state script.cluster)) (Some (zero_state script.cluster)) (find is_of (first_state_of script ∷ committed)) (other_version 0 version (omega arith) next)
    ∙ cond-false (is_of (first_state_of script)) (Some (first_state_of script)) (find is_of committed) (other_version 1 version (omega arith) next)

pub none_fails : (script : Script) (batches : List Batch) (world : World) (client step : ℕ) (a : Acked) → script.faults ≡ [] → IsKept script batches world → acked_in script batches client step ≡ Some a
    → missing_of script batches a.asked a.version ≡ 0
none_fails script batches world client step a none kept e =
    let so = acked_version script batches world client step a kept e in
    ap (λ (found : Option ClusterState). missing_in script batches a.asked a.version (unwrap_or found (zero_state script.cluster))) (found_committed script batches a.version so.next)
    ∙ none_of_found script batches a.asked a.version (find (λ s. s.version == a.version) (committed_in (history_of script batches))) none refl

-- ---- its batch stands in the book under its number

abbrev stands_as : Script → World → Batch → SteppedBatch
stands_as script world batch = record { batch = batch; stepped = (stepped script world batch).0; world = (stepped script world batch).1 }

abbrev found_on : Script → World → List Batch → ℕ → ℕ → Option SteppedBatch
found_on script world batches client step = find (λ s. holds client step s.batch) (history_on script world batches)

-- the place of the batch, counted from the first one
record IsPlacedAt (number found : ℕ) (batches : List Batch) (s : SteppedBatch) : Type 0 where
  place : ℕ
  number_is : found ≡ number + place
  there : slice_get batches place ≡ Some s.batch

placed_by : (script : Script) (world : World) (number rest : ℕ) (first : Batch) (batches : List Batch) (found : Option SteppedBatch) (s : SteppedBatch) (b : Bool)
    → (found ≡ Some s → IsPlacedAt (number + 1) rest batches s) → cond b (Some (stands_as script world first)) found ≡ Some s → IsPlacedAt number (cond b number rest) (first ∷ batches) s
placed_by script world number rest first batches found s true more e = record {
  place = 0;
  number_is = omega arith;
  there = ap (λ (t : SteppedBatch). Some t.batch) (some_same (stands_as script world first) s e);
}
placed_by script world number rest first batches found s false more e =
    let after = more e in
    record { place = suc after.place; number_is = after.number_is ∙ omega arith; there = after.there }

placed_on : (script : Script) (world : World) (number : ℕ) (batches : List Batch) (client step : ℕ) (s : SteppedBatch) → found_on script world batches client step ≡ Some s
    → IsPlacedAt number (number_from number batches client step) batches s
placed_on script world number [] client step s e = absurd (no_some s e)
placed_on script world number (first ∷ batches) client step s e =
    let next = after script world first in
    placed_by script world number (number_from (number + 1) batches client step) first batches (found_on script next batches client step) s (holds client step first)
    (placed_on script next (number + 1) batches client step s) e

pub stepped_number : (script : Script) (batches : List Batch) (client step : ℕ) (s : SteppedBatch) → stepped_with script batches client step ≡ Some s
    → slice_get batches (batch_number_of batches client step - 1) ≡ Some s.batch
stepped_number script batches client step s e =
    let at = placed_on script (first_world script) 1 batches client step s e in
    let is = at.number_is in
    let same : batch_number_of batches client step - 1 ≡ at.place = omega (arith, is) in
    ap (slice_get batches) same ∙ at.there

pub stepped_commit : (script : Script) (batches : List Batch) (client step : ℕ) (s : SteppedBatch) → IsSerial script batches → stepped_with script batches client step ≡ Some s
    → commit_of s.batch.result ≡ commit_of s.stepped.result
stepped_commit script batches client step s serial e =
    ap commit_of (found_has (λ s. s.batch.result ≡ s.stepped.result) (λ s. holds client step s.batch) (history_of script batches) s serial.results e)
