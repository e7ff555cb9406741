-- A kept book holds no more entries than its script has steps, so that every counter of its world can rise.
use Rattle.std.specs.Prelude.{◌≡◌, ℕ, zero, suc, ◌+◌, ◌*◌, ◌<◌, ◌≤◌, ◌^◌, Bool, true, false, ◌&&◌, ◌||◌, ◌==◌, List, [], ◌∷◌, length, map, Option, Some, None, option_and_then, slice_get, refl}
use Rattle.std.proofs.Common.{sym, ◌∙◌, ap, subst, arith}
use Rattle.std.proofs.Math.Bool.{true≢false}
use Rattle.std.specs.Cmp.{unsigned_Decides}
use Rattle.std.specs.List.{AllByRecursion, IsDistinct, list_all, list_any}
use Rattle.std.proofs.lemmas.Bool.{leb-true}
use Rattle.std.proofs.lemmas.Map.Steps.{length-le_from_distinct_below}
use Rattle.std.proofs.lemmas.Option.{slice_get_within}
use Rattle.std.proofs.lemmas.List.{length-map}
use Rattle.meta_state.specs.declared.index_metadata.IndexMetadata.{IndexMetadata}
use Rattle.meta_state.specs.States.{AreRoomy}
use Rattle.scripts.specs.declared.whole_script.Script.{Script}
use Rattle.scripts.specs.declared.steps.Step.{Step}
use Rattle.scripts.specs.Scripts.{IsScript}
use Rattle.scripts.specs.ValidSteps.{is_client}
use Rattle.executors.proofs.Counts.{AreCounted}
use Rattle.session_law.specs.declared.batches.Batch.{Batch}
use Rattle.session_law.specs.declared.worlds.NodeWorld.{NodeWorld}
use Rattle.session_law.specs.declared.worlds.World.{World}
use Rattle.session_law.specs.Histories.{AreApart, IsApart, IsOrdered, IsOwn, Queued, is_own_step, queued_of, step_at}
use Rattle.session_law.proofs.Counts.{IsCounted, placed_count}
use Rattle.master_run.specs.Ledgers.{IsLedger}
use Rattle.master_run.specs.Rooms.{CanPublish, HasRoom}
use Rattle.master_run.proofs.Keeping.{both_first, both_second, false_from, no_some, some_same}

-- ---- what a test of all elements says of one

pub all_get : {A : Type 0} (p : A → Bool) (xs : List A) (i : ℕ) (x : A) → list_all p xs ≡ true → slice_get xs i ≡ Some x → p x ≡ true
all_get p [] i x all e = absurd (no_some x e)
all_get p (y ∷ ys) zero x all e = ap p (sym (some_same y x e)) ∙ both_first (p y) (list_all p ys) all
all_get p (y ∷ ys) (suc i) x all e = all_get p ys i x (both_second (p y) (list_all p ys) all) e

-- ---- where the step of an own entry stands

pub record Stands (script : Script) (name : List ℕ) (client number : ℕ) : Type 0 where
  pub steps : List Step
  pub of_client : slice_get script.clients client ≡ Some steps
  pub step : Step
  pub of_steps : slice_get steps number ≡ Some step
  pub own : is_own_step script name (Some step) ≡ true

stands_step : (script : Script) (name : List ℕ) (client number : ℕ) (steps : List Step) → slice_get script.clients client ≡ Some steps
    → (found : Option Step) → slice_get steps number ≡ found → is_own_step script name found ≡ true → Stands script name client number
stands_step script name client number steps e None f h = absurd (true≢false (sym h))
stands_step script name client number steps e (Some step) f h = record { steps = steps; of_client = e; step = step; of_steps = f; own = h }

stands_client : (script : Script) (name : List ℕ) (client number : ℕ) (found : Option (List Step)) → slice_get script.clients client ≡ found
    → is_own_step script name (option_and_then (λ steps. slice_get steps number) found) ≡ true → Stands script name client number
stands_client script name client number None e h = absurd (true≢false (sym h))
stands_client script name client number (Some steps) e h = stands_step script name client number steps e (slice_get steps number) refl h

pub stands : (script : Script) (placed : Queued) → IsOwn script placed → Stands script placed.queue placed.entry.client placed.entry.step
stands script placed own = stands_client script placed.queue placed.entry.client placed.entry.step (slice_get script.clients placed.entry.client) refl own

-- ---- where a step of a script stands

pub record Stood (script : Script) (client number : ℕ) (step : Step) : Type 0 where
  pub steps : List Step
  pub of_client : slice_get script.clients client ≡ Some steps
  pub of_steps : slice_get steps number ≡ Some step

stood_in : (script : Script) (client number : ℕ) (step : Step) (found : Option (List Step)) → slice_get script.clients client ≡ found
    → option_and_then (λ steps. slice_get steps number) found ≡ Some step → Stood script client number step
stood_in script client number step None e h = absurd (no_some step h)
stood_in script client number step (Some steps) e h = record { steps = steps; of_client = e; of_steps = h }

pub stood : (script : Script) (client number : ℕ) (step : Step) → step_at script client number ≡ Some step → Stood script client number step
stood script client number step e = stood_in script client number step (slice_get script.clients client) refl e

pub steps_few : (script : Script) (client : ℕ) (steps : List Step) → IsScript script → slice_get script.clients client ≡ Some steps → length steps ≤ 4096
steps_few script client steps valid e = leb-true (length steps) 4096 (both_first _ _ (all_get (is_client script.nodes script.queues) script.clients client steps valid.clients e))

-- ---- entries as numbers below 32 times 4,096

record IsWithin (placed : Queued) : Type 0 where
  client : placed.entry.client < 32
  step : placed.entry.step < 4096

within : (script : Script) (placed : Queued) → IsScript script → IsOwn script placed → IsWithin placed
within script placed valid own =
    let at = stands script placed own in
    let few = steps_few script placed.entry.client at.steps valid at.of_client in
    let clients = valid.clients_limit in
    let c = slice_get_within script.clients placed.entry.client at.steps at.of_client in
    let s = slice_get_within at.steps placed.entry.step at.step at.of_steps in
    record { client = omega arith; step = omega arith }

all_within : (script : Script) (all : List Queued) → IsScript script → AllByRecursion (IsOwn script) all → AllByRecursion IsWithin all
all_within script [] valid own = tt
all_within script (placed ∷ all) valid own = (within script placed valid own.0, all_within script all valid own.1)

code_of : Queued → ℕ
code_of placed = placed.entry.client * 4096 + placed.entry.step

numbers_apart : (c d s t : ℕ) → s < 4096 → t < 4096 → ((c == d) && (s == t)) ≡ false → ((c * 4096 + s) == (d * 4096 + t)) ≡ false
numbers_apart c d s t hs ht other = false_from _ (λ h.
    let e = (unsigned_Decides (c * 4096 + s) (d * 4096 + t)).0 h in
    let same_client : c ≡ d = omega arith in
    let same_step : s ≡ t = omega arith in
    let same : ((c == d) && (s == t)) ≡ true = λ i. (unsigned_Decides c d).1 same_client i && (unsigned_Decides s t).1 same_step i in
    true≢false (sym same ∙ other))

codes_apart : (placed : Queued) (more : List Queued) → IsWithin placed → AllByRecursion IsWithin more → AllByRecursion (IsApart placed) more
    → AllByRecursion (λ y. (code_of placed == y) ≡ false) (map code_of more)
unfolding code_of
codes_apart placed [] w ws apart = tt
codes_apart placed (next ∷ more) w ws apart =
    (numbers_apart placed.entry.client next.entry.client placed.entry.step next.entry.step w.step ws.0.step apart.0.other, codes_apart placed more w ws.1 apart.1)

codes_distinct : (all : List Queued) → AllByRecursion IsWithin all → AreApart all → IsDistinct ◌==◌ (map code_of all)
unfolding IsDistinct
codes_distinct [] ws apart = tt
codes_distinct (placed ∷ all) ws apart = (codes_apart placed all ws.0 ws.1 apart.0, codes_distinct all ws.1 apart.1)

pub or_cases : (a b : Bool) (P : Type 0) → (a || b) ≡ true → (a ≡ true → P) → (b ≡ true → P) → P
or_cases true b P h f g = f refl
or_cases false b P h f g = g h

codes_below : (all : List Queued) → AllByRecursion IsWithin all → (q : ℕ) → list_any (λ y. q == y) (map code_of all) ≡ true → q < 131072
unfolding code_of
codes_below [] ws q h = absurd (true≢false (sym h))
codes_below (placed ∷ all) ws q h =
    or_cases (q == code_of placed) (list_any (λ y. q == y) (map code_of all)) (q < 131072) h
    (λ e. let same = (unsigned_Decides q (placed.entry.client * 4096 + placed.entry.step)).0 e in let c = ws.0.client in let s = ws.0.step in omega arith)
    (codes_below all ws.1 q)

pub own_few : (script : Script) (all : List Queued) → IsScript script → AllByRecursion (IsOwn script) all → AreApart all → length all ≤ 131072
own_few script all valid own apart =
    let ws = all_within script all valid own in
    let few = length-le_from_distinct_below (map code_of all) 131072 (codes_distinct all ws apart) (codes_below all ws) in
    subst (λ (n : ℕ). n ≤ 131072) (length-map all code_of) few

pub entries_few : (script : Script) (batches : List Batch) → IsScript script → IsOrdered script batches → length (queued_of batches) ≤ 131072
entries_few script batches valid order = own_few script (queued_of batches) valid order.own order.apart

filled_few : (batches : List Batch) → AllByRecursion (λ b. 0 < length b.entries) batches → length batches ≤ length (queued_of batches)
filled_few [] filled = omega arith
filled_few (batch ∷ batches) filled =
    let count = placed_count batch (queued_of batches) in let rest = filled_few batches filled.1 in let some = filled.0 in omega arith

-- ---- room in the world

roomy_indices : (n : ℕ) (indices : List (List ℕ × IndexMetadata)) → n ≤ 131072 → AreCounted n indices → AreRoomy indices
roomy_indices n [] h c = tt
roomy_indices n (p ∷ ps) h c = (record { version = let x = c.0.version in omega arith; settings_version = let x = c.0.settings_version in omega arith; aliases_version = let x = c.0.aliases_version in omega arith }, roomy_indices n ps h c.1)

can_send : (p : ℕ) (nodes : List NodeWorld) → p ≤ 131072 → AllByRecursion (λ node. node.sent ≤ p) nodes → AllByRecursion CanPublish nodes
can_send p [] h c = tt
can_send p (node ∷ nodes) h c = ((let x = c.0 in omega arith), can_send p nodes h c.1)

room_of : (n p : ℕ) (world : World) → n ≤ 131072 → p ≤ 131072 → IsCounted n p world → HasRoom world
room_of n p world h k c = record {
  state = record {
    id = let x = c.id in omega arith;
    term = let x = c.state.term in omega arith;
    version = let x = c.version in omega arith;
    metadata_version = let x = c.metadata_version in omega arith;
    created = let x = c.state.created in omega arith;
    indices = roomy_indices n world.state.metadata.indices h c.state.indices;
  };
  proposals = let x = c.proposals in omega arith;
  sent = can_send p world.nodes k c.sent;
}

pub ledger_has_room : (script : Script) (batches : List Batch) (world : World) → IsScript script → IsOrdered script batches → IsLedger batches world → HasRoom world
ledger_has_room script batches world valid order ledger =
    let few = entries_few script batches valid order in
    let fewer = filled_few batches order.filled in
    room_of (length (queued_of batches)) (length batches) world few (omega arith) ledger.counted

pub version_few : (script : Script) (batches : List Batch) (world : World) → IsScript script → IsOrdered script batches → IsLedger batches world → world.state.version < 2 ^ 31
version_few script batches world valid order ledger =
    let few = entries_few script batches valid order in
    let fewer = filled_few batches order.filled in
    let version = ledger.counted.version in
    omega arith

pub batches_fewer : (script : Script) (batches : List Batch) → IsScript script → IsOrdered script batches → length batches ≤ 131072
batches_fewer script batches valid order =
    let few = entries_few script batches valid order in
    let fewer = filled_few batches order.filled in
    omega arith

pub batches_few : (script : Script) (batches : List Batch) → IsScript script → IsOrdered script batches → length batches < 2 ^ 32
batches_few script batches valid order =
    let few = entries_few script batches valid order in
    let fewer = filled_few batches order.filled in
    omega arith
