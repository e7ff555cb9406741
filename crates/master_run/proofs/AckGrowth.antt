-- What survives a new batch of the acknowledgements: one that counts does so as before, and a batch begins those of the
-- tasks that it holds.
use Rattle.std.specs.Prelude.{◌≡◌, ℕ, Bool, true, false, List, [], ◌∷◌, ◌++◌, fold, Option, Some, None, find, refl, cond}
use Rattle.std.proofs.Common.{sym, ◌∙◌, ap}
use Rattle.std.specs.List.{list_any}
use Rattle.std.proofs.lemmas.Bool.{cond-true, cond-false, or_parts}
use Rattle.scripts.specs.declared.whole_script.Script.{Script}
use Rattle.scripts.specs.declared.steps.Ack.{Ack}
use Rattle.session_law.specs.declared.batches.Batch.{Batch}
use Rattle.session_law.specs.declared.worlds.World.{World}
use Rattle.session_law.specs.Acknowledgements.{asked_ack}
use Rattle.session_law.specs.Histories.{SteppedBatch, after, history_on, step_at, stepped}
use Rattle.session_law.specs.Outcomes.{holds, stepped_with}
use Rattle.session_law.specs.Worlds.{first_world}
use Rattle.master_run.specs.AckCourses.{Acked, acked_in, acked_of, acked_with}
use Rattle.master_run.proofs.Handing.{next_stepped}
use Rattle.master_run.proofs.Keeping.{no_some}

-- ---- the batch that holds a task

abbrev first_in : Script → World → Batch → SteppedBatch
first_in script world batch = record { batch = batch; stepped = (stepped script world batch).0; world = (stepped script world batch).1 }

-- of those on a world
abbrev found_on : Script → World → List Batch → ℕ → ℕ → Option SteppedBatch
found_on script world batches client step = find (λ s. holds client step s.batch) (history_on script world batches)

kept_on : (script : Script) (world : World) (batches : List Batch) (batch : Batch) (client step : ℕ) → holds client step batch ≡ false
    → found_on script world (batches ++ batch ∷ []) client step ≡ found_on script world batches client step
kept_on script world [] batch client step h = cond-false (holds client step batch) (Some (first_in script world batch)) None h
kept_on script world (first ∷ batches) batch client step h =
    ap (cond (holds client step first) (Some (first_in script world first))) (kept_on script (after script world first) batches batch client step h)

new_on : (script : Script) (world : World) (batches : List Batch) (batch : Batch) (client step : ℕ) → list_any (holds client step) batches ≡ false → holds client step batch ≡ true
    → found_on script world (batches ++ batch ∷ []) client step ≡ Some (first_in script (fold (after script) world batches) batch)
new_on script world [] batch client step none h = cond-true (holds client step batch) (Some (first_in script world batch)) None h
new_on script world (first ∷ batches) batch client step none h =
    let parts = or_parts (holds client step first) (list_any (holds client step) batches) none in
    let next = after script world first in
    cond-false (holds client step first) (Some (first_in script world first)) (found_on script next (batches ++ batch ∷ []) client step) parts.0
    ∙ new_on script next batches batch client step parts.1 h

none_on : (script : Script) (world : World) (batches : List Batch) (client step : ℕ) → list_any (holds client step) batches ≡ false → found_on script world batches client step ≡ None
none_on script world [] client step none = refl
none_on script world (first ∷ batches) client step none =
    let parts = or_parts (holds client step first) (list_any (holds client step) batches) none in
    let next = after script world first in
    cond-false (holds client step first) (Some (first_in script world first)) (found_on script next batches client step) parts.0
    ∙ none_on script next batches client step parts.1

stays_by : (first : SteppedBatch) (rest more : Option SteppedBatch) (s : SteppedBatch) (b : Bool) → cond b (Some first) rest ≡ Some s → (rest ≡ Some s → more ≡ Some s)
    → cond b (Some first) more ≡ Some s
stays_by first rest more s true e go = e
stays_by first rest more s false e go = go e

stays_on : (script : Script) (world : World) (batches more : List Batch) (client step : ℕ) (s : SteppedBatch) → found_on script world batches client step ≡ Some s
    → found_on script world (batches ++ more) client step ≡ Some s
stays_on script world [] more client step s e = absurd (no_some s e)
stays_on script world (first ∷ batches) more client step s e =
    let next = after script world first in
    stays_by (first_in script world first) (found_on script next batches client step) (found_on script next (batches ++ more) client step) s (holds client step first) e
    (stays_on script next batches more client step s)

pub stepped_kept : (script : Script) (batches : List Batch) (batch : Batch) (client step : ℕ) → holds client step batch ≡ false
    → stepped_with script (batches ++ batch ∷ []) client step ≡ stepped_with script batches client step
stepped_kept script batches batch client step h = kept_on script (first_world script) batches batch client step h

pub stepped_new : (script : Script) (batches : List Batch) (batch : Batch) (client step : ℕ) → list_any (holds client step) batches ≡ false → holds client step batch ≡ true
    → stepped_with script (batches ++ batch ∷ []) client step ≡ Some (next_stepped script batches batch)
stepped_new script batches batch client step none h = new_on script (first_world script) batches batch client step none h

pub stepped_none : (script : Script) (batches : List Batch) (client step : ℕ) → list_any (holds client step) batches ≡ false → stepped_with script batches client step ≡ None
stepped_none script batches client step none = none_on script (first_world script) batches client step none

pub stepped_still : (script : Script) (batches more : List Batch) (client step : ℕ) (s : SteppedBatch) → stepped_with script batches client step ≡ Some s
    → stepped_with script (batches ++ more) client step ≡ Some s
stepped_still script batches more client step s e = stays_on script (first_world script) batches more client step s e

pub stepped_stays : (script : Script) (batches : List Batch) (batch : Batch) (client step : ℕ) (s : SteppedBatch) → stepped_with script batches client step ≡ Some s
    → stepped_with script (batches ++ batch ∷ []) client step ≡ Some s
stepped_stays script batches batch client step s e = stepped_still script batches (batch ∷ []) client step s e

-- ---- what counts

-- what counts of what was asked, where that batch holds the task
abbrev pub acked_by : ℕ → ℕ → Option SteppedBatch → Option Ack → Option Acked
acked_by client step found None = None
acked_by client step found (Some asked) = acked_with client step asked found

acked_is : (script : Script) (batches : List Batch) (client step : ℕ) (found : Option SteppedBatch) (asked : Option Ack) → stepped_with script batches client step ≡ found
    → acked_of script batches client step asked ≡ acked_by client step found asked
acked_is script batches client step found None e = refl
acked_is script batches client step found (Some asked) e = ap (acked_with client step asked) e

pub acked_kept : (script : Script) (batches : List Batch) (batch : Batch) (client step : ℕ) → holds client step batch ≡ false
    → acked_in script (batches ++ batch ∷ []) client step ≡ acked_in script batches client step
acked_kept script batches batch client step h =
    let asked = asked_ack (step_at script client step) in
    acked_is script (batches ++ batch ∷ []) client step (stepped_with script batches client step) asked (stepped_kept script batches batch client step h)
    ∙ sym (acked_is script batches client step (stepped_with script batches client step) asked refl)

pub acked_new : (script : Script) (batches : List Batch) (batch : Batch) (client step : ℕ) → list_any (holds client step) batches ≡ false → holds client step batch ≡ true
    → acked_in script (batches ++ batch ∷ []) client step ≡ acked_by client step (Some (next_stepped script batches batch)) (asked_ack (step_at script client step))
acked_new script batches batch client step none h =
    acked_is script (batches ++ batch ∷ []) client step (Some (next_stepped script batches batch)) (asked_ack (step_at script client step)) (stepped_new script batches batch client step none h)

none_acked : (client step : ℕ) (asked : Option Ack) → acked_by client step None asked ≡ None
none_acked client step None = refl
none_acked client step (Some asked) = refl

pub acked_none : (script : Script) (batches : List Batch) (client step : ℕ) → list_any (holds client step) batches ≡ false → acked_in script batches client step ≡ None
acked_none script batches client step none =
    let asked = asked_ack (step_at script client step) in
    acked_is script batches client step None asked (stepped_none script batches client step none) ∙ none_acked client step asked

still_with : (script : Script) (batches more : List Batch) (client step : ℕ) (asked : Ack) (found : Option SteppedBatch) (a : Acked)
    → stepped_with script batches client step ≡ found → acked_with client step asked found ≡ Some a
    → acked_with client step asked (stepped_with script (batches ++ more) client step) ≡ Some a
still_with script batches more client step asked None a e f = absurd (no_some a f)
still_with script batches more client step asked (Some s) a e f = ap (acked_with client step asked) (stepped_still script batches more client step s e) ∙ f

still_of : (script : Script) (batches more : List Batch) (client step : ℕ) (asked : Option Ack) (a : Acked) → acked_of script batches client step asked ≡ Some a
    → acked_of script (batches ++ more) client step asked ≡ Some a
still_of script batches more client step None a e = absurd (no_some a e)
still_of script batches more client step (Some asked) a e = still_with script batches more client step asked (stepped_with script batches client step) a refl e

-- what counts goes on to count, with more batches and with one
pub acked_still : (script : Script) (batches more : List Batch) (client step : ℕ) (a : Acked) → acked_in script batches client step ≡ Some a → acked_in script (batches ++ more) client step ≡ Some a
acked_still script batches more client step a e = still_of script batches more client step (asked_ack (step_at script client step)) a e

pub acked_stays : (script : Script) (batches : List Batch) (batch : Batch) (client step : ℕ) (a : Acked) → acked_in script batches client step ≡ Some a
    → acked_in script (batches ++ batch ∷ []) client step ≡ Some a
acked_stays script batches batch client step a e = acked_still script batches (batch ∷ []) client step a e
