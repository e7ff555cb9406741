-- What survives a new batch: the numbers and the outcomes of the tasks that it does not hold, and what the steps before
-- them had seen.
use Rattle.std.specs.Prelude.{◌≡◌, ℕ, zero, suc, ◌+◌, ◌<◌, ◌≤◌, Bool, true, false, max, List, [], ◌∷◌, ◌++◌, fold, length, map, take, Option, Some, None, find, option_and_then, slice_get, unwrap_or, refl, cond}
use Rattle.std.proofs.Common.{sym, ◌∙◌, ap, arith}
use Rattle.std.specs.List.{AllByRecursion, list_any}
use Rattle.std.proofs.lemmas.Bool.{cond-true, cond-false, eq-eqb, or_from, or_parts}
use Rattle.scripts.specs.declared.whole_script.Script.{Script}
use Rattle.scripts.specs.declared.steps.Goal.TheVariants as goal
use Rattle.scripts.specs.declared.steps.Step.{Step}
use Rattle.scripts.specs.declared.steps.Step.TheVariants as step
use Rattle.session_law.specs.declared.batches.Batch.{Batch}
use Rattle.session_law.specs.declared.batches.Entry.{Entry}
use Rattle.session_law.specs.declared.worlds.World.{World}
use Rattle.session_law.specs.Endings.{does_await_task}
use Rattle.session_law.specs.Histories.{Queued, SteppedBatch, after, history_on, queued_of, step_at, stepped, world_after}
use Rattle.session_law.specs.Outcomes.{batch_number_of, end_in, holds, is_task, number_from, outcome_of}
use Rattle.session_law.specs.ScriptSteps.{client_steps, numbered_from}
use Rattle.session_law.specs.SerialHistories.{awaited_batch, greatest, seen_of}
use Rattle.session_law.specs.Worlds.{first_world}

-- ---- the number of a task's batch

kept_from : (number : ℕ) (batches : List Batch) (batch : Batch) (client step : ℕ) → holds client step batch ≡ false
    → number_from number (batches ++ batch ∷ []) client step ≡ number_from number batches client step
kept_from number [] batch client step h = cond-false (holds client step batch) number 0 h
kept_from number (first ∷ batches) batch client step h =
    ap (cond (holds client step first) number) (kept_from (number + 1) batches batch client step h)

pub number_kept : (batches : List Batch) (batch : Batch) (client step : ℕ) → holds client step batch ≡ false
    → batch_number_of (batches ++ batch ∷ []) client step ≡ batch_number_of batches client step
number_kept batches batch client step h = kept_from 1 batches batch client step h

new_from : (number : ℕ) (batches : List Batch) (batch : Batch) (client step : ℕ) → list_any (holds client step) batches ≡ false → holds client step batch ≡ true
    → number_from number (batches ++ batch ∷ []) client step ≡ number + length batches
new_from number [] batch client step none h = cond-true (holds client step batch) number 0 h ∙ omega arith
new_from number (first ∷ batches) batch client step none h =
    let parts = or_parts (holds client step first) (list_any (holds client step) batches) none in
    let rest = new_from (number + 1) batches batch client step parts.1 h in
    cond-false (holds client step first) number (number_from (number + 1) (batches ++ batch ∷ []) client step) parts.0 ∙ omega arith

pub number_new : (batches : List Batch) (batch : Batch) (client step : ℕ) → list_any (holds client step) batches ≡ false → holds client step batch ≡ true
    → batch_number_of (batches ++ batch ∷ []) client step ≡ length batches + 1
number_new batches batch client step none h = let number = new_from 1 batches batch client step none h in omega arith

none_from : (number : ℕ) (batches : List Batch) (client step : ℕ) → list_any (holds client step) batches ≡ false → number_from number batches client step ≡ 0
none_from number [] client step none = refl
none_from number (first ∷ batches) client step none =
    let parts = or_parts (holds client step first) (list_any (holds client step) batches) none in
    cond-false (holds client step first) number (number_from (number + 1) batches client step) parts.0 ∙ none_from (number + 1) batches client step parts.1

pub number_none : (batches : List Batch) (client step : ℕ) → list_any (holds client step) batches ≡ false → batch_number_of batches client step ≡ 0
number_none batches client step none = none_from 1 batches client step none

most_of : (b : Bool) (m n most : ℕ) → m ≤ most → n ≤ most → cond b m n ≤ most
most_of true m n most h k = h
most_of false m n most h k = k

most_from : (number : ℕ) (batches : List Batch) (client step : ℕ) → number_from (number + 1) batches client step ≤ number + length batches
most_from number [] client step = omega arith
most_from number (first ∷ batches) client step =
    let rest = most_from (number + 1) batches client step in
    most_of (holds client step first) (number + 1) (number_from (number + 1 + 1) batches client step) (number + length (first ∷ batches)) (omega arith) (omega arith)

pub number_most : (batches : List Batch) (client step : ℕ) → batch_number_of batches client step ≤ length batches
number_most batches client step = let most = most_from 0 batches client step in omega arith

-- ---- its outcome

abbrev first_in : Script → World → Batch → SteppedBatch
first_in script world batch = record { batch = batch; stepped = (stepped script world batch).0; world = (stepped script world batch).1 }

-- the first batch that holds a task, of those on a world
abbrev found_on : Script → World → List Batch → ℕ → ℕ → Option SteppedBatch
found_on script world batches client step = find (λ s. holds client step s.batch) (history_on script world batches)

kept_on : (script : Script) (world : World) (batches : List Batch) (batch : Batch) (client step : ℕ) → holds client step batch ≡ false
    → found_on script world (batches ++ batch ∷ []) client step ≡ found_on script world batches client step
kept_on script world [] batch client step h = cond-false (holds client step batch) (Some (first_in script world batch)) None h
kept_on script world (first ∷ batches) batch client step h =
    ap (cond (holds client step first) (Some (first_in script world first))) (kept_on script (after script world first) batches batch client step h)

pub outcome_kept : (script : Script) (batches : List Batch) (batch : Batch) (client step : ℕ) → holds client step batch ≡ false
    → outcome_of script (batches ++ batch ∷ []) client step ≡ outcome_of script batches client step
outcome_kept script batches batch client step h = ap (option_and_then (end_in client step)) (kept_on script (first_world script) batches batch client step h)

new_on : (script : Script) (world : World) (batches : List Batch) (batch : Batch) (client step : ℕ) → list_any (holds client step) batches ≡ false → holds client step batch ≡ true
    → found_on script world (batches ++ batch ∷ []) client step ≡ Some (first_in script (fold (after script) world batches) batch)
new_on script world [] batch client step none h = cond-true (holds client step batch) (Some (first_in script world batch)) None h
new_on script world (first ∷ batches) batch client step none h =
    let parts = or_parts (holds client step first) (list_any (holds client step) batches) none in
    let next = after script world first in
    cond-false (holds client step first) (Some (first_in script world first)) (found_on script next (batches ++ batch ∷ []) client step) parts.0
    ∙ new_on script next batches batch client step parts.1 h

pub outcome_new : (script : Script) (batches : List Batch) (batch : Batch) (client step : ℕ) → list_any (holds client step) batches ≡ false → holds client step batch ≡ true
    → outcome_of script (batches ++ batch ∷ []) client step ≡ end_in client step (record { batch = batch; stepped = (stepped script (world_after script batches) batch).0; world = (stepped script (world_after script batches) batch).1 })
outcome_new script batches batch client step none h = ap (option_and_then (end_in client step)) (new_on script (first_world script) batches batch client step none h)

none_on : (script : Script) (world : World) (batches : List Batch) (client step : ℕ) → list_any (holds client step) batches ≡ false → found_on script world batches client step ≡ None
none_on script world [] client step none = refl
none_on script world (first ∷ batches) client step none =
    let parts = or_parts (holds client step first) (list_any (holds client step) batches) none in
    let next = after script world first in
    cond-false (holds client step first) (Some (first_in script world first)) (found_on script next batches client step) parts.0
    ∙ none_on script next batches client step parts.1

pub outcome_none : (script : Script) (batches : List Batch) (client step : ℕ) → list_any (holds client step) batches ≡ false → outcome_of script batches client step ≡ None
outcome_none script batches client step none = ap (option_and_then (end_in client step)) (none_on script (first_world script) batches client step none)

-- ---- a task that no entry is

abbrev IsOther : ℕ → ℕ → Queued → Type 0
IsOther client step before = is_task client step before.entry ≡ false

free_parts : (queue : List ℕ) (entries : List Entry) (more : List Queued) (client step : ℕ)
    → AllByRecursion (IsOther client step) (map (λ e. record { queue = queue; entry = e }) entries ++ more)
    → (list_any (is_task client step) entries ≡ false) × AllByRecursion (IsOther client step) more
free_parts queue [] more client step all = (refl, all)
free_parts queue (entry ∷ entries) more client step all =
    let rest = free_parts queue entries more client step all.1 in
    (or_from (is_task client step entry) (list_any (is_task client step) entries) all.0 rest.0, rest.1)

pub free_from : (batches : List Batch) (client step : ℕ) → AllByRecursion (λ before. is_task client step before.entry ≡ false) (queued_of batches)
    → list_any (holds client step) batches ≡ false
free_from [] client step all = refl
free_from (batch ∷ batches) client step all =
    let parts = free_parts batch.queue batch.entries (queued_of batches) client step all in
    or_from (holds client step batch) (list_any (holds client step) batches) parts.0 (free_from batches client step parts.1)

-- ---- what a step had seen

-- a step of a client, among the client's
steps_at : (found : Option (List Step)) (n : ℕ) → option_and_then (λ steps. slice_get steps n) found ≡ slice_get (unwrap_or found []) n
steps_at None n = refl
steps_at (Some steps) n = refl

step_of : (script : Script) (client n : ℕ) → step_at script client n ≡ slice_get (client_steps script client) n
step_of script client n = steps_at (slice_get script.clients client) n

-- what the first so many of a client's steps had seen
abbrev seen_in : List Batch → ℕ → ℕ → List Step → ℕ → ℕ
seen_in batches client number steps count = greatest (map (λ s. awaited_batch batches s.client s.step) (numbered_from client number (take count steps)))

awaited_kept : (batches : List Batch) (batch : Batch) (client : ℕ) (s : Step) → ((e : ℕ) → does_await_task e s ≡ true → holds client e batch ≡ false)
    → awaited_batch (batches ++ batch ∷ []) client s ≡ awaited_batch batches client s
awaited_kept batches batch client (step.Await e goal.Task) h = number_kept batches batch client e (h e (eq-eqb e e refl))
awaited_kept batches batch client (step.Await e goal.Ack) h = number_kept batches batch client e (h e (eq-eqb e e refl))
awaited_kept batches batch client (step.Await e goal.Watch) h = refl
awaited_kept batches batch client (step.Submit _ _ _ _) h = refl
awaited_kept batches batch client (step.Watch _ _ _ _) h = refl
awaited_kept batches batch client (step.Next _ _ _ _) h = refl
awaited_kept batches batch client (step.Read _ _) h = refl
awaited_kept batches batch client (step.Sleep _) h = refl
awaited_kept batches batch client step.Close h = refl

kept_in : (batches : List Batch) (batch : Batch) (client number : ℕ) (steps : List Step) (count : ℕ)
    → ((n e : ℕ) (s : Step) → n < count → slice_get steps n ≡ Some s → does_await_task e s ≡ true → holds client e batch ≡ false)
    → seen_in (batches ++ batch ∷ []) client number steps count ≡ seen_in batches client number steps count
kept_in batches batch client number steps zero h = refl
kept_in batches batch client number [] (suc count) h = refl
kept_in batches batch client number (s ∷ steps) (suc count) h = λ i. max
    (awaited_kept batches batch client s (λ e p. h 0 e s (omega arith) refl p) i)
    (kept_in batches batch client (number + 1) steps count (λ n e s l q p. h (suc n) e s (omega arith) q p) i)

pub seen_kept : (script : Script) (batches : List Batch) (batch : Batch) (client step : ℕ)
    → ((n e : ℕ) (s : Step) → n < step → step_at script client n ≡ Some s → does_await_task e s ≡ true → holds client e batch ≡ false)
    → seen_of script (batches ++ batch ∷ []) client step ≡ seen_of script batches client step
seen_kept script batches batch client step h =
    kept_in batches batch client 0 (client_steps script client) step (λ n e s l q p. h n e s l (step_of script client n ∙ q) p)

no_some : {A : Type 0} (a : A) → None ≡ Some a → ⊥
no_some a e = cc

next_in : (batches : List Batch) (client number : ℕ) (steps : List Step) (count : ℕ) (s : Step) → slice_get steps count ≡ Some s
    → seen_in batches client number steps (suc count) ≡ max (seen_in batches client number steps count) (awaited_batch batches client s)
next_in batches client number [] count s e = absurd (no_some s e)
next_in batches client number (first ∷ steps) zero s e =
    let same = ap (awaited_batch batches client) (ap (λ (found : Option Step). unwrap_or found s) e) in
    omega arith
next_in batches client number (first ∷ steps) (suc count) s e = let rest = next_in batches client (number + 1) steps count s e in omega arith

pub seen_next : (script : Script) (batches : List Batch) (client step : ℕ) (s : Step) → step_at script client step ≡ Some s
    → seen_of script batches client (step + 1) ≡ max (seen_of script batches client step) (awaited_batch batches client s)
seen_next script batches client step s e =
    let more : step + 1 ≡ suc step = omega arith in
    ap (seen_of script batches client) more ∙ next_in batches client 0 (client_steps script client) step s (sym (step_of script client step) ∙ e)

pub seen_first : (script : Script) (batches : List Batch) (client : ℕ) → seen_of script batches client 0 ≡ 0
seen_first script batches client = refl

awaited_most : (batches : List Batch) (client : ℕ) (s : Step) → awaited_batch batches client s ≤ length batches
awaited_most batches client (step.Await e goal.Task) = number_most batches client e
awaited_most batches client (step.Await e goal.Ack) = number_most batches client e
awaited_most batches client (step.Await e goal.Watch) = omega arith
awaited_most batches client (step.Submit _ _ _ _) = omega arith
awaited_most batches client (step.Watch _ _ _ _) = omega arith
awaited_most batches client (step.Next _ _ _ _) = omega arith
awaited_most batches client (step.Read _ _) = omega arith
awaited_most batches client (step.Sleep _) = omega arith
awaited_most batches client step.Close = omega arith

most_in : (batches : List Batch) (client number : ℕ) (steps : List Step) → greatest (map (λ s. awaited_batch batches s.client s.step) (numbered_from client number steps)) ≤ length batches
most_in batches client number [] = omega arith
most_in batches client number (s ∷ steps) =
    let one = awaited_most batches client s in
    let rest = most_in batches client (number + 1) steps in
    omega arith

pub seen_most : (script : Script) (batches : List Batch) (client step : ℕ) → seen_of script batches client step ≤ length batches
seen_most script batches client step = most_in batches client 0 (take step (client_steps script client))

pub seen_none : (script : Script) (client step : ℕ) → seen_of script [] client step ≡ 0
seen_none script client step = let most = seen_most script [] client step in omega arith
