-- The batches of a kept book: each is of a queue of the script, and no task stands twice in it.
use Rattle.std.specs.Prelude.{◌≡◌, ℕ, zero, suc, ◌<◌, true, false, not, List, [], ◌∷◌, ◌++◌, Option, Some, None, length, map, slice_get, refl, IsTrue}
use Rattle.std.proofs.Common.{sym, ap, subst, arith}
use Rattle.std.specs.Cmp.Derive.{both_true}
use Rattle.std.specs.List.{AllByRecursion, list_all, list_any}
use Rattle.std.proofs.lemmas.Bool.{and_parts, or_from, true≢false}
use Rattle.std.proofs.lemmas.Slice.Eq.{bytes_eq-Decides}
use Rattle.scripts.specs.declared.queues.QueueSpec.{QueueSpec}
use Rattle.scripts.specs.declared.steps.Step.{Step}
use Rattle.scripts.specs.declared.steps.Step.TheVariants as step
use Rattle.scripts.specs.declared.whole_script.Script.{Script}
use Rattle.scripts.specs.Names.{is_name}
use Rattle.scripts.specs.Scripts.{IsScript}
use Rattle.session_law.specs.declared.batches.Batch.{Batch}
use Rattle.session_law.specs.declared.batches.Entry.{Entry}
use Rattle.session_law.specs.Histories.{AreApart, IsApart, IsOrdered, IsOwn, Queued, is_named, is_own_step, is_same_task, queued_in, queued_of, step_at}
use Rattle.report_law.specs.GoodForm.{are_apart}

abbrev stands_in : List ℕ → Entry → Queued
stands_in queue entry = record { queue = queue; entry = entry }

-- ---- parts of a list

all_first : {A : Type 0} (P : A → Type 0) (xs ys : List A) → AllByRecursion P (xs ++ ys) → AllByRecursion P xs
all_first P [] ys all = tt
all_first P (x ∷ xs) ys all = (all.0, all_first P xs ys all.1)

all_rest : {A : Type 0} (P : A → Type 0) (xs ys : List A) → AllByRecursion P (xs ++ ys) → AllByRecursion P ys
all_rest P [] ys all = all
all_rest P (x ∷ xs) ys all = all_rest P xs ys all.1

apart_rest : (xs ys : List Queued) → AreApart (xs ++ ys) → AreApart ys
apart_rest [] ys apart = apart
apart_rest (x ∷ xs) ys apart = apart_rest xs ys apart.1

-- ---- queues

module _ (script : Script) (valid : IsScript script) (name : List ℕ) where
  queue_found : (queues : List QueueSpec) → list_all (λ q. is_name q.name) queues ≡ true → (n : ℕ) → is_named name (slice_get queues n) ≡ true → IsTrue (is_name name)
  queue_found [] named n e = absurd (true≢false (sym e))
  queue_found (queue ∷ queues) named zero e = subst (λ q. IsTrue (is_name q)) ((bytes_eq-Decides queue.name name).0 e) (and_parts _ _ named).0
  queue_found (queue ∷ queues) named (suc n) e = queue_found queues (and_parts _ _ named).1 n e

  own_named : (found : Option Step) → is_own_step script name found ≡ true → IsTrue (is_name name)
  own_named (Some (step.Submit queue task timeout ack)) e = queue_found script.queues valid.queues_named queue e
  own_named (Some (step.Await _ _)) e = absurd (true≢false (sym e))
  own_named (Some (step.Watch _ _ _ _)) e = absurd (true≢false (sym e))
  own_named (Some (step.Next _ _ _ _)) e = absurd (true≢false (sym e))
  own_named (Some (step.Read _ _)) e = absurd (true≢false (sym e))
  own_named (Some (step.Sleep _)) e = absurd (true≢false (sym e))
  own_named (Some step.Close) e = absurd (true≢false (sym e))
  own_named None e = absurd (true≢false (sym e))

  filled_named : (entries : List Entry) → 0 < length entries → AllByRecursion (IsOwn script) (map (stands_in name) entries) → IsTrue (is_name name)
  filled_named [] filled own = absurd (omega (arith, filled))
  filled_named (entry ∷ entries) filled own = own_named (step_at script entry.client entry.step) own.0

queues_from : (script : Script) → IsScript script → (batches : List Batch) → AllByRecursion (λ b. 0 < length b.entries) batches → AllByRecursion (IsOwn script) (queued_of batches)
    → list_all (λ b. is_name b.queue) batches ≡ true
queues_from script valid [] filled own = refl
queues_from script valid (batch ∷ batches) filled own =
    both_true (filled_named script valid batch.queue batch.entries filled.0 (all_first (IsOwn script) (queued_in batch) (queued_of batches) own))
    (queues_from script valid batches filled.1 (all_rest (IsOwn script) (queued_in batch) (queued_of batches) own))

pub queues_named : (script : Script) → IsScript script → (batches : List Batch) → IsOrdered script batches → IsTrue (list_all (λ b. is_name b.queue) batches)
queues_named script valid batches ordered = queues_from script valid batches ordered.filled ordered.own

-- ---- tasks

none_same : (queue : List ℕ) (entry : Entry) (entries : List Entry) → AllByRecursion (IsApart (stands_in queue entry)) (map (stands_in queue) entries)
    → list_any (is_same_task entry) entries ≡ false
none_same queue entry [] apart = refl
none_same queue entry (next ∷ entries) apart =
    or_from (is_same_task entry next) (list_any (is_same_task entry) entries) apart.0.other (none_same queue entry entries apart.1)

entries_apart : (queue : List ℕ) (entries : List Entry) (more : List Queued) → AreApart (map (stands_in queue) entries ++ more) → are_apart entries ≡ true
entries_apart queue [] more apart = refl
entries_apart queue (entry ∷ entries) more apart =
    both_true (ap not (none_same queue entry entries (all_first (IsApart (stands_in queue entry)) (map (stands_in queue) entries) more apart.0)))
    (entries_apart queue entries more apart.1)

pub tasks_apart : (batches : List Batch) → AreApart (queued_of batches) → IsTrue (list_all (λ b. are_apart b.entries) batches)
tasks_apart [] apart = refl
tasks_apart (batch ∷ batches) apart =
    both_true (entries_apart batch.queue batch.entries (queued_of batches) apart) (tasks_apart batches (apart_rest (queued_in batch) (queued_of batches) apart))
