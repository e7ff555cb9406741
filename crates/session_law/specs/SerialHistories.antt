-- A serial history: the batches of a kept book, where what each entry says that its client had seen is exact. The rule
-- is this project's own.
use Rattle.std.specs.Prelude.{◌≡◌, ℕ, max, List, [], ◌∷◌, map}
use Rattle.std.specs.List.{AllByRecursion}
use Rattle.scripts.specs.declared.whole_script.Script.{Script}
use Rattle.scripts.specs.declared.steps.Goal.TheVariants.{Task, Ack}
use Rattle.scripts.specs.declared.steps.Step.{Step}
use Rattle.scripts.specs.declared.steps.Step.TheVariants.{Await}
use Rattle.session_law.specs.declared.batches.Batch.{Batch}
use Rattle.session_law.specs.Histories.{IsSerial, Queued, queued_of}
use Rattle.session_law.specs.Outcomes.{batch_number_of}
use Rattle.session_law.specs.ScriptSteps.{steps_before}

abbrev pub greatest : List ℕ → ℕ
greatest [] = 0
greatest (n ∷ ns) = max n (greatest ns)

-- the number of the batch of the task that a step awaits, or whose acknowledgement it awaits
abbrev pub awaited_batch : List Batch → ℕ → Step → ℕ
awaited_batch batches client (Await step Task) = batch_number_of batches client step
awaited_batch batches client (Await step Ack) = batch_number_of batches client step
awaited_batch batches client _ = 0

-- the greatest number of a batch that holds a task which an earlier await step of the client names
abbrev pub seen_of : Script → List Batch → ℕ → ℕ → ℕ
seen_of script batches client step = greatest (map (λ s. awaited_batch batches s.client s.step) (steps_before script client step))

abbrev pub HasSeen : Script → List Batch → Queued → Type 0
HasSeen script batches placed = placed.entry.seen ≡ seen_of script batches placed.entry.client placed.entry.step

pub record IsSerialHistory (script : Script) (batches : List Batch) : Type 0 where
  pub serial : IsSerial script batches
  pub seen : AllByRecursion (HasSeen script batches) (queued_of batches)
