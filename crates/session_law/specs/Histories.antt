-- A history: the batches that ran, what each was stepped to, and when a master's book of them is kept. It is this
-- project's own.
use Rattle.std.specs.Prelude.{◌≡◌, ℕ, ◌+◌, ◌<◌, Bool, true, false, List, [], ◌∷◌, map, flat_map, filter_map, fold, Option, Some, None, option_and_then, slice_get, bytes_eq, IsTrue, length, if◌then◌else◌}
use Rattle.std.specs.List.{AllByRecursion}
use Rattle.executors.specs.declared.kinds.Kind.{Kind}
use Rattle.executors.specs.declared.kinds.Kind.TheVariants as kind
use Rattle.scripts.specs.declared.queues.QueueSpec.{QueueSpec}
use Rattle.scripts.specs.declared.whole_script.Script.{Script}
use Rattle.scripts.specs.declared.steps.Step.{Step}
use Rattle.scripts.specs.declared.steps.Step.TheVariants.{Submit}
use Rattle.executors.specs.declared.tasks.Task.{Task}
use Rattle.session_law.specs.declared.batches.Batch.{Batch}
use Rattle.session_law.specs.declared.batches.BatchResult.{BatchResult}
use Rattle.session_law.specs.declared.batches.BatchResult.TheVariants.{Published}
use Rattle.session_law.specs.declared.batches.Entry.{Entry}
use Rattle.session_law.specs.declared.worlds.Stepped.{Stepped}
use Rattle.session_law.specs.declared.worlds.World.{World}
use Rattle.session_law.specs.Publications.{cut_by}
use Rattle.session_law.specs.BatchSteps.{BatchInput, batch_step}
use Rattle.session_law.specs.ScriptSteps.{is_at}
use Rattle.session_law.specs.Worlds.{first_world}

-- ---- what a script says of an entry and of a queue

abbrev pub step_at : Script → ℕ → ℕ → Option Step
step_at script client step = option_and_then (λ steps. slice_get steps step) (slice_get script.clients client)

abbrev pub submitted : Step → Option Task
submitted (Submit queue task timeout ack) = Some task
submitted _ = None

abbrev pub task_at : Script → Entry → Option Task
task_at script entry = option_and_then submitted (step_at script entry.client entry.step)

-- the tasks of entries, in order
abbrev pub tasks_at : Script → List Entry → List Task
tasks_at script entries = filter_map (task_at script) entries

-- the executor of the queue of a name; no other name is ever asked for
abbrev pub kind_named : List QueueSpec → List ℕ → Kind
kind_named [] name = kind.CreateIndex
kind_named (queue ∷ queues) name = if bytes_eq name queue.name then queue.executor else kind_named queues name

-- ---- what each batch was stepped to

-- the reading at which a batch committed
abbrev pub commit_of : BatchResult → ℕ
commit_of (Published version id commit diffs fulls accepted) = commit
commit_of _ = 0

-- what a batch of a script is run with
abbrev pub input_of : Script → Batch → BatchInput
input_of script batch = record {
  cut = cut_by script.faults;
  nodes = script.nodes;
  kind = kind_named script.queues batch.queue;
  tasks = tasks_at script batch.entries;
  commit = commit_of batch.result;
}

-- what comes of a batch on a world, and the world after it
abbrev pub stepped : Script → World → Batch → Stepped × World
stepped script world batch = batch_step (input_of script batch) world

abbrev pub after : Script → World → Batch → World
after script world batch = (stepped script world batch).1

abbrev pub world_after : Script → List Batch → World
world_after script batches = fold (after script) (first_world script) batches

-- a batch, what was computed to come of it, and the world after it
pub record SteppedBatch : Type 0 where
  pub batch : Batch
  pub stepped : Stepped
  pub world : World

-- batches on a world, one after the other
abbrev pub history_on : Script → World → List Batch → List SteppedBatch
history_on script world [] = []
history_on script world (batch ∷ batches) =
    let step = stepped script world batch in
    record { batch = batch; stepped = step.0; world = step.1 } ∷ history_on script step.1 batches

-- the batches of a script, from its first world on: results, committed states, commits and outcomes are read from it
abbrev pub history_of : Script → List Batch → List SteppedBatch
history_of script batches = history_on script (first_world script) batches

-- ---- a kept book

-- an entry with the name of its batch's queue
pub record Queued : Type 0 where
  pub queue : List ℕ
  pub entry : Entry

abbrev pub queued_in : Batch → List Queued
queued_in batch = map (λ e. record { queue = batch.queue; entry = e }) batch.entries

abbrev pub queued_of : List Batch → List Queued
queued_of batches = flat_map queued_in batches

abbrev pub is_named : List ℕ → Option QueueSpec → Bool
is_named name None = false
is_named name (Some queue) = bytes_eq queue.name name

-- whether an entry is a submit step of the script to the queue of its batch
abbrev pub is_own_step : Script → List ℕ → Option Step → Bool
is_own_step script name (Some (Submit queue task timeout ack)) = is_named name (slice_get script.queues queue)
is_own_step script name _ = false

abbrev pub IsOwn : Script → Queued → Type 0
IsOwn script placed = IsTrue (is_own_step script placed.queue (step_at script placed.entry.client placed.entry.step))

abbrev pub is_same_task : Entry → Entry → Bool
is_same_task a b = is_at b.client b.step a.client a.step

-- an earlier and a later entry: no task stands twice, and in one queue the steps of one client rise
pub record IsApart (a b : Queued) : Type 0 where
  pub other : is_same_task a.entry b.entry ≡ false
  pub rises : bytes_eq a.queue b.queue ≡ true → a.entry.client ≡ b.entry.client → a.entry.step < b.entry.step

-- the `seen` that an entry carries is below the number of its batch
abbrev pub AreSeen : ℕ → List Batch → Type 0
AreSeen number [] = Unit {0}
AreSeen number (batch ∷ batches) = AllByRecursion (λ e. e.seen < number) batch.entries × AreSeen (number + 1) batches

-- each entry is apart from every later one
abbrev pub AreApart : List Queued → Type 0
AreApart [] = Unit {0}
AreApart (placed ∷ more) = AllByRecursion (IsApart placed) more × AreApart more

-- what the entries of a book's batches keep, whatever came of the batches: they are submits of the script, each stands
-- once, and those of one client rise in a queue; their `seen` is only bounded
pub record IsOrdered (script : Script) (batches : List Batch) : Type 0 where
  pub filled : AllByRecursion (λ b. 0 < length b.entries) batches
  pub own : AllByRecursion (IsOwn script) (queued_of batches)
  pub apart : AreApart (queued_of batches)
  pub seen : AreSeen 1 batches

-- the batches of a book: each has the result that was computed for it, and their entries are in order
pub record IsSerial (script : Script) (batches : List Batch) : Type 0 where
  pub results : AllByRecursion (λ s. s.batch.result ≡ s.stepped.result) (history_of script batches)
  pub order : IsOrdered script batches

-- a book is kept where its batches are a serial history and its world is the one after them
pub record IsKept (script : Script) (batches : List Batch) (end : World) : Type 0 where
  pub serial : IsSerial script batches
  pub world : end ≡ world_after script batches
