-- The master's book: the batches so far, how the tasks of the last one ended, and the world after them. It is kept
-- where the batches are a serial history of the script and the world is the one after them.
use Rattle.std.specs.Prelude.{◌≡◌, ◌<◌, ◌≤◌, ℕ, Bool, List, [], ◌∷◌, ◌++◌, map, length, Option, Some, None, slice_get}
use Rattle.std.specs.List.{AllByRecursion}
use Rattle.std.specs.Option.{option_map}
use Rattle.publication.specs.LinkMeanings.{LinkMeaning}
use Rattle.session_law.specs.declared.task_ends.TaskEnd.{TaskEnd}
use Rattle.scripts.specs.declared.queues.QueueSpec.{QueueSpec}
use Rattle.scripts.specs.declared.whole_script.Script.{Script}
use Rattle.session_law.specs.declared.batches.Batch.{Batch}
use Rattle.session_law.specs.declared.batches.Entry.{Entry}
use Rattle.session_law.specs.declared.worlds.Stepped.{Stepped}
use Rattle.session_law.specs.declared.worlds.World.{World}
use Rattle.session_law.specs.Histories.{AreApart, IsKept, IsOwn, Queued, SteppedBatch, queued_of, tasks_at}
use Rattle.session_law.specs.Publications.{cut_by}
use Rattle.session_law.specs.BatchSteps.{BatchInput, batch_step}
use Rattle.session_law.specs.Worlds.{first_world}
use Rattle.master_run.specs.declared.plans.Plan.{Plan}
use Rattle.master_run.specs.declared.sendings.Sent.{Sent}
use Rattle.master_run.specs.Plans.{plan_of}
use Rattle.master_run.specs.Reaches.{AreScripted, cut_off}
use Rattle.master_run.specs.Sendings.{IsSentFor}

pub record Chronicle : Type 0 where
  pub batches : List Batch
  pub ends : List TaskEnd
  pub world : World

abbrev pub first_book : Script → Chronicle
first_book script = record { batches = []; ends = []; world = first_world script }

abbrev pub IsKeptBook : Script → Chronicle → Type 0
IsKeptBook script book = IsKept script book.batches book.world

-- the entries of the last batch
abbrev pub last_entries : List Batch → List Entry
last_entries [] = []
last_entries (batch ∷ []) = batch.entries
last_entries (batch ∷ next ∷ more) = last_entries (next ∷ more)

abbrev pub last_batch : List Batch → Option Batch
last_batch [] = None
last_batch (batch ∷ []) = Some batch
last_batch (batch ∷ next ∷ more) = last_batch (next ∷ more)

-- the last batch, as it was stepped
abbrev pub last_stepped : Chronicle → Option SteppedBatch
last_stepped book =
    option_map (λ b. record { batch = b; stepped = record { result = b.result; ends = book.ends }; world = book.world }) (last_batch book.batches)

-- ---- one batch more

-- entries with the name of their queue
abbrev pub placed_in : List ℕ → List Entry → List Queued
placed_in name entries = map (λ e. record { queue = name; entry = e }) entries

-- entries may join a book as a batch of a queue: with them it is in order still
pub record CanJoin (script : Script) (book : Chronicle) (queue : QueueSpec) (entries : List Entry) : Type 0 where
  pub some : 0 < length entries
  pub own : AllByRecursion (IsOwn script) (placed_in queue.name entries)
  pub seen : AllByRecursion (λ e. e.seen ≤ length book.batches) entries
  pub apart : AreApart (queued_of book.batches ++ placed_in queue.name entries)

-- so it is with a queue by its number
pub record CanJoinAt (script : Script) (book : Chronicle) (number : ℕ) (entries : List Entry) : Type 0 where
  pub queue : QueueSpec
  pub of_queue : slice_get script.queues number ≡ Some queue
  pub joins : CanJoin script book queue entries

-- what entries of a queue are run with, beside the world: which nodes can't be reached, and the reading of the commit
abbrev pub input_at : (List ℕ → ℕ → Bool) → Script → QueueSpec → List Entry → ℕ → BatchInput
input_at cut script queue entries commit = record {
  cut = cut;
  nodes = script.nodes;
  kind = queue.executor;
  tasks = tasks_at script entries;
  commit = commit;
}

-- what comes of them where only the script's faults cut nodes off, and the world after it
abbrev pub ran_at : Script → World → QueueSpec → List Entry → ℕ → Stepped × World
ran_at script world queue entries commit = batch_step (input_at (cut_by script.faults) script queue entries commit) world

abbrev pub noted : Chronicle → QueueSpec → List Entry → ℕ → Stepped × World → Chronicle
noted book queue entries at step = record {
  batches = book.batches ++ record { queue = queue.name; at = at; entries = entries; result = step.0.result } ∷ [];
  ends = step.0.ends;
  world = step.1;
}

abbrev pub added_to : Script → Chronicle → Option QueueSpec → List Entry → ℕ → ℕ → Chronicle
added_to script book None entries at commit = book
added_to script book (Some queue) entries at commit = noted book queue entries at (ran_at script book.world queue entries commit)

-- the book with one batch more, of a queue by its number, that was taken at a moment and commits at another, if at all
abbrev pub added : Script → Chronicle → ℕ → List Entry → ℕ → ℕ → Chronicle
added script book number entries at commit = added_to script book (slice_get script.queues number) entries at commit

-- ---- over links

abbrev pub plan_for : Script → QueueSpec → List Entry → World → Plan
plan_for script queue entries world = plan_of queue.executor (tasks_at script entries) world

-- A batch was added over links. It is the step of a batch with those nodes cut off that were sent its state and didn't
-- accept it. A kept book stays kept where these are the nodes that the script cuts off.
pub record IsAdded (script : Script) (number : ℕ) (entries : List Entry) (at : ℕ) (may_read : ℕ → Bool) (before after : List LinkMeaning) (old new : Chronicle) : Type 0 where
  pub queue : QueueSpec
  pub of_queue : slice_get script.queues number ≡ Some queue
  pub sent : Sent
  pub sends : IsSentFor old.world may_read before after sent (plan_for script queue entries old.world)
  pub book : new ≡ noted old queue entries at (batch_step (input_at (cut_off script.nodes sent.delivery.answers) script queue entries sent.commit) old.world)
  pub kept : IsKeptBook script old → AreScripted script.faults script.nodes old.world (plan_for script queue entries old.world) sent.delivery.answers → IsKeptBook script new
