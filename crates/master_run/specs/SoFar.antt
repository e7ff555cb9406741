-- A lawful beginning of a session: what holds of a course after every event, in whatever order events come and whatever
-- their readings are. Each rule is said of the components alone that it reads, so that an event that leaves these alone
-- keeps the rule as it is.
use Rattle.std.specs.Prelude.{◌≡◌, ℕ, ◌<◌, Bool, true, false, not, ◌==◌, ◌&&◌, List, [], ◌∷◌, ◌++◌, Option, Some, None, filter, length, map, nat_lt, slice_get, IsTrue, is_some}
use Rattle.std.specs.List.{AllByRecursion, AllZip, list_any}
use Rattle.meta_state.specs.declared.cluster_state.ClusterState.{ClusterState}
use Rattle.scripts.specs.declared.queues.QueueSpec.{QueueSpec}
use Rattle.scripts.specs.declared.whole_script.Script.{Script}
use Rattle.scripts.specs.declared.whole_script.ScriptNode.{ScriptNode}
use Rattle.scripts.specs.declared.steps.Step.{Step}
use Rattle.scripts.specs.declared.steps.Step.TheVariants.{Submit}
use Rattle.scripts.specs.Scripts.{is_submit}
use Rattle.session_law.specs.declared.batches.Batch.{Batch}
use Rattle.session_law.specs.declared.task_ends.TaskEnd.{TaskEnd}
use Rattle.session_law.specs.Acknowledgements.{is_over_at}
use Rattle.session_law.specs.Endings.{IsOver, does_await_task, task_timeout_of}
use Rattle.session_law.specs.Histories.{IsApart, Queued, queued_of, step_at}
use Rattle.session_law.specs.NodeRecords.{Commit, applies_from, commits_to, does_fail, first_of, last_of}
use Rattle.session_law.specs.Outcomes.{batch_number_of, outcome_of}
use Rattle.session_law.specs.ScriptSteps.{is_at, is_some_so}
use Rattle.session_law.specs.SerialHistories.{HasSeen, seen_of}
use Rattle.task_words.specs.declared.words.Word.{Word}
use Rattle.task_words.specs.declared.words.Word.TheVariants as word
use Rattle.task_words.specs.Words.{TaskTable, size_of}
use Rattle.master_intake.specs.declared.entries.Waiting.{Waiting}
use Rattle.master_intake.specs.Waitings.{taken_from}
use Rattle.master_run.specs.AckCourses.{Acked, acked_in, due_in, is_late}
use Rattle.master_run.specs.Books.{Chronicle, IsKeptBook}
use Rattle.master_run.specs.Courses.{Course, lanes_of, moment_at, next_at, seen_at, word_of}
use Rattle.master_run.specs.Endings.{deadline_of, end_by}
use Rattle.master_run.specs.Nodes.{NodeCourse}

-- ---- how far a task is

abbrev pub is_vacant : Word → Bool
is_vacant word.Vacant = true
is_vacant (word.Queued seen deadline) = false
is_vacant (word.Taken seen batch) = false
is_vacant (word.Ended code) = false
is_vacant (word.Timed reading) = false

-- whether a task has ended, in a batch or not
abbrev pub is_over : Word → Bool
is_over word.Vacant = false
is_over (word.Queued seen deadline) = false
is_over (word.Taken seen batch) = false
is_over (word.Ended code) = true
is_over (word.Timed reading) = true

-- whether a task may stand in the waiting list: it waits, or it timed out there
abbrev pub may_wait : Word → Bool
may_wait word.Vacant = false
may_wait (word.Queued seen deadline) = true
may_wait (word.Taken seen batch) = false
may_wait (word.Ended code) = false
may_wait (word.Timed reading) = true

-- ---- performed: a task has a word exactly where its step was performed

abbrev pub is_passed : List ℕ → ℕ → ℕ → Bool
is_passed positions client step = nat_lt step (next_at positions client)

abbrev pub is_submit_at : Option Step → Bool
is_submit_at step = is_some_so is_submit step

pub record IsPerformed (script : Script) (positions : List ℕ) (tasks : TaskTable) (ats : List (List ℕ)) : Type 0 where
  pub places : length positions ≡ length script.clients
  pub lanes : map length tasks.words ≡ lanes_of script
  pub rows : map length ats ≡ lanes_of script
  pub cells : (client step : ℕ) → not (is_vacant (word_of tasks client step)) ≡ (is_passed positions client step && is_submit_at (step_at script client step))

-- ---- serial: the book is kept, all that waits may still join it, and what each client has seen is exact

-- an entry's step was performed
abbrev pub IsPassed : List ℕ → Queued → Type 0
IsPassed positions placed = placed.entry.step < next_at positions placed.entry.client

abbrev pub is_submit_to : ℕ → Option Step → Bool
is_submit_to number None = false
is_submit_to number (Some (Submit queue task timeout ack)) = queue == number
is_submit_to number (Some _) = false

abbrev pub name_if : Option QueueSpec → List ℕ
name_if None = []
name_if (Some queue) = queue.name

-- what waits as an entry of its queue by name; what it has seen stands in its word
abbrev pub queued_at : List QueueSpec → Waiting → Queued
queued_at queues waiting = record {
  queue = name_if (slice_get queues waiting.queue);
  entry = record { client = waiting.entry.id.client; step = waiting.entry.id.step; seen = 0 };
}

-- what waits is a submit of the script to its queue, and was performed
pub record IsWaiting (script : Script) (positions : List ℕ) (waiting : Waiting) : Type 0 where
  pub queue : QueueSpec
  pub of_queue : slice_get script.queues waiting.queue ≡ Some queue
  pub own : IsTrue (is_submit_to waiting.queue (step_at script waiting.entry.id.client waiting.entry.id.step))
  pub passed : waiting.entry.id.step < next_at positions waiting.entry.id.client

-- each entry of a list may join all that waits before it
abbrev pub AreApartFrom : List QueueSpec → List Queued → List Waiting → Type 0
AreApartFrom queues placed all = AllByRecursion (λ w. AllByRecursion (λ before. IsApart before (queued_at queues w)) placed) all

abbrev pub AreApartAmong : List QueueSpec → List Waiting → Type 0
AreApartAmong queues [] = Unit {0}
AreApartAmong queues (first ∷ more) = AllByRecursion (λ w. IsApart (queued_at queues first) (queued_at queues w)) more × AreApartAmong queues more

-- the book, and what waits behind it
pub record IsOrderedSoFar (script : Script) (book : Chronicle) (waiting : List Waiting) (positions : List ℕ) : Type 0 where
  pub kept : IsKeptBook script book
  pub passed : AllByRecursion (IsPassed positions) (queued_of book.batches)
  pub waits : AllByRecursion (IsWaiting script positions) waiting
  pub apart : AreApartFrom script.queues (queued_of book.batches) waiting
  pub among : AreApartAmong script.queues waiting

-- what a task that waits has seen
abbrev pub HasSeenSoFar : Script → List Batch → ℕ → ℕ → Word → Type 0
HasSeenSoFar script batches client step word.Vacant = Unit {0}
HasSeenSoFar script batches client step (word.Queued seen deadline) = seen ≡ seen_of script batches client step
HasSeenSoFar script batches client step (word.Taken seen batch) = Unit {0}
HasSeenSoFar script batches client step (word.Ended code) = Unit {0}
HasSeenSoFar script batches client step (word.Timed reading) = Unit {0}

-- of the tasks in the book, of those that wait, and of the clients
pub record IsSeenSoFar (script : Script) (batches : List Batch) (tasks : TaskTable) (positions awaited : List ℕ) : Type 0 where
  pub places : length awaited ≡ length script.clients
  pub in_book : AllByRecursion (HasSeen script batches) (queued_of batches)
  pub waiting : (client step : ℕ) → HasSeenSoFar script batches client step (word_of tasks client step)
  pub clients : (client : ℕ) → seen_at awaited client ≡ seen_of script batches client (next_at positions client)

-- ---- passed: what a step that was performed has awaited is over

abbrev pub IsPassedSoFar : Script → List ℕ → TaskTable → Type 0
IsPassedSoFar script positions tasks =
    (client step earlier : ℕ) (s : Step) → step < next_at positions client → step_at script client step ≡ Some s → does_await_task earlier s ≡ true → is_over (word_of tasks client earlier) ≡ true

-- ---- ended: each task ends once

abbrev pub is_entry_of : ℕ → ℕ → Waiting → Bool
is_entry_of client step waiting = is_at client step waiting.entry.id.client waiting.entry.id.step

-- a task that waits stands in the waiting list, with its deadline
pub record IsStillQueued (waiting : List Waiting) (client step at : ℕ) (timeout : Option ℕ) (deadline : ℕ) : Type 0 where
  pub waits : IsTrue (list_any (is_entry_of client step) waiting)
  pub due : deadline ≡ deadline_of at timeout

-- a task that timed out is in no batch, and its deadline was there
pub record IsTimed (script : Script) (batches : List Batch) (client step at : ℕ) (timeout : Option ℕ) (reading : ℕ) : Type 0 where
  pub number : batch_number_of batches client step ≡ 0
  pub outcome : outcome_of script batches client step ≡ None
  pub over : IsOver at timeout (deadline_of at timeout) reading

-- a task that ended did so in its batch, as that says
pub record IsEndedIn (script : Script) (batches : List Batch) (client step batch : ℕ) (end : Option TaskEnd) : Type 0 where
  pub number : batch ≡ batch_number_of batches client step
  pub outcome : outcome_of script batches client step ≡ end
  pub some : IsTrue (is_some end)

abbrev pub IsWordLawful : Script → List Batch → List Waiting → ℕ → ℕ → ℕ → Option ℕ → Word → Type 0
IsWordLawful script batches waiting client step at timeout word.Vacant = Unit {0}
IsWordLawful script batches waiting client step at timeout (word.Queued seen deadline) = IsStillQueued waiting client step at timeout deadline
IsWordLawful script batches waiting client step at timeout (word.Taken seen batch) = ⊥
IsWordLawful script batches waiting client step at timeout (word.Ended code) = IsEndedIn script batches client step code.batch (end_by code.outcome)
IsWordLawful script batches waiting client step at timeout (word.Timed reading) = IsTimed script batches client step at timeout reading

pub record IsEndedSoFar (script : Script) (batches : List Batch) (waiting : List Waiting) (tasks : TaskTable) (ats : List (List ℕ)) : Type 0 where
  pub words : (client step : ℕ) → IsWordLawful script batches waiting client step (moment_at ats client step) (task_timeout_of (step_at script client step)) (word_of tasks client step)
  pub waits : AllByRecursion (λ w. may_wait (word_of tasks w.entry.id.client w.entry.id.step) ≡ true) waiting

-- ---- told: each queue's size is the number of tasks that wait there, and nobody lets the master stop

pub record IsTold (script : Script) (waiting : List Waiting) (tasks : TaskTable) : Type 0 where
  pub queues : length tasks.sizes ≡ length script.queues
  pub sizes : (queue : ℕ) → size_of tasks queue ≡ length (taken_from queue waiting)
  pub stopped : tasks.stopped ≡ false

-- ---- recorded: each node took a first part of what the batches hand it, and has the rest left

-- the states that a node has after its first one, where it takes these commits
abbrev pub states_in : Script → List ℕ → List Commit → List ClusterState
states_in script name commits = map (λ c. c.state) (filter (λ c. not (does_fail script name c)) commits)

-- what a node has that took these commits
pub record HasTaken (script : Script) (node : ScriptNode) (taken : List Commit) (has : NodeCourse) : Type 0 where
  pub state : has.state ≡ last_of (first_of script (Some node)) (states_in script node.name taken)
  pub place : has.place ≡ length (states_in script node.name taken)
  pub applies : has.applies ≡ applies_from script node.name (first_of script (Some node)) taken

pub record IsRecordedAt (script : Script) (batches : List Batch) (node : ScriptNode) (has : NodeCourse) : Type 0 where
  pub taken : List Commit
  pub handed : taken ++ has.left ≡ commits_to script batches node.name
  pub took : HasTaken script node taken has

abbrev pub IsRecordedSoFar : Script → List Batch → List NodeCourse → Type 0
IsRecordedSoFar script batches nodes = AllZip (IsRecordedAt script batches) script.nodes nodes

-- ---- lapsed: an acknowledgement that timed out after its commit wasn't late there, and its deadline was there

pub record IsLapsed (acked : Option Acked) (reading : ℕ) : Type 0 where
  pub of : Acked
  pub found : acked ≡ Some of
  pub early : is_late of ≡ false
  pub over : is_over_at reading (due_in of) ≡ true

abbrev pub IsLapsedSoFar : Script → List Batch → (ℕ → ℕ → Option ℕ) → Type 0
IsLapsedSoFar script batches lapses =
    (client step reading : ℕ) → lapses client step ≡ Some reading → IsLapsed (acked_in script batches client step) reading

-- ---- all of them

pub record IsLawfulSoFar (script : Script) (k : Course) : Type 0 where
  pub performed : IsPerformed script k.positions k.tasks k.ats
  pub ordered : IsOrderedSoFar script k.book k.waiting k.positions
  pub seen : IsSeenSoFar script k.book.batches k.tasks k.positions k.awaited
  pub passed : IsPassedSoFar script k.positions k.tasks
  pub ended : IsEndedSoFar script k.book.batches k.waiting k.tasks k.ats
  pub told : IsTold script k.waiting k.tasks
  pub recorded : IsRecordedSoFar script k.book.batches k.nodes
  pub lapsed : IsLapsedSoFar script k.book.batches k.lapses
