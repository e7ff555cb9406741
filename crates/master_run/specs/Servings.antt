-- What the master does: it serves a queue. It takes all that waits there, and what hasn't timed out is a batch. Its nodes
-- are handed the commit of a batch that is published. That a batch takes all tasks of its queue, and that those are left
-- out that timed out, are Elasticsearch's rules (`MasterService`).
use Rattle.std.specs.Prelude.{◌<◌, ℕ, ◌+◌, Bool, List, [], ◌∷◌, ◌++◌, length, IsTrue}
use Rattle.std.specs.List.{list_any}
use Rattle.scripts.specs.declared.whole_script.Script.{Script}
use Rattle.scripts.specs.declared.task_id.TaskId.{TaskId}
use Rattle.session_law.specs.declared.batches.Entry.{Entry}
use Rattle.session_law.specs.declared.task_ends.TaskEnd.{TaskEnd}
use Rattle.session_law.specs.Endings.{is_batch_end}
use Rattle.task_words.specs.declared.answers.Acquired.{Acquired}
use Rattle.task_words.specs.declared.answers.Acquired.TheVariants.{Mine, Timed, Vacant}
use Rattle.task_words.specs.declared.words.Word.TheVariants as word
use Rattle.task_words.specs.Words.{IsWithin, TaskTable, acquired_by, is_open, is_with, taken_by, with_size, with_word, word_at}
use Rattle.master_intake.specs.declared.entries.Waiting.{Waiting}
use Rattle.master_intake.specs.declared.entries.WaitingTask.{WaitingTask}
use Rattle.master_intake.specs.Waitings.{entries_of, is_in, left_by, taken_from}
use Rattle.master_run.specs.Books.{added, last_stepped}
use Rattle.master_run.specs.Courses.{Course, id_at}
use Rattle.master_run.specs.Endings.{code_of}
use Rattle.master_run.specs.Nodes.{handed_each}

-- ---- the tasks of a batch

-- the entries that a batch got so far, and the words after it
pub record Gathered : Type 0 where
  pub entries : List Entry
  pub tasks : TaskTable

-- a batch has the tasks that it gets
abbrev pub entry_by : TaskId → Acquired → List Entry
entry_by id (Mine seen) = record { client = id.client; step = id.step; seen = seen } ∷ []
entry_by id (Timed reading) = []
entry_by id Vacant = []

abbrev pub gathered_with : ℕ → TaskId → Acquired → Gathered → Gathered
gathered_with batch id answer all = record { entries = all.entries ++ entry_by id answer; tasks = taken_by batch id answer all.tasks }

-- a batch, by its number, tries to take each of these tasks, in order
abbrev pub gathered : ℕ → List WaitingTask → Gathered → Gathered
gathered batch [] all = all
gathered batch (first ∷ more) all = gathered batch more (gathered_with batch first.id (acquired_by (word_at all.tasks first.id)) all)

-- ---- how they end

-- the tasks of a batch end, in order, as it says
abbrev pub ended_all : ℕ → List Entry → List TaskEnd → TaskTable → TaskTable
ended_all batch [] ends tasks = tasks
ended_all batch (_ ∷ _) [] tasks = tasks
ended_all batch (entry ∷ entries) (end ∷ ends) tasks =
    ended_all batch entries ends (with_word (id_at entry.client entry.step) (word.Ended (code_of batch end)) tasks)

-- ---- the queue

-- the batch runs, its tasks end, and each node is handed its commit or not; a batch without tasks is none
abbrev pub ran : Script → ℕ → ℕ → ℕ → Course → List Entry → Course
ran script queue at commit k [] = k
ran script queue at commit k (first ∷ more) =
    let book = added script k.book queue (first ∷ more) at commit in
    record k {
      book = book;
      tasks = ended_all (length book.batches) (first ∷ more) book.ends k.tasks;
      nodes = handed_each script (last_stepped book) script.nodes k.nodes;
    }

-- what a batch of all that waits in a queue gets
abbrev pub got_from : ℕ → Course → Gathered
got_from queue k = gathered (length k.book.batches + 1) (entries_of (taken_from queue k.waiting)) (record { entries = []; tasks = with_size queue 0 k.tasks })

-- all that waits in the queue is taken, and its size is covered
abbrev pub served : Script → ℕ → ℕ → ℕ → Course → Course
served script queue at commit k =
    ran script queue at commit (record k { waiting = left_by queue k.waiting; tasks = (got_from queue k).tasks }) (got_from queue k).entries

-- whether something waits in a queue
abbrev pub has_some_in : ℕ → List Waiting → Bool
has_some_in queue waiting = list_any (is_in queue) waiting

-- ---- what the code of this asks

-- a task may be tried by a batch
pub record CanTry (tasks : TaskTable) (id : TaskId) : Type 0 where
  pub within : IsWithin tasks id
  pub free : IsTrue (is_open (word_at tasks id))

-- so may each, after those before it
abbrev pub CanGather : ℕ → List WaitingTask → TaskTable → Type 0
CanGather batch [] tasks = Unit {0}
CanGather batch (first ∷ more) tasks =
    CanTry tasks first.id × CanGather batch more (taken_by batch first.id (acquired_by (word_at tasks first.id)) tasks)

-- a batch may end a task that it has
pub record CanEndOne (batch : ℕ) (entry : Entry) (end : TaskEnd) (tasks : TaskTable) : Type 0 where
  pub within : IsWithin tasks (id_at entry.client entry.step)
  pub taken : IsTrue (is_with batch (word_at tasks (id_at entry.client entry.step)))
  pub so : IsTrue (is_batch_end end)
  pub number : 0 < batch

-- so may it each, after those before it
abbrev pub CanEnd : ℕ → List Entry → List TaskEnd → TaskTable → Type 0
CanEnd batch [] ends tasks = Unit {0}
CanEnd batch (_ ∷ _) [] tasks = Unit {0}
CanEnd batch (entry ∷ entries) (end ∷ ends) tasks =
    CanEndOne batch entry end tasks × CanEnd batch entries ends (with_word (id_at entry.client entry.step) (word.Ended (code_of batch end)) tasks)
