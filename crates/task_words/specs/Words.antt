-- The words of tasks: a word for each step of each client, which says how far the task of that step is; a size word for
-- each queue; and a stop word. That a batch and a timeout compete for each waiting task and exactly one of them wins is
-- Elasticsearch's (`MasterService`). That the sizes count announced tasks and a batch covers all of them at once, and
-- that the word tells who won, is this project's own.
use Rattle.std.specs.Prelude.{◌<◌, ◌==◌, ℕ, Bool, true, false, List, map, length, get_or, set, replicate, nat_le, if◌then◌else◌}
use Rattle.scripts.specs.declared.task_id.TaskId.{TaskId}
use Rattle.task_words.specs.declared.answers.Acquired.{Acquired}
use Rattle.task_words.specs.declared.answers.Expiry.{Expiry}
use Rattle.task_words.specs.declared.answers.TaskPoll.{TaskPoll}
use Rattle.task_words.specs.declared.words.Word.{Word}
use Rattle.plain_data.specs.Cells.{cell_at, row_of, with_cell}

-- the words of each client's lane, the size of each queue, and whether the master is to stop
pub record TaskTable : Type 0 where
  pub words : List (List Word)
  pub sizes : List ℕ
  pub stopped : Bool

-- ---- a table and its words

abbrev pub vacant_lane : ℕ → List Word
vacant_lane steps = replicate steps Word.Vacant

-- a table of lanes of these lengths and so many queues, to which nothing was submitted yet
abbrev pub vacant_table : List ℕ → ℕ → TaskTable
vacant_table lanes queues = record {
  words = map vacant_lane lanes;
  sizes = replicate queues 0;
  stopped = false;
}

-- the words of a client: none where there is no such client
abbrev pub lane_of : TaskTable → ℕ → List Word
lane_of table client = row_of table.words client

-- there is a word for the task
pub record IsWithin (table : TaskTable) (id : TaskId) : Type 0 where
  pub client : id.client < length table.words
  pub step : id.step < length (lane_of table id.client)

-- the word of a task: vacant where the table has none
abbrev pub word_at : TaskTable → TaskId → Word
word_at table id = cell_at Word.Vacant table.words id.client id.step

-- the table with another word of a task
abbrev pub with_word : TaskId → Word → TaskTable → TaskTable
with_word id word table = record table { words = with_cell id.client id.step word table.words }

-- ---- a timeout

-- whether a task waits with this deadline
abbrev pub waits_until : ℕ → Word → Bool
waits_until moment (Word.Queued _ deadline) = deadline == moment
waits_until _ Word.Vacant = false
waits_until _ (Word.Taken _ _) = false
waits_until _ (Word.Ended _) = false
waits_until _ (Word.Timed _) = false

-- What a try to let a task time out at this reading is answered, by the word that it finds: it wins exactly where the
-- task waits and its deadline is at most the reading.
abbrev pub expiry_of : ℕ → Word → Expiry
expiry_of reading (Word.Queued _ deadline) = if nat_le deadline reading then Expiry.Won else Expiry.NotDue deadline
expiry_of _ Word.Vacant = Expiry.Vacant
expiry_of _ (Word.Taken _ batch) = Expiry.Taken batch
expiry_of _ (Word.Ended code) = Expiry.Ended code
expiry_of _ (Word.Timed before) = Expiry.AlreadyTimed before

-- the table after a try that is answered so: one that doesn't win changes nothing
abbrev pub timed_by : ℕ → TaskId → Expiry → TaskTable → TaskTable
timed_by reading id Expiry.Won table = with_word id (Word.Timed reading) table
timed_by _ _ (Expiry.NotDue _) table = table
timed_by _ _ Expiry.Vacant table = table
timed_by _ _ (Expiry.Taken _) table = table
timed_by _ _ (Expiry.Ended _) table = table
timed_by _ _ (Expiry.AlreadyTimed _) table = table

-- ---- a batch

-- whether no batch has or had the task
abbrev pub is_open : Word → Bool
is_open Word.Vacant = true
is_open (Word.Queued _ _) = true
is_open (Word.Timed _) = true
is_open (Word.Taken _ _) = false
is_open (Word.Ended _) = false

-- What a batch's try to take an open task is answered, by the word that it finds: it gets the task exactly where that
-- waits. (No batch asks for a task that is taken or ended.)
abbrev pub acquired_by : Word → Acquired
acquired_by (Word.Queued seen _) = Acquired.Mine seen
acquired_by (Word.Timed reading) = Acquired.Timed reading
acquired_by Word.Vacant = Acquired.Vacant
acquired_by (Word.Taken _ _) = Acquired.Vacant
acquired_by (Word.Ended _) = Acquired.Vacant

-- the table after a try that is answered so: one that doesn't get the task changes nothing
abbrev pub taken_by : ℕ → TaskId → Acquired → TaskTable → TaskTable
taken_by batch id (Acquired.Mine seen) table = with_word id (Word.Taken seen batch) table
taken_by _ _ (Acquired.Timed _) table = table
taken_by _ _ Acquired.Vacant table = table

-- whether this batch has the task
abbrev pub is_with : ℕ → Word → Bool
is_with batch (Word.Taken _ holder) = holder == batch
is_with _ Word.Vacant = false
is_with _ (Word.Queued _ _) = false
is_with _ (Word.Ended _) = false
is_with _ (Word.Timed _) = false

-- ---- a client's look

-- what a client learns of a task that it submitted: that it isn't yet at its end, exactly where it waits or is taken
abbrev pub polled : Word → TaskPoll
polled (Word.Ended code) = TaskPoll.Ended code
polled (Word.Timed reading) = TaskPoll.Timed reading
polled Word.Vacant = TaskPoll.NotYet
polled (Word.Queued _ _) = TaskPoll.NotYet
polled (Word.Taken _ _) = TaskPoll.NotYet

-- ---- the sizes of queues

abbrev pub size_of : TaskTable → ℕ → ℕ
size_of table queue = get_or table.sizes queue 0

abbrev pub with_size : ℕ → ℕ → TaskTable → TaskTable
with_size queue size table = record table { sizes = set table.sizes queue size }
