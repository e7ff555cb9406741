-- The course of a session: all that the master, its words, its clients and its nodes know between two events.
use Rattle.std.specs.Prelude.{ℕ, List, [], length, map, replicate, Option, None, slice_index_or}
use Rattle.scripts.specs.declared.whole_script.Script.{Script}
use Rattle.scripts.specs.declared.task_id.TaskId.{TaskId}
use Rattle.task_words.specs.declared.words.Word.{Word}
use Rattle.plain_data.specs.Cells.{cell_at}
use Rattle.task_words.specs.Words.{TaskTable, vacant_table, word_at}
use Rattle.master_intake.specs.declared.entries.Waiting.{Waiting}
use Rattle.master_run.specs.Books.{Chronicle, first_book}
use Rattle.master_run.specs.Nodes.{NodeCourse, fresh_nodes}

pub record Course : Type 0 where
  -- the batches so far, and the world after them
  pub book : Chronicle
  -- what was submitted and not taken yet, in the order of submission; the tasks that timed out too
  pub waiting : List Waiting
  -- how far each task is
  pub tasks : TaskTable
  -- by client and step, when each task was submitted
  pub ats : List (List ℕ)
  -- for each client, the number of its next step
  pub positions : List ℕ
  -- for each client, the greatest number of a batch that holds a task whose end it awaited; 0 if none
  pub awaited : List ℕ
  -- each node of the script, in its order
  pub nodes : List NodeCourse
  -- by client and step, the reading at which an acknowledgement timed out, if it did so after its commit
  pub lapses : ℕ → ℕ → Option ℕ

-- ---- at first

-- how many steps each client has
abbrev pub lanes_of : Script → List ℕ
lanes_of script = map length script.clients

abbrev pub zeros_of : Script → List ℕ
zeros_of script = map (λ steps. 0) script.clients

abbrev pub first_course : Script → Course
first_course script = record {
  book = first_book script;
  waiting = [];
  tasks = vacant_table (lanes_of script) (length script.queues);
  ats = map (λ steps. replicate steps 0) (lanes_of script);
  positions = zeros_of script;
  awaited = zeros_of script;
  nodes = fresh_nodes script;
  lapses = λ client step. None;
}

-- ---- of a client and a step

-- the number of a client's next step
abbrev pub next_at : List ℕ → ℕ → ℕ
next_at positions client = slice_index_or positions client 0

-- the greatest number of a batch that a client has awaited
abbrev pub seen_at : List ℕ → ℕ → ℕ
seen_at awaited client = slice_index_or awaited client 0

abbrev pub id_at : ℕ → ℕ → TaskId
id_at client step = record { client = client; step = step }

-- how far the task of a step is
abbrev pub word_of : TaskTable → ℕ → ℕ → Word
word_of tasks client step = word_at tasks (id_at client step)

-- when the task of a step was submitted
abbrev pub moment_at : List (List ℕ) → ℕ → ℕ → ℕ
moment_at ats client step = cell_at 0 ats client step
