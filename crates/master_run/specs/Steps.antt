-- What a client does: it performs its next step, where that can act. Each step that is performed moves the client on. The
-- rule is this project's own.
use Rattle.std.specs.Prelude.{ℕ, ◌+◌, List, [], ◌∷◌, ◌++◌, max, Option, Some, None, is_some, slice_set, if◌then◌else◌}
use Rattle.scripts.specs.declared.whole_script.Script.{Script}
use Rattle.scripts.specs.declared.steps.Step.{Step}
use Rattle.scripts.specs.declared.steps.Goal.TheVariants as goal
use Rattle.scripts.specs.declared.steps.Step.TheVariants.{Submit, Await, Sleep}
use Rattle.executors.specs.declared.tasks.Task.{Task}
use Rattle.session_law.specs.declared.replies.AckEnd.{AckEnd}
use Rattle.session_law.specs.Histories.{step_at}
use Rattle.task_words.specs.declared.end_codes.Outcome.{Outcome}
use Rattle.task_words.specs.declared.end_codes.Outcome.TheVariants as outcome
use Rattle.task_words.specs.declared.words.Word.{Word}
use Rattle.task_words.specs.declared.words.Word.TheVariants as word
use Rattle.plain_data.specs.Cells.{with_cell}
use Rattle.task_words.specs.Words.{size_of, with_size, with_word}
use Rattle.master_intake.specs.declared.entries.Waiting.{Waiting}
use Rattle.master_run.specs.AckCourses.{ack_end, acked_in}
use Rattle.master_run.specs.Courses.{Course, id_at, next_at, seen_at, word_of}
use Rattle.master_run.specs.Endings.{deadline_of}

-- the client is at its next step
abbrev pub moved_on : List ℕ → ℕ → List ℕ
moved_on positions client = slice_set positions client (next_at positions client + 1)

-- ---- a submit

-- the entry of what waits for a task of a client's step
abbrev pub waiting_of : ℕ → ℕ → ℕ → Task → Waiting
waiting_of client step queue task = record { queue = queue; entry = record { id = id_at client step; task = task } }

-- the task's word is queued, its queue is told of it, and it waits behind all else
abbrev pub submitted_by : Course → ℕ → ℕ → ℕ → Task → Option ℕ → Course
submitted_by k client at queue task timeout =
    let step = next_at k.positions client in
    record k {
      waiting = k.waiting ++ waiting_of client step queue task ∷ [];
      tasks = with_size queue (size_of k.tasks queue + 1) (with_word (id_at client step) (word.Queued (seen_at k.awaited client) (deadline_of at timeout)) k.tasks);
      ats = with_cell client step at k.ats;
      positions = moved_on k.positions client;
    }

-- ---- an await

-- the number of the batch in which a task has ended, by its word; 0 where it timed out, and none where it hasn't ended
abbrev pub batch_told : Word → Option ℕ
batch_told word.Vacant = None
batch_told (word.Queued seen deadline) = None
batch_told (word.Taken seen batch) = None
batch_told (word.Ended code) = Some code.batch
batch_told (word.Timed reading) = Some 0

-- an await for a task acts where the task has ended; then its client has seen the task's batch
abbrev pub awaited_by : Course → ℕ → Option ℕ → Option Course
awaited_by k client None = None
awaited_by k client (Some batch) = Some (record k {
  positions = moved_on k.positions client;
  awaited = slice_set k.awaited client (max (seen_at k.awaited client) batch);
})

-- what a client is told whose task's batch published a version, by the end of the acknowledgement; of any other outcome
-- there is nothing to wait for
abbrev pub code_told : ℕ → Option AckEnd → Outcome → Option ℕ
code_told batch end (outcome.Ok version) = if is_some end then Some batch else None
code_told batch end _ = Some batch

-- the same of an await for an acknowledgement: it acts where the task has ended, and the acknowledgement if it counts
abbrev pub ack_told : Option AckEnd → Word → Option ℕ
ack_told end word.Vacant = None
ack_told end (word.Queued seen deadline) = None
ack_told end (word.Taken seen batch) = None
ack_told end (word.Ended code) = code_told code.batch end code.outcome
ack_told end (word.Timed reading) = Some 0

-- the end of the acknowledgement of a step; none where it is open or doesn't count
abbrev pub ack_end_in : Script → Course → ℕ → ℕ → Option AckEnd
ack_end_in script k client step =
    ack_end script k.book.batches k.nodes (k.lapses client step) (acked_in script k.book.batches client step)

-- ---- a step

-- whoever performs a sleep has let its time pass
abbrev pub slept_by : Course → ℕ → Course
slept_by k client = record k { positions = moved_on k.positions client }

-- a client at its end can't act, nor can one at a step of another kind, as that isn't performed yet
abbrev pub step_by : Script → Course → ℕ → ℕ → Option Step → Option Course
step_by script k client at (Some (Submit queue task timeout ack)) = Some (submitted_by k client at queue task timeout)
step_by script k client at (Some (Await earlier goal.Task)) = awaited_by k client (batch_told (word_of k.tasks client earlier))
step_by script k client at (Some (Await earlier goal.Ack)) =
    awaited_by k client (ack_told (ack_end_in script k client earlier) (word_of k.tasks client earlier))
step_by script k client at (Some (Sleep ms)) = Some (slept_by k client)
step_by script k client at _ = None

-- the next step of a client
abbrev pub next_step_of : Script → Course → ℕ → Option Step
next_step_of script k client = step_at script client (next_at k.positions client)

-- a client performs its next step at a reading
abbrev pub performed : Script → ℕ → ℕ → Course → Option Course
performed script client at k = step_by script k client at (next_step_of script k client)
