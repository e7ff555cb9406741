-- The calls of the waiting list: what a submission is refused with, and what each call leaves.
use Rattle.std.specs.Prelude.{ℕ, List, [], ◌∷◌, ◌++◌, map, length, nat_le, Option, Some, None, if◌then◌else◌}
use Rattle.executors.specs.declared.tasks.Task.{Task}
use Rattle.scripts.specs.declared.queues.Priority.{Priority}
use Rattle.scripts.specs.declared.task_id.TaskId.{TaskId}
use Rattle.task_words.specs.Words.{lane_of, TaskTable, with_size}
use Rattle.master_intake.specs.declared.entries.Taken.{Taken}
use Rattle.master_intake.specs.declared.entries.Waiting.{Waiting}
use Rattle.master_intake.specs.declared.entries.WaitingTask.{WaitingTask}
use Rattle.master_intake.specs.declared.refusals.IntakeRefusal.{IntakeRefusal}
use Rattle.master_intake.specs.declared.refusals.NotSubmitted.{NotSubmitted}
use Rattle.master_intake.specs.Waitings.{entries_of, left_by, next_queue, taken_from}

-- how urgent each queue is, by its number, and what waits, in the order of submission
pub record WaitTable : Type 0 where
  pub priorities : List Priority
  pub waiting : List Waiting

-- ---- submissions

abbrev pub refusal_number : IntakeRefusal → ℕ
refusal_number IntakeRefusal.Closed = 1
refusal_number IntakeRefusal.LaneFull = 2
refusal_number IntakeRefusal.OutOfMemory = 3

-- What speaks against a submission of a client's step: that the master is to stop, and then that the lane has no word
-- for the step.
abbrev pub refusal_of : TaskTable → ℕ → ℕ → Option IntakeRefusal
refusal_of table lane step =
    if table.stopped then Some IntakeRefusal.Closed else (if nat_le (length (lane_of table lane)) step then Some IntakeRefusal.LaneFull else None)

-- a submission that isn't accepted: where nothing speaks against it, memory was wanting
abbrev pub not_submitted : Option IntakeRefusal → Task → NotSubmitted
not_submitted (Some why) task = record { why = why; task = Some task }
not_submitted None task = record { why = IntakeRefusal.OutOfMemory; task = None }

-- the list with one more entry, at the end
abbrev pub with_entry : ℕ → WaitingTask → WaitTable → WaitTable
with_entry queue entry table = record table { waiting = table.waiting ++ record { queue = queue; entry = entry } ∷ [] }

-- ---- batches

-- all that waits in a queue
abbrev pub batch_from : List Waiting → Option ℕ → Option Taken
batch_from waiting None = None
batch_from waiting (Some queue) = Some (record { queue = queue; waiting = entries_of (taken_from queue waiting) })

-- all that waits in the queue that is served next; none where nothing waits
abbrev pub batch_of : WaitTable → Option Taken
batch_of table = batch_from table.waiting (next_queue table.priorities table.waiting)

abbrev pub left_without : List Waiting → Option ℕ → List Waiting
left_without waiting None = waiting
left_without waiting (Some queue) = left_by queue waiting

-- the list after that batch
abbrev pub left_after : WaitTable → WaitTable
left_after table = record table { waiting = left_without table.waiting (next_queue table.priorities table.waiting) }

-- the words of tasks after a batch of a queue
abbrev pub covered_by : Option ℕ → TaskTable → TaskTable
covered_by None table = table
covered_by (Some queue) table = with_size queue 0 table

-- ---- the end

-- which tasks wait
abbrev pub ids_of : List Waiting → List TaskId
ids_of all = map (λ w. w.entry.id) all
