-- Each task ends once: as its batch says, or, in no batch, at its deadline or by the close step. The rule is this
-- project's own.
use Rattle.std.specs.Prelude.{◌≡◌, ℕ, ◌==◌, ◌≤◌, ◌<◌, ◌&&◌, Bool, true, false, List, Option, Some, None, count_by, IsTrue}
use Rattle.std.specs.List.{AllByRecursion, list_any}
use Rattle.session_law.specs.declared.task_ends.TaskEnd.{TaskEnd}
use Rattle.session_law.specs.declared.task_ends.TaskEnd.TheVariants as end
use Rattle.scripts.specs.declared.whole_script.Script.{Script}
use Rattle.scripts.specs.declared.steps.Goal.TheVariants as goal
use Rattle.scripts.specs.declared.steps.Step.{Step}
use Rattle.scripts.specs.declared.steps.Step.TheVariants.{Await, Submit}
use Rattle.scripts.specs.Scripts.{is_submit}
use Rattle.session_law.specs.declared.batches.Batch.{Batch}
use Rattle.session_law.specs.declared.replies.Reply.{Reply}
use Rattle.session_law.specs.DueTimes.{due}
use Rattle.session_law.specs.Histories.{step_at}
use Rattle.session_law.specs.Outcomes.{outcome_of}
use Rattle.session_law.specs.ScriptSteps.{before_close, is_after_close, is_at, is_close_at, is_some_so, numbered_steps}

-- whether a step awaits the task of a number, or its acknowledgement
abbrev pub does_await_task : ℕ → Step → Bool
does_await_task task (Await step goal.Task) = step == task
does_await_task task (Await step goal.Ack) = step == task
does_await_task task _ = false

-- whether the closing client had awaited a task before it closed
abbrev pub is_awaited_before_close : Script → ℕ → ℕ → Bool
is_awaited_before_close script client step = list_any (λ s. (s.client == client) && does_await_task step s.step) (before_close script)

-- the time that a submit step may wait; none is for ever
abbrev pub task_timeout_of : Option Step → Option ℕ
task_timeout_of (Some (Submit queue task timeout ack)) = timeout
task_timeout_of _ = None

-- the deadline of a task that may wait so long, and a reading at or past it
abbrev pub IsOver : ℕ → Option ℕ → ℕ → ℕ → Type 0
IsOver at None deadline reading = ⊥
IsOver at (Some timeout) deadline reading = (0 < timeout) × ((deadline ≡ due at timeout) × (deadline ≤ reading))

-- the end of a task that is in no batch
abbrev pub IsUnbatchedEnd : Script → Reply → TaskEnd → Type 0
IsUnbatchedEnd script reply (end.Timeout deadline reading) = IsOver reply.at (task_timeout_of (step_at script reply.client reply.step)) deadline reading
IsUnbatchedEnd script reply (end.Closed client step) =
    IsTrue (is_close_at script client step) × (is_awaited_before_close script reply.client reply.step ≡ false)
IsUnbatchedEnd script reply _ = ⊥

-- a task that a batch holds ends with its outcome
abbrev pub IsEndBy : Script → Reply → Option TaskEnd → Type 0
IsEndBy script reply (Some outcome) = reply.end ≡ outcome
IsEndBy script reply None = IsUnbatchedEnd script reply reply.end

abbrev pub is_closed : TaskEnd → Bool
is_closed (end.Closed client step) = true
is_closed _ = false

-- whether a task in a batch can end so
abbrev pub is_batch_end : TaskEnd → Bool
is_batch_end (end.Timeout deadline reading) = false
is_batch_end (end.Closed client step) = false
is_batch_end _ = true

-- the reply to a submit step
pub record IsEnded (script : Script) (batches : List Batch) (reply : Reply) : Type 0 where
  pub submit : IsTrue (is_some_so is_submit (step_at script reply.client reply.step))
  pub end : IsEndBy script reply (outcome_of script batches reply.client reply.step)
  pub after_close : is_after_close script reply.client reply.step ≡ true → IsTrue (is_closed reply.end)

-- each submit step has one reply, and there are no others
pub record EndsOnce (script : Script) (batches : List Batch) (replies : List Reply) : Type 0 where
  pub ended : AllByRecursion (IsEnded script batches) replies
  pub once : AllByRecursion (λ s. is_submit s.step ≡ true → count_by (λ r. is_at s.client s.number r.client r.step) replies ≡ 1) (numbered_steps script)
