-- A batch that stops at its first refused task, one task after another: how an executor that fails as a whole goes about
-- it. What it makes of a batch is `Executions.unless_refused` of all its tasks.
use Rattle.std.specs.Prelude.{ℕ}
use Rattle.executors.specs.declared.contexts.TaskContext.{TaskContext}
use Rattle.executors.specs.declared.contexts.Verdict.{Verdict}
use Rattle.executors.specs.declared.contexts.Verdict.TheVariants.{Success, Refused}
use Rattle.executors.specs.declared.executions.Executed.{Executed}
use Rattle.executors.specs.declared.executions.Executed.TheVariants.{Made, Failed}
use Rattle.executors.specs.declared.folds.Ran.{Ran}
use Rattle.executors.specs.Executions.{made_of, ran_more, CanRise}
use Rattle.executors.specs.TaskRuns.{task_outcome}

-- after one task more, by its verdict
abbrev pub attempted_by : Verdict → ℕ → Ran → Executed
attempted_by Success position ran = made_of ran
attempted_by (Refused refusal) position ran = Failed position refusal

-- after one task more, unless the batch has failed
abbrev pub attempted : Executed → TaskContext → Executed
attempted (Made state marks) context =
    attempted_by (task_outcome state context.task).1 context.position (ran_more (record { state = state; marks = marks }) context)
attempted (Failed position refusal) context = Failed position refusal

-- a batch that has failed runs no task more
abbrev pub CanGoOn : Executed → Type 0
CanGoOn (Made state marks) = CanRise state
CanGoOn (Failed position refusal) = Unit {0}
