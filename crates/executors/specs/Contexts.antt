-- The places of tasks in a batch, and the mark of a completed task.
use Rattle.std.specs.Prelude.{ℕ, ◌+◌, List, [], ◌∷◌}
use Rattle.executors.specs.declared.tasks.Task.{Task}
use Rattle.executors.specs.declared.contexts.TaskContext.{TaskContext}
use Rattle.executors.specs.declared.contexts.Verdict.{Verdict}
use Rattle.executors.specs.declared.contexts.Mark.{Mark}

abbrev pub marked : ℕ → Verdict → Mark
marked position verdict = record { position = position; verdict = verdict }

-- tasks under their places, from one on
abbrev pub numbered : ℕ → List Task → List TaskContext
numbered place [] = []
numbered place (task ∷ tasks) = record { position = place; task = task } ∷ numbered (place + 1) tasks
