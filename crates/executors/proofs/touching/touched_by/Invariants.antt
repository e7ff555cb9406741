use Rattle.std.specs.Prelude.{◌≡◌, drop}
use Rattle.meta_state.specs.Touches.{touched_none}
use Rattle.executors.specs.Touching.{touched_also}
use Rattle.executors.proofs.touching.touched_by.Given as goal

abbrev pub invariant-loop-task : goal.invariant-loop-task
invariant-loop-task l = touched_also l.touched (drop l.task-index l.tasks) ≡ touched_also touched_none l.fn.tasks
