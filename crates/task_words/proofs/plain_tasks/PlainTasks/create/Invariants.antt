use Rattle.std.proofs.Common.{◌≡◌, ◌++◌, map, drop}
use Rattle.task_words.specs.Words.{vacant_lane}
use Rattle.task_words.proofs.plain_tasks.PlainTasks.create.Given as goal

abbrev pub invariant-loop-steps : goal.invariant-loop-steps
invariant-loop-steps l = l.words.items ++ map vacant_lane (drop l.steps-index l.lanes) ≡ map vacant_lane l.fn.lanes
