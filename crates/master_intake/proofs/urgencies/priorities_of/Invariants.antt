use Rattle.std.proofs.Common.{◌≡◌, ◌++◌, drop}
use Rattle.master_intake.specs.Waitings.{priorities_of}
use Rattle.master_intake.proofs.urgencies.priorities_of.Given as goal

abbrev pub invariant-loop-queue : goal.invariant-loop-queue
invariant-loop-queue l = l.priorities ++ priorities_of (drop l.queue-index l.queues) ≡ priorities_of l.queues
