use Rattle.std.proofs.Common.{◌≡◌, drop}
use Rattle.script_form.specs.Queues.{find_queue}
use Rattle.script_form.proofs.queues.find.Given as goal

-- what is left is searched from the number that was reached
abbrev pub invariant-loop-queue : goal.invariant-loop-queue
invariant-loop-queue l = record {
  number : l.number ≡ l.queue-index;
  left : find_queue l.number (drop l.queue-index l.queues) l.name ≡ find_queue 0 l.queues l.name;
}
