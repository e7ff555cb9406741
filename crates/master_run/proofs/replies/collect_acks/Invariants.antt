use Rattle.std.proofs.Common.{◌≡◌, ◌++◌, drop, flat_map}
use Rattle.session_law.specs.ScriptSteps.{clients_from}
use Rattle.master_run.specs.AckTellings.{told_at}
use Rattle.master_run.proofs.replies.collect_acks.Given as goal

abbrev pub invariant-loop-steps : goal.invariant-loop-steps
invariant-loop-steps l = record {
  place : l.client ≡ l.steps-index;
  leads : l.replies ++ flat_map (told_at l.tasks l.acks l.batches) (clients_from l.client (drop l.steps-index l.script.clients)) ≡ flat_map (told_at l.tasks l.acks l.batches) (clients_from 0 l.script.clients);
}
