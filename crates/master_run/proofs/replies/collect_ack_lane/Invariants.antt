use Rattle.std.proofs.Common.{◌≡◌, ◌++◌, drop, flat_map}
use Rattle.session_law.specs.ScriptSteps.{numbered_from}
use Rattle.master_run.specs.AckTellings.{told_at}
use Rattle.master_run.proofs.replies.collect_ack_lane.Given as goal

abbrev pub invariant-loop-step : goal.invariant-loop-step
invariant-loop-step l = record {
  place : l.number ≡ l.step-index;
  leads : l.replies ++ flat_map (told_at l.tasks l.acks l.batches) (numbered_from l.client l.number (drop l.step-index l.steps)) ≡ l.fn.replies ++ flat_map (told_at l.tasks l.acks l.batches) (numbered_from l.client 0 l.steps);
}
