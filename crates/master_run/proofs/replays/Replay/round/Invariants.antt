use Rattle.std.proofs.Common.{◌≡◌, false, drop}
use Rattle.master_run.specs.Replays.{AreEnds, HasCounted, IsSound, serial_of}
use Rattle.master_run.specs.Serials.{client_turns, play}
use Rattle.master_run.proofs.replays.Replay.round.Given as goal

abbrev pub invariant-loop-steps : goal.invariant-loop-steps
invariant-loop-steps l = record {
  place : l.client ≡ l._steps-index;
  leads : play l.script (client_turns l.client (drop l._steps-index l.script.clients)) (l.acted, serial_of l.self) ≡ play l.script (client_turns 0 l.script.clients) (false, serial_of l.fn.self);
  sound : IsSound l.script l.self;
  acks : HasCounted l.script l.self;
  ends : AreEnds l.script l.self l.links;
}
