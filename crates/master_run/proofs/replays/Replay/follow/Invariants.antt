use Rattle.std.proofs.Common.{◌≡◌, drop}
use Rattle.master_run.specs.Replays.{AreEnds, HasCounted, IsSound, serial_of}
use Rattle.master_run.specs.Serials.{follow}
use Rattle.master_run.proofs.replays.Replay.follow.Given as goal

abbrev pub invariant-loop-turn : goal.invariant-loop-turn
invariant-loop-turn l = record {
  leads : follow l.script (drop l.turn-index l.script.schedule) (serial_of l.self) ≡ follow l.script l.script.schedule (serial_of l.fn.self);
  sound : IsSound l.script l.self;
  acks : HasCounted l.script l.self;
  ends : AreEnds l.script l.self l.links;
}
