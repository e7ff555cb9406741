use Rattle.std.proofs.Common.{◌+◌}
use Rattle.master_run.specs.Replays.{AreEnds, HasCounted, IsSound, course_of, serial_of}
use Rattle.master_run.specs.Serials.{load, rest}
use Rattle.master_run.proofs.Resting.{Ends}
use Rattle.master_run.proofs.serial_core.perform_rounds.Given as goal

abbrev pub invariant-loop : goal.invariant-loop
invariant-loop l = record {
  rests : Ends l.script (serial_of l.replay) (rest l.script (load l.script (course_of l.fn.replay) + 1) (serial_of l.fn.replay));
  sound : IsSound l.script l.replay;
  acks : HasCounted l.script l.replay;
  ends : AreEnds l.script l.replay l.links;
}

abbrev pub decreases-loop : goal.decreases-loop
decreases-loop l = load l.script (course_of l.replay)
