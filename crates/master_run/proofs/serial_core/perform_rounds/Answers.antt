use Rattle.master_run.specs.Replays.{serial_of}
use Rattle.master_run.proofs.Resting.{round_ended, round_on, round_smaller}
use Rattle.master_run.proofs.Turning.{on_time}
use Rattle.master_run.proofs.serial_core.perform_rounds.Goals as goal

pub returns-then-not-branch-clause-rest : goal.returns-then-not-branch-clause-rest
returns-then-not-branch-clause-rest c =
    round_ended c.args.script.now (serial_of c.loop.replay) (serial_of c.round.new.self) _ c.in_ok-round.field-0 c.requires.script (on_time c.args.script.now c.loop.replay c.loop.invariant.sound)
    c.in_ok-round.ensures.round c.if-not-branch.true c.loop.invariant.rests

pub loop-smaller : goal.loop-smaller
loop-smaller c =
    round_smaller c.args.script.now (serial_of c.loop.replay) (serial_of c.round.new.self) c.in_ok-round.field-0 c.requires.script (on_time c.args.script.now c.loop.replay c.loop.invariant.sound)
    c.in_ok-round.ensures.round c.if-not-branch.false

pub loop-preserved : goal.loop-preserved
loop-preserved c = record {
  rests = round_on c.args.script.now (serial_of c.loop.replay) (serial_of c.round.new.self) _ c.in_ok-round.field-0 c.requires.script (on_time c.args.script.now c.loop.replay c.loop.invariant.sound)
      c.in_ok-round.ensures.round c.if-not-branch.false c.loop.invariant.rests;
  sound = c.in_ok-round.ensures.sound;
  acks = c.in_ok-round.ensures.acks;
  ends = c.in_ok-round.ensures.ends;
}
