use Rattle.std.proofs.Common.{◌∙◌}
use Rattle.master_run.specs.Replays.{serial_of}
use Rattle.master_run.proofs.EndsKept.{begins_with_ends}
use Rattle.master_run.proofs.Finishing.{comes_to_rest, is_serial, replayed_if}
use Rattle.master_run.proofs.Taken.{faults_built}
use Rattle.master_run.proofs.serial_core.SerialCore.run.Goals as goal

pub follow-requires-clause-ends : goal.follow-requires-clause-ends
follow-requires-clause-ends c =
    begins_with_ends c.args.script.now c.in_ok-replay.replay _ c.requires.built c.in_ok-replay.ensures.first c.in_ok-replay.ensures.sound (c.deref_mut.ensures.value ∙ c.in_ok-replay.ensures.links)

pub finish-requires-clause-faults : goal.finish-requires-clause-faults
finish-requires-clause-faults c = faults_built c.args.script.now c.requires.built

pub returns-clause-replayed : goal.returns-clause-replayed
returns-clause-replayed c =
    replayed_if c.finish.result c.args.script.now (serial_of c.in_ok-replay.replay) (serial_of c.follow.new.self) (serial_of c.perform_rounds.new.replay) c.in_ok-replay.ensures.first
    c.in_ok-follow.ensures.turns c.in_ok-perform_rounds.ensures.rest c.finish.ensures

pub returns-in_err-replay-clause-lawful : goal.returns-in_err-replay-clause-lawful
returns-in_err-replay-clause-lawful c = is_serial c.args.script.now c.requires.script c.requires.built

pub returns-in_err-replay-clause-rested : goal.returns-in_err-replay-clause-rested
returns-in_err-replay-clause-rested c = comes_to_rest c.args.script.now c.requires.script c.requires.built

pub returns-in_err-follow-clause-lawful : goal.returns-in_err-follow-clause-lawful
returns-in_err-follow-clause-lawful c = is_serial c.args.script.now c.requires.script c.requires.built

pub returns-in_err-follow-clause-rested : goal.returns-in_err-follow-clause-rested
returns-in_err-follow-clause-rested c = comes_to_rest c.args.script.now c.requires.script c.requires.built

pub returns-in_err-perform_rounds-clause-lawful : goal.returns-in_err-perform_rounds-clause-lawful
returns-in_err-perform_rounds-clause-lawful c = is_serial c.args.script.now c.requires.script c.requires.built

pub returns-in_err-perform_rounds-clause-rested : goal.returns-in_err-perform_rounds-clause-rested
returns-in_err-perform_rounds-clause-rested c = comes_to_rest c.args.script.now c.requires.script c.requires.built

pub returns-clause-lawful : goal.returns-clause-lawful
returns-clause-lawful c = is_serial c.args.script.now c.requires.script c.requires.built

pub returns-clause-rested : goal.returns-clause-rested
returns-clause-rested c = comes_to_rest c.args.script.now c.requires.script c.requires.built
