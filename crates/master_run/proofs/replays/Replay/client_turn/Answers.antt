use Rattle.master_run.proofs.EndsKept.{client_ends_if}
use Rattle.master_run.proofs.Turning.{client_sound_if}
use Rattle.master_run.proofs.replays.Replay.client_turn.Goals as goal

pub returns-clause-sound : goal.returns-clause-sound
returns-clause-sound c =
    client_sound_if c.perform_next.result c.args.script.now c.args.client c.args.self.now c.perform_next.new.self c.requires.script c.requires.sound c.perform_next.ensures.turn
    c.perform_next.ensures.priorities c.perform_next.ensures.nodes

pub returns-clause-ends : goal.returns-clause-ends
returns-clause-ends c =
    client_ends_if c.perform_next.result c.args.script.now c.args.client c.args.self.now c.perform_next.new.self c.requires.sound.lawful c.perform_next.ensures.turn c.perform_next.ensures.nodes
