use Rattle.std.proofs.Common.{◌∙◌}
use Rattle.std.specs.Vec.{with_items}
use Rattle.std.proofs.lemmas.List.{with_items_is}
use Rattle.master_run.proofs.NodeRounds.{turn_at_ends_if, turn_at_if, turn_at_sound_if}
use Rattle.master_run.proofs.replays.Replay.apply_at.Goals as goal

pub returns-clause-turn : goal.returns-clause-turn
returns-clause-turn c =
    turn_at_if c.apply_at.result c.args.script.now c.args.number c.args.self.now (with_items c.args.self.now.nodes c.apply_at.new.nodes) c.deref_mut.result.now c.apply_at.new.nodes c.requires.sound c.requires.faults c.deref_mut.ensures.value
    (with_items_is c.args.self.now.nodes c.apply_at.new.nodes (c.apply_at.auto.nodes ∙ c.deref_mut.ensures.len)) c.apply_at.ensures

pub returns-clause-sound : goal.returns-clause-sound
returns-clause-sound c =
    turn_at_sound_if c.apply_at.result c.args.script.now c.args.number c.args.self.now (with_items c.args.self.now.nodes c.apply_at.new.nodes) c.deref_mut.result.now c.apply_at.new.nodes c.requires.script c.requires.sound c.requires.faults
    c.deref_mut.ensures.value (with_items_is c.args.self.now.nodes c.apply_at.new.nodes (c.apply_at.auto.nodes ∙ c.deref_mut.ensures.len)) c.apply_at.ensures

pub returns-clause-ends : goal.returns-clause-ends
returns-clause-ends c =
    turn_at_ends_if c.apply_at.result c.args.script.now c.args.number c.args.self.now (with_items c.args.self.now.nodes c.apply_at.new.nodes) c.deref_mut.result.now c.apply_at.new.nodes c.requires.sound c.requires.faults c.deref_mut.ensures.value
    (with_items_is c.args.self.now.nodes c.apply_at.new.nodes (c.apply_at.auto.nodes ∙ c.deref_mut.ensures.len)) c.apply_at.ensures
