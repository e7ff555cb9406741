use Rattle.std.proofs.Common.{◌≡◌, ◌∙◌, Bool, ap, false, subst, sym}
use Rattle.master_run.specs.Replays.{HasCounted, serial_of}
use Rattle.master_run.specs.Serials.{after_turn, turn_at}
use Rattle.master_run.proofs.AckMoving.{answers_now, stays_counted}
use Rattle.master_run.proofs.replays.Replay.turn_at.Goals as goal

pub returns-then-acted-clause-acks : goal.returns-then-acted-clause-acks
returns-then-acted-clause-acks c =
    subst (HasCounted c.args.script.now) (sym c.answer.ensures.answered)
    (answers_now c.args.script.now c.args.self.now c.apply_at.new.self c.args.number c.requires.script c.requires.faults c.requires.sound c.requires.acks
    (c.in_ok-acted.ensures.turn ∙ ap (λ (b : Bool). (b, serial_of c.apply_at.new.self)) c.if-acted.true) c.in_ok-acted.ensures.acks c.answer.ensures.known)
