use Rattle.std.proofs.Common.{◌∙◌, ap, arith, subst, sym}
use Rattle.master_run.specs.declared.replays.Replay.{Replay}
use Rattle.master_run.specs.Replays.{HasCounted, serial_of}
use Rattle.master_run.specs.Serials.{Serial}
use Rattle.master_run.proofs.AckMoving.{counted_serial, counts_can, counts_none, counts_now, ends_counted, sound_counted}
use Rattle.master_run.proofs.Bounds.{batches_few}
use Rattle.master_run.proofs.replays.Replay.master_turn.Goals as goal

pub count-before-requires : goal.count-before-requires
count-before-requires c = batches_few c.args.script.now c.args.self.now.book.batches c.requires.script c.requires.sound.lawful.ordered.kept.serial.order

pub count-requires : goal.count-requires
count-requires c = batches_few c.args.script.now c.serve.new.self.book.batches c.requires.script c.in_ok-acted.ensures.sound.lawful.ordered.kept.serial.order

pub count_acks-requires-clause-can : goal.count_acks-requires-clause-can
count_acks-requires-clause-can c = λ is.
    counts_can c.args.script.now c.args.self.now c.serve.new.self c.in_ok-acted.acted c.requires.script c.requires.sound c.requires.acks c.in_ok-acted.ensures.turn c.in_ok-acted.ensures.acks
    (let before = c.count-before.ensures in let now = c.count.ensures in let less = c.if-before-count.true in omega arith) is

pub returns-in_ok-count_acks-clause-turn : goal.returns-in_ok-count_acks-clause-turn
returns-in_ok-count_acks-clause-turn c =
    c.in_ok-acted.ensures.turn
    ∙ ap (λ (s : Serial). (c.in_ok-acted.acted, s)) (sym (counted_serial c.args.script.now c.serve.new.self) ∙ ap serial_of (sym c.in_ok-count_acks.ensures.counted))

pub returns-in_ok-count_acks-clause-sound : goal.returns-in_ok-count_acks-clause-sound
returns-in_ok-count_acks-clause-sound c =
    sound_counted c.args.script.now c.serve.new.self c.count_acks.new.self (ap serial_of c.in_ok-count_acks.ensures.counted ∙ counted_serial c.args.script.now c.serve.new.self)
    (ap (λ (r : Replay). r.waiting) c.in_ok-count_acks.ensures.counted) (ap (λ (r : Replay). r.nodes) c.in_ok-count_acks.ensures.counted) c.in_ok-acted.ensures.sound

pub returns-in_ok-count_acks-clause-acks : goal.returns-in_ok-count_acks-clause-acks
returns-in_ok-count_acks-clause-acks c =
    subst (HasCounted c.args.script.now) (sym c.in_ok-count_acks.ensures.counted)
    (counts_now c.args.script.now c.args.self.now c.serve.new.self c.in_ok-acted.acted c.requires.script c.requires.ends.linked.faults c.requires.sound c.requires.acks c.in_ok-acted.ensures.turn
    c.in_ok-acted.ensures.acks (let before = c.count-before.ensures in let now = c.count.ensures in let less = c.if-before-count.true in omega arith) c.count_acks.ensures.known)

pub returns-in_ok-count_acks-clause-ends : goal.returns-in_ok-count_acks-clause-ends
returns-in_ok-count_acks-clause-ends c =
    ends_counted c.args.script.now c.serve.new.self c.count_acks.new.self _ (ap serial_of c.in_ok-count_acks.ensures.counted ∙ counted_serial c.args.script.now c.serve.new.self)
    (ap (λ (r : Replay). r.nodes) c.in_ok-count_acks.ensures.counted) c.in_ok-acted.ensures.ends

pub returns-else-before-count-clause-acks : goal.returns-else-before-count-clause-acks
returns-else-before-count-clause-acks c =
    counts_none c.args.script.now c.args.self.now c.serve.new.self c.in_ok-acted.acted c.requires.sound c.requires.acks c.in_ok-acted.ensures.turn c.in_ok-acted.ensures.acks
    (λ more. let before = c.count-before.ensures in let now = c.count.ensures in let less = c.if-before-count.false in omega arith)
