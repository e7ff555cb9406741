use Rattle.std.proofs.Common.{◌∙◌, ap, refl}
use Rattle.master_run.proofs.AckCells.{have_ack_lanes}
use Rattle.master_run.proofs.AckReplies.{told_replies}
use Rattle.master_run.proofs.Asking.{have_lanes}
use Rattle.master_run.specs.AckTellings.{ack_replies_by}
use Rattle.master_run.specs.Replays.{course_of}
use Rattle.master_run.proofs.NodeTurns.{records_are}
use Rattle.master_run.proofs.replays.Replay.finish.Goals as goal

pub collect-requires : goal.collect-requires
collect-requires c = have_lanes c.args.script.now c.args.self c.requires.script c.requires.sound

pub collect_acks-requires : goal.collect_acks-requires
collect_acks-requires c = have_ack_lanes c.args.script.now c.args.self.tasks c.args.self.acks c.args.self.ats c.requires.acks.lanes (have_lanes c.args.script.now c.args.self c.requires.script c.requires.sound)

pub returns : goal.returns
returns c = λ i. record {
  batches = c.finish-batches.ensures.batches i;
  replies = c.in_ok-replies.ensures i;
  acks = (c.in_ok-acks.ensures ∙ ap (ack_replies_by c.args.script.now c.args.self.tasks c.args.self.acks) c.finish-batches.ensures.batches ∙ told_replies c.args.script.now (course_of c.args.self) c.args.self.acks c.requires.sound.lawful c.requires.acks c.requires.faults refl) i;
  watches = c.new.ensures i;
  reads = c.new-2.ensures i;
  nodes = (c.in_ok-nodes.ensures ∙ records_are c.args.script.now c.args.self.nodes.items c.requires.sound.nodes) i;
  last = c.finish-batches.ensures.last i;
}
