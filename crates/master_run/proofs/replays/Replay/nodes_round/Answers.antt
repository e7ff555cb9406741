use Rattle.std.proofs.Common.{◌<◌, List, length, subst}
use Rattle.scripts.specs.declared.whole_script.ScriptNode.{ScriptNode}
use Rattle.master_run.specs.Replays.{serial_of}
use Rattle.master_run.proofs.NodeRounds.{acted_before, acted_now, nodes_led}
use Rattle.master_run.proofs.replays.Replay.nodes_round.Goals as goal
use Rattle.master_run.proofs.replays.Replay.nodes_round.Goals.{else-branch, then-branch}

pub loop-number-preserved : goal.loop-number-preserved
loop-number-preserved c = record {
  leads =
      nodes_led c.args.script.now c.loop-number.number c.loop-number.acted c.in_ok-turn_at.field-0 c.if-branch.acted (serial_of c.loop-number.self) (serial_of c.turn_at.new.self) _ c.requires.script
      (subst (λ (l : List ScriptNode). c.loop-number.number < length l) c.as_slice-node-items.ensures c.loop-number-test.true) c.loop-number.invariant.leads c.in_ok-turn_at.ensures.turn
      (elim c.if-branch.branch [
        | then-branch w ↦ acted_now c.loop-number.acted c.in_ok-turn_at.field-0 c.if-branch.acted w.if-branch.true w.acted-is
        | else-branch w ↦ acted_before c.loop-number.acted c.in_ok-turn_at.field-0 c.if-branch.acted w.if-branch.false w.acted-is
      ]);
  sound = c.in_ok-turn_at.ensures.sound;
  acks = c.in_ok-turn_at.ensures.acks;
  ends = λ links ends. c.in_ok-turn_at.ensures.ends links (c.loop-number.invariant.ends links ends);
}
