use Rattle.std.proofs.Common.{◌+◌, ◌<◌, ◌≤◌, ℕ, List, ap, length, subst}
use Rattle.scripts.specs.declared.steps.Step.{Step}
use Rattle.master_run.specs.Replays.{serial_of}
use Rattle.master_run.proofs.EndsKept.{round_if, round_led_to}
use Rattle.master_run.proofs.NodeRounds.{acted_before, acted_now, clients_led}
use Rattle.master_run.proofs.replays.Replay.round.Goals as goal
use Rattle.master_run.proofs.replays.Replay.round.Goals.{else-branch, else-branch-2, then-branch, then-branch-2}

pub returns-clause-round : goal.returns-clause-round
returns-clause-round c =
    round_if c.nodes_round.result c.args.script.now c.if-branch-2.acted (serial_of c.args.self.now) (serial_of c.master_turn.new.self) (serial_of c.nodes_round.new.self)
    (round_led_to c.args.script.now (serial_of c.args.self.now) (serial_of c.loop-steps.self) (serial_of c.master_turn.new.self) c.loop-steps._steps-index c.loop-steps.client c.loop-steps.acted
    c.in_ok-master_turn.field-0 c.if-branch-2.acted (subst (λ (l : List (List Step)). length l ≤ c.loop-steps._steps-index) c.as_slice-steps-items.ensures c.loop-steps-test.false) c.loop-steps.invariant.leads
    c.in_ok-master_turn.ensures.turn
    (elim c.if-branch-2.branch [
      | then-branch-2 w ↦ acted_now c.loop-steps.acted c.in_ok-master_turn.field-0 c.if-branch-2.acted w.if-branch-2.true w.acted-is
      | else-branch-2 w ↦ acted_before c.loop-steps.acted c.in_ok-master_turn.field-0 c.if-branch-2.acted w.if-branch-2.false w.acted-is
    ]))
    c.nodes_round.ensures.round

pub loop-steps-preserved : goal.loop-steps-preserved
loop-steps-preserved c = record {
  place = ap (λ (n : ℕ). n + 1) c.loop-steps.invariant.place;
  leads =
      clients_led c.args.script.now c.loop-steps._steps-index c.loop-steps.client c.loop-steps.acted c.in_ok-client_turn.field-0 c.if-branch.acted (serial_of c.loop-steps.self) (serial_of c.client_turn.new.self) _
      c.loop-steps.invariant.place (subst (λ (l : List (List Step)). c.loop-steps._steps-index < length l) c.as_slice-steps-items.ensures c.loop-steps-test.true) c.loop-steps.invariant.leads c.in_ok-client_turn.ensures.turn
      (elim c.if-branch.branch [
        | then-branch w ↦ acted_now c.loop-steps.acted c.in_ok-client_turn.field-0 c.if-branch.acted w.if-branch.true w.acted-is
        | else-branch w ↦ acted_before c.loop-steps.acted c.in_ok-client_turn.field-0 c.if-branch.acted w.if-branch.false w.acted-is
      ]);
  sound = c.in_ok-client_turn.ensures.sound;
  acks = c.in_ok-client_turn.ensures.acks;
  ends = c.in_ok-client_turn.ensures.ends c.args.links.now c.loop-steps.invariant.ends;
}
