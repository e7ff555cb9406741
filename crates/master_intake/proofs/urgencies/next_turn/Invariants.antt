use Rattle.std.proofs.Common.{◌≡◌, drop}
use Rattle.master_intake.specs.Turns.{soonest_turn}
use Rattle.master_intake.proofs.urgencies.next_turn.Given as goal

abbrev pub invariant-loop-next : goal.invariant-loop-next
invariant-loop-next l = soonest_turn l.priorities l.soonest (drop l.next-index l.more) ≡ soonest_turn l.priorities l.initial.soonest l.more
