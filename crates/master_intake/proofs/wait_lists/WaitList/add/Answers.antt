use Rattle.std.proofs.Common.{arith}
use Rattle.std.proofs.lemmas.Grind.{common_steps}
use Rattle.master_intake.proofs.Keeping.{IsKept-append}
use Rattle.master_intake.proofs.wait_lists.WaitList.add.Goals as goal

pub invariant_of-self-2 : goal.invariant_of-self-2
invariant_of-self-2 c =
    IsKept-append c.self.inside.priorities c.self.inside.waiting.items _ c.self.inside.turns.items _ c.self.inside.room.items _ _ _ (record { queue = c.args.queue; entry = c.args.entry }) c.self.invariant
    (grind (arith, common_steps))
    (grind (arith, common_steps))
    c.in_ok-note.ensures.ok
    c.try_reserve-2.ensures.items
    (grind (arith, common_steps))
