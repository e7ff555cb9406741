use Rattle.std.proofs.Common.{arith}
use Rattle.plain_data.proofs.Walks.{first_before_end, next_given, rest_first}
use Rattle.plain_data.proofs.pairs.PairsIterator.next.Goals as goal

pub invariant_of-self : goal.invariant_of-self
invariant_of-self g c = first_before_end c.self.inside.next c.self.inside.tree.now _ (omega arith) c.in-None.ensures

pub invariant_of-self-in-Some : goal.invariant_of-self-in-Some
invariant_of-self-in-Some g c = rest_first c.self.inside.next c.self.inside.tree.now _ _ (omega arith) c.in-Some.ensures _ c.down.ensures

pub returns-in-Some-clause-steps : goal.returns-in-Some-clause-steps
returns-in-Some-clause-steps g c = next_given c.self.inside.next c.self.inside.tree.now _ _ (omega arith) c.in-Some.ensures _ _ c.self.view_is c.get-pair.ensures
