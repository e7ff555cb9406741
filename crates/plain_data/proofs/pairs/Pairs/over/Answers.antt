use Rattle.plain_data.proofs.Walks.{first_none}
use Rattle.plain_data.proofs.pairs.Pairs.over.Goals as goal

pub invariant_of-result : goal.invariant_of-result
invariant_of-result g c = first_none _ _ c.new.ensures
