use Rattle.session_law.proofs.History as law
use Rattle.session_law.proofs.laws.versions_are_in_order.Goals as goal

pub returns : goal.returns
returns c = law.versions_are_in_order
