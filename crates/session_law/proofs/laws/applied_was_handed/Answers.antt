use Rattle.session_law.proofs.Showing as law
use Rattle.session_law.proofs.laws.applied_was_handed.Goals as goal

pub returns : goal.returns
returns c = law.applied_was_handed
