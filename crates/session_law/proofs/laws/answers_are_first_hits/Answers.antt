use Rattle.session_law.proofs.Showing as law
use Rattle.session_law.proofs.laws.answers_are_first_hits.Goals as goal

pub returns : goal.returns
returns c = law.answers_are_first_hits
