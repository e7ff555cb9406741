use Rattle.session_law.proofs.History as law
use Rattle.session_law.proofs.laws.others_keep_the_state.Goals as goal

pub returns : goal.returns
returns c = law.others_keep_the_state
