use Rattle.worked_sessions.proofs.WorkedRules as law
use Rattle.worked_sessions.proofs.laws.worked_session_is_lawful.Goals as goal

pub returns : goal.returns
returns c = law.worked_session_is_lawful
