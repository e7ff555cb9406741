use Rattle.worked_sessions.proofs.TroubledRules as law
use Rattle.worked_sessions.proofs.laws.troubled_session_is_lawful.Goals as goal

pub returns : goal.returns
returns c = law.troubled_session_is_lawful
