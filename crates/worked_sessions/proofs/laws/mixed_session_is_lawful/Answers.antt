use Rattle.worked_sessions.proofs.MixedRules as law
use Rattle.worked_sessions.proofs.laws.mixed_session_is_lawful.Goals as goal

pub returns : goal.returns
returns c = law.mixed_session_is_lawful
