use Rattle.worked_sessions.proofs.StoppedRules as law
use Rattle.worked_sessions.proofs.laws.stopped_session_is_lawful.Goals as goal

pub returns : goal.returns
returns c = law.stopped_session_is_lawful
