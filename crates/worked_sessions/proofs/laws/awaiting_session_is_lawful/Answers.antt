use Rattle.worked_sessions.proofs.AwaitingRules as law
use Rattle.worked_sessions.proofs.laws.awaiting_session_is_lawful.Goals as goal

pub returns : goal.returns
returns c = law.awaiting_session_is_lawful
