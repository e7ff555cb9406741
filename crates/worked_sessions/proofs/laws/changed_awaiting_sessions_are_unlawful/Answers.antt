use Rattle.worked_sessions.proofs.AwaitingRules as law
use Rattle.worked_sessions.proofs.laws.changed_awaiting_sessions_are_unlawful.Goals as goal

pub returns : goal.returns
returns c = law.changed_awaiting_sessions_are_unlawful
