use Rattle.worked_sessions.proofs.TroubledRules as law
use Rattle.worked_sessions.proofs.laws.changed_troubled_sessions_are_unlawful.Goals as goal

pub returns : goal.returns
returns c = law.changed_troubled_sessions_are_unlawful
