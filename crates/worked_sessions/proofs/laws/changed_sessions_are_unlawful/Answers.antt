use Rattle.worked_sessions.proofs.WorkedRules as law
use Rattle.worked_sessions.proofs.laws.changed_sessions_are_unlawful.Goals as goal

pub returns : goal.returns
returns c = law.changed_sessions_are_unlawful
