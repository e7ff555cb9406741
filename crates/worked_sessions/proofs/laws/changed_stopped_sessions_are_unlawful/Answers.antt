use Rattle.worked_sessions.proofs.StoppedRules as law
use Rattle.worked_sessions.proofs.laws.changed_stopped_sessions_are_unlawful.Goals as goal

pub returns : goal.returns
returns c = law.changed_stopped_sessions_are_unlawful
