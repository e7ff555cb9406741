use Rattle.worked_sessions.proofs.MixedRules as law
use Rattle.worked_sessions.proofs.laws.changed_mixed_sessions_are_unlawful.Goals as goal

pub returns : goal.returns
returns c = law.changed_mixed_sessions_are_unlawful
