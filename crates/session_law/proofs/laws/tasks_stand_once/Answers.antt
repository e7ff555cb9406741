use Rattle.session_law.proofs.History as law
use Rattle.session_law.proofs.laws.tasks_stand_once.Goals as goal

pub returns : goal.returns
returns c = law.tasks_stand_once
