use Rattle.master_run.proofs.Turning as law
use Rattle.master_run.proofs.laws.events_keep_lawful.Goals as goal

pub returns : goal.returns
returns c = law.events_keep_lawful
