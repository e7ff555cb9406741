use Rattle.master_run.proofs.Closing as law
use Rattle.master_run.proofs.laws.rest_is_lawful.Goals as goal

pub returns : goal.returns
returns c = law.rest_is_lawful
