use Rattle.observers.proofs.RegistryStates as law
use Rattle.observers.proofs.laws.registered_is_shown.Goals as goal

pub returns : goal.returns
returns c = law.registered_is_shown
