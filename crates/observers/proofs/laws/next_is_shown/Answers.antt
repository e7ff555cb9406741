use Rattle.observers.proofs.RegistryStates as law
use Rattle.observers.proofs.laws.next_is_shown.Goals as goal

pub returns : goal.returns
returns c = law.next_is_shown
