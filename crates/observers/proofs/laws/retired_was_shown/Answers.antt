use Rattle.observers.proofs.RegistryStates as law
use Rattle.observers.proofs.laws.retired_was_shown.Goals as goal

pub returns : goal.returns
returns c = law.retired_was_shown
