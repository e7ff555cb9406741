use Rattle.observers.proofs.AnswersTold as law
use Rattle.observers.proofs.laws.registered_agrees.Goals as goal

pub returns : goal.returns
returns c = law.registered_agrees
