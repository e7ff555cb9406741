use Rattle.observers.proofs.AnswersTold as law
use Rattle.observers.proofs.laws.next_agrees.Goals as goal

pub returns : goal.returns
returns c = law.next_agrees
