use Rattle.master_run.proofs.AckBooking.{raised_below, settled_book}
use Rattle.master_run.proofs.acknowledgements.Acknowledgements.settle.Goals as goal

pub answer_each-requires-clause-numbers : goal.answer_each-requires-clause-numbers
answer_each-requires-clause-numbers c =
    raised_below _ c.args.node c.args.version c.raise_applied.new.self c.as_slice.result.now c.self.invariant c.raise_applied.ensures c.as_slice.ensures.value

pub invariant_of-self : goal.invariant_of-self
invariant_of-self c =
    settled_book _ c.args.node c.args.version c.raise_applied.new.self c.answer_each.new.words c.as_slice.result.now c.self.invariant c.raise_applied.ensures c.answer_each.ensures
