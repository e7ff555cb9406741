use Rattle.std.proofs.Common.{◌∙◌, ap}
use Rattle.master_run.specs.AckBooks.{timed_all}
use Rattle.master_run.proofs.AckBooking.{opened_below, readings_below, timed_book, timed_is}
use Rattle.master_run.proofs.acknowledgements.Acknowledgements.expire_all.Goals as goal

pub expire_each-requires-clause-words : goal.expire_each-requires-clause-words
expire_each-requires-clause-words c = opened_below _ c.as_slice.result.now c.self.invariant c.as_slice.ensures.value

pub expire_each-requires-clause-readings : goal.expire_each-requires-clause-readings
expire_each-requires-clause-readings c = readings_below _ c.as_slice.result.now c.self.invariant c.as_slice.ensures.value

pub invariant_of-self : goal.invariant_of-self
invariant_of-self c =
    timed_book _ c.args.reading c.as_slice.result.now c.expire_each.new.words c.expire_each.new.readings c.self.invariant c.expire_each.ensures

pub returns-clause-timed : goal.returns-clause-timed
returns-clause-timed c =
    timed_is _ c.args.reading c.as_slice.result.now c.expire_each.new.words c.expire_each.new.readings c.as_slice.ensures.value c.expire_each.ensures
    ∙ ap (timed_all c.args.reading) c.self.view_is
