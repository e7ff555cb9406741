use Rattle.master_run.proofs.AckBooking.{opened_below, pruned_book}
use Rattle.master_run.proofs.acknowledgements.Acknowledgements.prune.Goals as goal

pub open_of-requires : goal.open_of-requires
open_of-requires c = opened_below _ c.as_slice.result.now c.self.invariant c.as_slice.ensures.value

pub invariant_of-self : goal.invariant_of-self
invariant_of-self c = pruned_book _ _ c.as_slice.result.now c.in_ok-self-inside.field-0.items c.self.invariant c.as_slice.ensures.value c.in_ok-self-inside.ensures
