use Rattle.std.proofs.Common.{◌≡◌, drop}
use Rattle.master_run.specs.AckBooks.{CanCount, counted_all, counted_each}
use Rattle.master_run.proofs.acknowledgements.Acknowledgements.count_all.Given as goal

abbrev pub invariant-loop-entry : goal.invariant-loop-entry
invariant-loop-entry l = record {
  leads : counted_each l.script l.state l.times (drop l.entry-index l.entries) l.left l.self ≡ counted_all l.script l.state l.times l.entries l.ends l.fn.self;
  can : CanCount l.script l.state l.times (drop l.entry-index l.entries) l.left l.self;
}
