use Rattle.std.proofs.Common.{◌≡◌, drop, length}
use Rattle.master_run.specs.AckBooks.{AreBelow, loose_book, timed_each}
use Rattle.master_run.proofs.acknowledgements.expire_each.Given as goal

abbrev pub invariant-loop-number : goal.invariant-loop-number
invariant-loop-number l = record {
  leads : timed_each l.reading (drop l.number-index l.numbers) (loose_book l.words l.readings) ≡ timed_each l.reading l.numbers (loose_book l.fn.words l.fn.readings);
  words : AreBelow (length l.words.words) (drop l.number-index l.numbers);
  readings : AreBelow (length l.readings) (drop l.number-index l.numbers);
}
