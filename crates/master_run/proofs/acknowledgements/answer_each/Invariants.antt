use Rattle.std.proofs.Common.{◌≡◌, drop, length}
use Rattle.master_run.specs.AckBooks.{AreBelow, answered_each}
use Rattle.master_run.proofs.acknowledgements.answer_each.Given as goal

abbrev pub invariant-loop-number : goal.invariant-loop-number
invariant-loop-number l = record {
  leads : answered_each l.node l.version (drop l.number-index l.numbers) l.words ≡ answered_each l.node l.version l.numbers l.fn.words;
  applied : l.words.applied ≡ l.fn.words.applied;
  below : AreBelow (length l.words.words) (drop l.number-index l.numbers);
}
