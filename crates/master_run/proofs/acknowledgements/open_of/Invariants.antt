use Rattle.std.proofs.Common.{◌≡◌, ◌++◌, drop, filter, length}
use Rattle.ack_words.specs.Acks.{word_at, word_poll}
use Rattle.master_run.specs.AckBooks.{AreBelow, is_not_yet}
use Rattle.master_run.proofs.acknowledgements.open_of.Given as goal

abbrev pub invariant-loop-number : goal.invariant-loop-number
invariant-loop-number l = record {
  leads : l.made.items ++ filter (λ n. is_not_yet (word_poll (word_at l.words n))) (drop l.number-index l.numbers) ≡ filter (λ n. is_not_yet (word_poll (word_at l.words n))) l.numbers;
  below : AreBelow (length l.words.words) (drop l.number-index l.numbers);
}
