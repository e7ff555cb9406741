use Rattle.std.proofs.Common.{◌≡◌, ◌≤◌, ◌+◌, drop, length, slice_get, vec_capacity, vec_len}
use Rattle.std.specs.List.{AllByRecursion}
use Rattle.observers.specs.Registries.{AreRising, board_of, IsNextAt, IsWordOf, shown_each}
use Rattle.observers.proofs.plain_registries.show_each.Given as goal

abbrev pub invariant-loop-number : goal.invariant-loop-number
invariant-loop-number l = record {
  board : shown_each l.node l.state (drop l.number-index l.numbers) (board_of l.watchings l.kept.items l.watches) ≡ shown_each l.node l.state l.numbers (board_of l.fn.watchings l.fn.kept.items l.fn.watches);
  next : AllByRecursion (λ number. IsNextAt l.place (slice_get l.watchings number)) (drop l.number-index l.numbers);
  words : AllByRecursion (λ number. IsWordOf l.watches (slice_get l.watchings number)) (drop l.number-index l.numbers);
  rising : AreRising 0 (length l.fn.watchings) (drop l.number-index l.numbers);
  few : vec_len l.kept ≤ vec_len l.fn.kept + l.number-index;
  capacity : vec_capacity l.kept ≡ vec_capacity l.fn.kept;
}
