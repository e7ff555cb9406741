use Rattle.std.proofs.Common.{◌≡◌, ◌+◌, drop, map}
use Rattle.observers.specs.Words.{closed_word, waiting_count}
use Rattle.observers.proofs.Passes.{mapped_to}
use Rattle.observers.proofs.plain_watches.PlainWatches.close_all.Given as goal

abbrev pub invariant-loop-row : goal.invariant-loop-row
invariant-loop-row l = record {
  closed : l.row-items ≡ mapped_to l.row-index (map closed_word) l.fn.self;
  counted : l.count + waiting_count (drop l.row-index l.fn.self) ≡ waiting_count l.fn.self;
}
