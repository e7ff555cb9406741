use Rattle.std.proofs.Common.{◌≡◌, ◌+◌, count_by, drop}
use Rattle.observers.specs.Words.{closed_word, is_waiting}
use Rattle.observers.proofs.Passes.{mapped_to}
use Rattle.observers.proofs.plain_watches.close_row.Given as goal

abbrev pub invariant-loop-step : goal.invariant-loop-step
invariant-loop-step l = record {
  closed : l.row ≡ mapped_to l.step closed_word l.fn.row;
  counted : l.count + count_by is_waiting (drop l.step l.fn.row) ≡ count_by is_waiting l.fn.row;
}
