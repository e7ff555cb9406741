use Rattle.std.proofs.Common.{◌≡◌, ◌+◌, ◌++◌, drop, string_bytes}
use Rattle.session_law.specs.Lines.{batch_lines}
use Rattle.session_law.proofs.lines.write_batches.Given as goal

-- what is written and what is left are the whole
abbrev pub invariant-loop-batch : goal.invariant-loop-batch
invariant-loop-batch l = record {
  number : l.number ≡ l.batch-index + 1;
  text : string_bytes l.out ++ batch_lines l.number (drop l.batch-index l.batches) ≡ string_bytes l.fn.out ++ batch_lines 1 l.batches;
}
