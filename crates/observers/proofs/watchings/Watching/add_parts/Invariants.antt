use Rattle.std.proofs.Common.{◌≡◌, ◌+◌, ◌++◌, drop, vec_capacity, vec_len}
use Rattle.observers.proofs.watchings.Watching.add_parts.Given as goal

abbrev pub invariant-loop-part : goal.invariant-loop-part
invariant-loop-part l = record {
  added : l.parts.items ++ drop l.part-index l.part-items ≡ l.fn.parts.items ++ l.part-items;
  count : vec_len l.parts ≡ vec_len l.fn.parts + l.part-index;
  capacity : vec_capacity l.parts ≡ vec_capacity l.fn.parts;
}
