use Rattle.std.proofs.Common.{◌≡◌, ◌++◌}
use Rattle.master_intake.specs.Waitings.{entries_of, left_by, taken_from}
use Rattle.master_intake.proofs.parts.part.Given as goal

abbrev pub invariant-loop-next : goal.invariant-loop-next
invariant-loop-next l = record {
  taken : l.taken ++ entries_of (taken_from l.number l.next-iterator.rest.items) ≡ entries_of (taken_from l.number l.fn.waiting.items);
  left : l.left.items ++ left_by l.number l.next-iterator.rest.items ≡ left_by l.number l.fn.waiting.items;
}
