use Rattle.std.proofs.Common.{◌≡◌, ◌+◌, ◌++◌, ◌≤◌, length, vec_capacity}
use Rattle.master_intake.specs.Intakes.{ids_of}
use Rattle.master_intake.proofs.wait_lists.ids_in.Given as goal

abbrev pub invariant-loop-waiting : goal.invariant-loop-waiting
invariant-loop-waiting l = record {
  told : l.ids.items ++ ids_of l.waiting-iterator.rest.items ≡ ids_of l.fn.all.items;
  fits : length l.ids.items + length l.waiting-iterator.rest.items ≤ vec_capacity l.ids;
}
