use Rattle.std.proofs.Common.{◌≡◌, ◌+◌, ◌≤◌, ◌++◌, vec_len, vec_capacity}
use Rattle.std.specs.Vec.Iter.{into_iter_items, into_iter_len}
use Rattle.executors.specs.Contexts.{numbered}
use Rattle.executors.proofs.contexts.number.Given as goal

abbrev pub invariant-loop-task : goal.invariant-loop-task
invariant-loop-task l = record {
  all : l.contexts.items ++ numbered l.position (into_iter_items l.left) ≡ numbered 0 l.fn.tasks.items;
  places : l.position + into_iter_len l.left ≡ vec_len l.fn.tasks;
  room : vec_len l.contexts + into_iter_len l.left ≤ vec_capacity l.contexts;
}

abbrev pub decreases-loop-task : goal.decreases-loop-task
decreases-loop-task l = into_iter_len l.left
