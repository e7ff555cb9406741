use Rattle.std.proofs.Common.{IfOk, vec_len}
use Rattle.std.specs.Vec.Iter.{into_iter_items, into_iter_len}
use Rattle.executors.proofs.Fold.{IsUnderWay}
use Rattle.executors.proofs.folds.run_all.Given as goal

abbrev pub invariant-loop-context : goal.invariant-loop-context
invariant-loop-context l = IfOk l.ran (IsUnderWay l.fn.initial l.fn.contexts.items (vec_len l.fn.contexts) (into_iter_items l.left) (into_iter_len l.left))

abbrev pub decreases-loop-context : goal.decreases-loop-context
decreases-loop-context l = into_iter_len l.left
