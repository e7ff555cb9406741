use Rattle.std.proofs.Common.{◌≡◌, ◌++◌, map}
use Rattle.std.specs.Vec.Iter.{into_iter_items, into_iter_len}
use Rattle.node_apply.specs.Applying.{record_of}
use Rattle.master_run.proofs.applier_lists.finish_all.Given as goal

abbrev pub invariant-loop-node : goal.invariant-loop-node
invariant-loop-node l = l.made ++ map record_of (into_iter_items l.left) ≡ map record_of l.fn.nodes.items

abbrev pub decreases-loop-node : goal.decreases-loop-node
decreases-loop-node l = into_iter_len l.left
