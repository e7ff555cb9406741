use Rattle.std.proofs.Common.{◌≡◌, ◌++◌}
use Rattle.std.specs.VecDeque.Iter.{deque_iter_rest}
use Rattle.node_apply.specs.Commits.{versions_of}
use Rattle.node_apply.proofs.commits.list_versions.Given as goal

abbrev pub invariant-loop-commit : goal.invariant-loop-commit
invariant-loop-commit l = l.made.items ++ versions_of (deque_iter_rest l.commit-iterator) ≡ versions_of l.fn.commits.items
