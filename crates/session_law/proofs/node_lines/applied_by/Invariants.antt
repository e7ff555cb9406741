use Rattle.std.proofs.Common.{◌≡◌, ◌++◌, drop}
use Rattle.session_law.specs.NodeLines.{applied_to, applied_versions}
use Rattle.session_law.proofs.node_lines.applied_by.Given as goal

-- the versions so far and those that are left are all
abbrev pub invariant-loop-apply : goal.invariant-loop-apply
invariant-loop-apply l = l.made.items ++ applied_to (drop l.apply-index l.node.applies) ≡ applied_versions l.node
