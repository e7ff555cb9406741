use Rattle.std.proofs.Common.{◌≡◌, ◌++◌, drop, string_bytes}
use Rattle.session_law.specs.NodeLines.{node_lines}
use Rattle.session_law.proofs.node_lines.write_nodes.Given as goal

-- what is written and what is left are the whole
abbrev pub invariant-loop-node : goal.invariant-loop-node
invariant-loop-node l =
    string_bytes l.out ++ node_lines (drop l.node-index l.nodes) ≡ string_bytes l.fn.out ++ node_lines l.nodes
