use Rattle.std.proofs.Common.{◌≡◌, ◌++◌, drop, map}
use Rattle.session_law.specs.Worlds.{first_node}
use Rattle.master_run.proofs.first_worlds.open_nodes.Given as goal

abbrev pub invariant-loop-node : goal.invariant-loop-node
invariant-loop-node l = l.made ++ map (first_node l.first l.zero) (drop l.node-index l.nodes) ≡ map (first_node l.first l.zero) l.nodes
