use Rattle.std.proofs.Common.{◌≡◌, [], drop}
use Rattle.meta_state.specs.States.{with_nodes}
use Rattle.meta_state.proofs.cluster_state.nodes_by_name.Given as goal

-- to put in what is left leads where putting in all would
abbrev pub invariant-loop-node : goal.invariant-loop-node
invariant-loop-node l = with_nodes (drop l.node-index l.nodes) l.made ≡ with_nodes l.nodes []
