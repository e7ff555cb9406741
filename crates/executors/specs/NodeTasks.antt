-- What the tasks of nodes do to a state, after Elasticsearch's `NodeJoinExecutor` and `NodeLeftExecutor`, and the
-- election of the master anew, which raises the term as Elasticsearch's coordination does. What refuses them, the order
-- of the checks, and that a task of joining carries the node's flag are this project's own.
use Rattle.std.specs.Prelude.{ℕ, ◌+◌, Bool, not, List, Some, None, Option, is_some, bytes_eq, if◌then◌else◌}
use Rattle.plain_data.specs.Pairs.{lookup, with, without}
use Rattle.meta_state.specs.declared.node_info.NodeInfo.{NodeInfo}
use Rattle.meta_state.specs.declared.cluster_state.ClusterState.{ClusterState}
use Rattle.executors.specs.declared.refusals.TaskRefusal.{TaskRefusal}
use Rattle.executors.specs.declared.refusals.TaskRefusal.TheVariants.{NodeKnown, NodeUnknown, MasterMayNotLeave}

abbrev pub has_node : ClusterState → List ℕ → Bool
has_node state name = is_some (lookup name state.nodes)

abbrev pub join_refusal : ClusterState → NodeInfo → Option TaskRefusal
join_refusal state node = if has_node state node.name then Some NodeKnown else None

-- the state with a node under its name, and with the flag that its task carries
abbrev pub joined_in : ClusterState → NodeInfo → ClusterState
joined_in state node = record state { nodes = with node.name node state.nodes }

-- why a node may not leave, by the first check that fails
abbrev pub leave_refusal : ClusterState → List ℕ → Option TaskRefusal
leave_refusal state name =
    if not (has_node state name) then Some NodeUnknown else
    (if bytes_eq name state.master then Some MasterMayNotLeave else None)

abbrev pub left_in : ClusterState → List ℕ → ClusterState
left_in state name = record state { nodes = without name state.nodes }

-- the state after an election of its master anew
abbrev pub reelected_in : ClusterState → ClusterState
reelected_in state = record state { term = state.term + 1 }
