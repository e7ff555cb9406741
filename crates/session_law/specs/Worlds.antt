-- The world: what the master and its nodes have between two batches. The first state of a node that is no member is
-- the zero state. The model is this project's own.
use Rattle.std.specs.Prelude.{true, List, [], ◌∷◌, map, if◌then◌else◌}
use Rattle.meta_state.specs.declared.node_info.NodeInfo.{NodeInfo}
use Rattle.meta_state.specs.declared.cluster_state.ClusterState.{ClusterState}
use Rattle.meta_state.specs.States.{first_state, zero_state}
use Rattle.scripts.specs.declared.whole_script.Script.{Script}
use Rattle.scripts.specs.declared.whole_script.ScriptNode.{ScriptNode}
use Rattle.session_law.specs.declared.worlds.NodeWorld.{NodeWorld}
use Rattle.session_law.specs.declared.worlds.World.{World}

abbrev pub node_info_of : ScriptNode → NodeInfo
node_info_of node = record { name = node.name; eligible = node.eligible }

-- the nodes of the first state, in the script's order
abbrev pub members_of : List ScriptNode → List NodeInfo
members_of [] = []
members_of (node ∷ nodes) = if node.member then node_info_of node ∷ members_of nodes else members_of nodes

-- the state in which a script begins
abbrev pub first_state_of : Script → ClusterState
first_state_of script = first_state script.cluster (members_of script.nodes)

-- what a node begins with
abbrev pub first_node : ClusterState → ClusterState → ScriptNode → NodeWorld
first_node first zero node = record { accepted = if node.member then first else zero; sent = 0 }

unfoldable pub first_world : Script → World
first_world script = record {
  state = first_state_of script;
  proposals = 0;
  in_office = true;
  nodes = map (first_node (first_state_of script) (zero_state script.cluster)) script.nodes;
}
