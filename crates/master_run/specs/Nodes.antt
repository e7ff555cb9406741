-- A node between two events. It applies what it was handed one commit at a time, in that order. An apply that fails leaves
-- the node's state (Elasticsearch's `ClusterApplierService`; what is kept of each apply is this project's own).
use Rattle.std.specs.Prelude.{ℕ, ◌+◌, Bool, true, false, List, [], ◌∷◌, ◌++◌, length, map, Option, Some, None, if◌then◌else◌}
use Rattle.meta_state.specs.declared.cluster_state.ClusterState.{ClusterState}
use Rattle.scripts.specs.declared.whole_script.Script.{Script}
use Rattle.scripts.specs.declared.whole_script.ScriptNode.{ScriptNode}
use Rattle.session_law.specs.declared.node_records.Apply.{Apply}
use Rattle.session_law.specs.Histories.{SteppedBatch}
use Rattle.session_law.specs.NodeRecords.{Commit, apply_of, commit_to, does_fail, failed_apply, first_of, is_handed}

-- the node's name is the script's, by its place
pub record NodeCourse : Type 0 where
  -- the commits that it was handed and hasn't tried to apply yet, in order
  pub left : List Commit
  -- the state that it has
  pub state : ClusterState
  -- how many states it has applied after its first one
  pub place : ℕ
  -- how it applied each commit, in order
  pub applies : List Apply

-- ---- at first

abbrev pub fresh_node : Script → ScriptNode → NodeCourse
fresh_node script node = record { left = []; state = first_of script (Some node); place = 0; applies = [] }

abbrev pub fresh_nodes : Script → List NodeCourse
fresh_nodes script = map (fresh_node script) script.nodes

-- ---- handed

-- what a node is handed of a batch, where there is one
abbrev pub handed_of : Script → List ℕ → Option SteppedBatch → List Commit
handed_of script name None = []
handed_of script name (Some s) = if is_handed script name s then commit_to script name s ∷ [] else []

-- each node is handed that, behind what it has left
abbrev pub handed_each : Script → Option SteppedBatch → List ScriptNode → List NodeCourse → List NodeCourse
handed_each script s [] nodes = nodes
handed_each script s (_ ∷ _) [] = []
handed_each script s (node ∷ more) (has ∷ others) =
    record has { left = has.left ++ handed_of script node.name s } ∷ handed_each script s more others

-- ---- applied

-- what an apply that fails or doesn't makes of a node
abbrev pub applied_so : Bool → Commit → NodeCourse → NodeCourse
applied_so true commit node = record node { applies = node.applies ++ failed_apply node.state commit.state ∷ [] }
applied_so false commit node = record node {
  state = commit.state;
  place = node.place + 1;
  applies = node.applies ++ apply_of node.state commit.state ∷ [];
}

-- a node applies a commit
abbrev pub node_taking : Script → List ℕ → Commit → NodeCourse → NodeCourse
node_taking script name commit node = applied_so (does_fail script name commit) commit node

-- it applies the first of what it has left; none where it has nothing left
abbrev pub first_applied : Script → List ℕ → List Commit → NodeCourse → Option NodeCourse
first_applied script name [] node = None
first_applied script name (commit ∷ more) node = Some (record (node_taking script name commit node) { left = more })

-- so does the node of a place, if there is one
abbrev pub applied_node : Script → Option ScriptNode → Option NodeCourse → Option NodeCourse
applied_node script None has = None
applied_node script (Some node) None = None
applied_node script (Some node) (Some has) = first_applied script node.name has.left has

-- ---- how much is left

abbrev pub left_in : List NodeCourse → ℕ
left_in [] = 0
left_in (node ∷ nodes) = length node.left + left_in nodes
