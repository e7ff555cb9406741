-- A node as it applies the commits that it is handed: one commit at a time, by phases, of which each tells the version
-- that was applied as it ran (Elasticsearch's `ClusterApplierService`). A scripted fault comes before the first phase,
-- and leaves the applied state and the views as they are; it is this project's own.
use Rattle.std.specs.Prelude.{◌+◌, ◌==◌, ℕ, Bool, true, false, List, [], ◌∷◌, ◌++◌, map}
use Rattle.std.specs.List.{list_any}
use Rattle.meta_state.specs.declared.cluster_state.ClusterState.{ClusterState}
use Rattle.session_law.specs.declared.node_records.Apply.{Apply}
use Rattle.session_law.specs.declared.node_records.NodeRec.{NodeRec}
use Rattle.session_law.specs.NodeRecords.{Commit, apply_of, failed_apply}
use Rattle.session_law.specs.Views.{views_of}
use Rattle.node_apply.specs.declared.outcomes.ApplyOutcome.{ApplyOutcome}
use Rattle.node_apply.specs.declared.outcomes.ApplyOutcome.TheVariants as outcome

-- a node: its name, the numbers of the publications whose apply fails, the version of its first state, the state that it
-- has applied and this one's place among those that it had, the commits that wait, the state of the last commit that it
-- took, and a line for each commit that it took
pub record Node : Type 0 where
  pub name : List ℕ
  pub failing : List ℕ
  pub first : ℕ
  pub state : ClusterState
  pub place : ℕ
  pub waiting : List Commit
  pub head : ClusterState
  pub applies : List Apply

-- a node that has its first state, and was handed nothing
abbrev pub new_node : List ℕ → List ℕ → ClusterState → Node
new_node name failing first = record {
  name = name;
  failing = failing;
  first = first.version;
  state = first;
  place = 0;
  waiting = [];
  head = first;
  applies = [];
}

-- the state of the last commit that the node was passed
abbrev pub last_waiting : ClusterState → List Commit → ClusterState
last_waiting head [] = head
last_waiting head (commit ∷ commits) = last_waiting commit.state commits

abbrev pub last_of_node : Node → ClusterState
last_of_node node = last_waiting node.head node.waiting

-- a node that was passed more commits
abbrev pub passed_on : List Commit → Node → Node
passed_on commits node = record node { waiting = node.waiting ++ commits }

-- a commit that the node's script lets fail
abbrev pub failed_on : Node → Commit → List Commit → Node
failed_on node commit rest = record node {
  waiting = rest;
  head = commit.state;
  applies = node.applies ++ failed_apply node.state commit.state ∷ [];
}

abbrev pub applied_on : Node → Commit → List Commit → Node
applied_on node commit rest = record node {
  state = commit.state;
  place = node.place + 1;
  waiting = rest;
  head = commit.state;
  applies = node.applies ++ apply_of node.state commit.state ∷ [];
}

-- what the apply of the first of some commits comes to, and the node after it, by whether it fails: nothing exactly where
-- nothing waits
abbrev pub next_of : Bool → Node → List Commit → ApplyOutcome × Node
next_of fails node [] = (outcome.None, node)
next_of true node (commit ∷ rest) = (outcome.FailedByScript commit.state.version, failed_on node commit rest)
next_of false node (commit ∷ rest) = (outcome.Applied commit.state.version, applied_on node commit rest)

-- whether the script lets the apply of the first of some commits fail
abbrev pub fails_first : List ℕ → List Commit → Bool
fails_first failing [] = false
fails_first failing (commit ∷ rest) = list_any (λ number. number == commit.publication) failing

abbrev pub fails_next : Node → Bool
fails_next node = fails_first node.failing node.waiting

abbrev pub after_next : Node → ApplyOutcome × Node
after_next node = next_of (fails_next node) node node.waiting

-- the versions that a node was handed: those that it took and those that wait
abbrev pub handed_versions : Node → List ℕ
handed_versions node = map (λ a. a.to) node.applies ++ map (λ c. c.state.version) node.waiting

-- its record
abbrev pub record_of : Node → NodeRec
record_of node = record {
  node = node.name;
  handed = handed_versions node;
  first = node.first;
  applies = node.applies;
  view = views_of node.state;
}
