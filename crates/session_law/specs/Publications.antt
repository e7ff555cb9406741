-- A publication of a new state, by filters and counts over the nodes. Those of the new state that can be reached accept
-- it, by a diff or in full (Elasticsearch's `PublicationTransportHandler`). It commits where the master and more than
-- half of the eligible nodes accepted it, and ends there: this rule is the project's own. `cut name k` tells whether
-- the node of this name can't be reached at the k-th publication that is sent to it.
use Rattle.std.specs.Prelude.{ℕ, ◌+◌, Bool, true, false, not, ◌&&◌, ◌==◌, List, [], ◌∷◌, Option, Some, None, filter, is_some, map, bytes_eq, count_by, if◌then◌else◌}
use Rattle.std.specs.List.{list_any, zip}
use Rattle.plain_data.specs.Pairs.{lookup}
use Rattle.meta_state.specs.declared.cluster_state.ClusterState.{ClusterState}
use Rattle.meta_state.specs.Voters.{is_eligible, is_majority}
use Rattle.scripts.specs.declared.faults.Fault.{Fault}
use Rattle.scripts.specs.declared.faults.FaultKind.{FaultKind}
use Rattle.scripts.specs.declared.faults.FaultKind.TheVariants.{Unreachable}
use Rattle.scripts.specs.declared.whole_script.ScriptNode.{ScriptNode}
use Rattle.session_law.specs.declared.worlds.NodeWorld.{NodeWorld}
use Rattle.session_law.specs.declared.worlds.Reach.{Reach}

-- ---- faults

-- whether a fault is that of a node at its k-th publication
abbrev pub is_fault_at : List ℕ → ℕ → Fault → Bool
is_fault_at name k fault = bytes_eq name fault.node && (k == fault.publication)

-- the first fault of a node at its k-th publication
abbrev pub fault_at : List Fault → List ℕ → ℕ → Option FaultKind
fault_at [] name k = None
fault_at (fault ∷ faults) name k = if is_fault_at name k fault then Some fault.kind else fault_at faults name k

abbrev pub is_unreachable : Option FaultKind → Bool
is_unreachable (Some Unreachable) = true
is_unreachable _ = false

-- the nodes that a script's faults cut off
abbrev pub cut_by : List Fault → List ℕ → ℕ → Bool
cut_by faults name k = is_unreachable (fault_at faults name k)

-- ---- one node

-- whether a node is sent the diff from the state before: it was in that state, and has it
abbrev pub is_sent_diff : ClusterState → List ℕ → NodeWorld → Bool
is_sent_diff prev name node = is_some (lookup name prev.nodes) && (node.accepted.id == prev.id)

-- ---- what it reaches, over the nodes of the script with what each of them has

-- whether a node accepts the new state: it is in it, and can be reached
abbrev pub does_accept : (List ℕ → ℕ → Bool) → ClusterState → ScriptNode × NodeWorld → Bool
does_accept cut new p = is_some (lookup p.0.name new.nodes) && not (cut p.0.name (p.1.sent + 1))

-- what a node of the new state has then
abbrev pub sent_more : ClusterState → NodeWorld → Bool → NodeWorld
sent_more new has accepts = if accepts then record { accepted = new; sent = has.sent + 1 } else record has { sent = has.sent + 1 }

-- what a node has then: one that isn't in the new state is sent nothing
abbrev pub sent_on : (List ℕ → ℕ → Bool) → ClusterState → ScriptNode × NodeWorld → NodeWorld
sent_on cut new p = if is_some (lookup p.0.name new.nodes) then sent_more new p.1 (does_accept cut new p) else p.1

-- how far it reaches, by those that accept it
abbrev pub counted_on : (List ℕ → ℕ → Bool) → ClusterState → ClusterState → List (ScriptNode × NodeWorld) → Reach
counted_on cut prev new nodes =
    let accepting = filter (does_accept cut new) nodes in
    record {
      nodes = map (sent_on cut new) nodes;
      diffs = count_by (λ p. is_sent_diff prev p.0.name p.1) accepting;
      fulls = count_by (λ p. not (is_sent_diff prev p.0.name p.1)) accepting;
      votes = count_by (λ p. is_eligible (lookup p.0.name new.nodes)) accepting;
      master = list_any (λ p. bytes_eq p.0.name new.master) accepting;
    }

unfoldable pub reach_of : (List ℕ → ℕ → Bool) → ClusterState → ClusterState → List ScriptNode → List NodeWorld → Reach
reach_of cut prev new nodes have = counted_on cut prev new (zip nodes have)

-- ---- whether it commits

-- the master accepted it, and so did more than half of the eligible nodes
abbrev pub does_commit : ClusterState → Reach → Bool
does_commit new reach = reach.master && is_majority new.nodes reach.votes
