-- What a publication reached, by the answers of the nodes of a world; and which nodes it is then taken to have been
-- unable to reach: those that were sent it and didn't accept.
use Rattle.std.specs.Prelude.{◌≡◌, ℕ, ◌+◌, Bool, true, false, not, ◌&&◌, List, [], ◌∷◌, bytes_eq, if◌then◌else◌}
use Rattle.std.specs.List.{list_any}
use Rattle.meta_state.specs.declared.cluster_state.ClusterState.{ClusterState}
use Rattle.publication.specs.declared.deliveries.Answer.{Answer}
use Rattle.publication.specs.Deliveries.{diffs_in, fulls_in, votes_in}
use Rattle.scripts.specs.declared.faults.Fault.{Fault}
use Rattle.scripts.specs.declared.whole_script.ScriptNode.{ScriptNode}
use Rattle.session_law.specs.declared.worlds.NodeWorld.{NodeWorld}
use Rattle.session_law.specs.declared.worlds.Reach.{Reach}
use Rattle.session_law.specs.declared.worlds.World.{World}
use Rattle.session_law.specs.Publications.{cut_by, reach_of, sent_more}
use Rattle.publication.specs.Threes.{AllThree}
use Rattle.master_run.specs.declared.plans.Plan.{Plan}
use Rattle.master_run.specs.declared.plans.Plan.TheVariants.{Settled, Proposed}
use Rattle.master_run.specs.declared.plans.Proposal.{Proposal}

-- ---- what it reached

-- what a node has after its answer
abbrev pub node_after : ClusterState → NodeWorld → Answer → NodeWorld
node_after new has answer = if answer.asked then sent_more new has answer.accepted else has

abbrev pub nodes_after : ClusterState → List NodeWorld → List Answer → List NodeWorld
nodes_after new [] answers = []
nodes_after new (_ ∷ _) [] = []
nodes_after new (has ∷ more) (answer ∷ answers) = node_after new has answer ∷ nodes_after new more answers

abbrev pub reach_at : ClusterState → List NodeWorld → List Answer → Reach
reach_at new nodes answers = record {
  nodes = nodes_after new nodes answers;
  diffs = diffs_in answers;
  fulls = fulls_in answers;
  votes = votes_in answers;
  master = list_any (λ a. a.leads) answers;
}

abbrev pub reach_by : List NodeWorld → List Answer → Proposal → Reach
reach_by nodes answers proposal = reach_at proposal.new nodes answers

-- ---- whom it couldn't reach

abbrev pub is_missed : Answer → Bool
is_missed answer = answer.asked && not answer.accepted

-- by name, whatever the count of publications
abbrev pub cut_off : List ScriptNode → List Answer → List ℕ → ℕ → Bool
cut_off [] answers name k = false
cut_off (_ ∷ _) [] name k = false
cut_off (node ∷ nodes) (answer ∷ answers) name k = if bytes_eq name node.name then is_missed answer else cut_off nodes answers name k

-- a node was missed exactly where a fault cuts it off at the risen count
abbrev pub IsScripted : List Fault → ScriptNode → NodeWorld → Answer → Type 0
IsScripted faults node has answer = answer.asked ≡ true → is_missed answer ≡ cut_by faults node.name (has.sent + 1)

-- so it is with all nodes, where something was proposed
abbrev pub AreScripted : List Fault → List ScriptNode → World → Plan → List Answer → Type 0
AreScripted faults nodes world (Settled stepped) answers = Unit {0}
AreScripted faults nodes world (Proposed proposal) answers = AllThree (IsScripted faults) nodes world.nodes answers

-- what was reached is what the definition of a publication reaches, with those cut off that were missed
abbrev pub IsReached : List ScriptNode → World → List Answer → Plan → Type 0
IsReached nodes world answers (Settled stepped) = Unit {0}
IsReached nodes world answers (Proposed proposal) =
    reach_by world.nodes answers proposal ≡ reach_of (cut_off nodes answers) world.state proposal.new nodes world.nodes
