-- The nodes of a script as they apply, and as a course sees them: each with the commits that it has left, its state and
-- what it did. What never changes of a node is its name, which of its applies the script lets fail, and its first version.
use Rattle.std.specs.Prelude.{◌≡◌, ℕ, Bool, true, false, List, [], ◌∷◌, map, Option, Some, None, slice_get, slice_set}
use Rattle.node_apply.specs.Applying.{Node, after_next, new_node}
use Rattle.node_apply.specs.declared.outcomes.ApplyOutcome.{ApplyOutcome}
use Rattle.node_apply.specs.declared.outcomes.ApplyOutcome.TheVariants as outcome
use Rattle.scripts.specs.declared.whole_script.Script.{Script}
use Rattle.scripts.specs.declared.whole_script.ScriptNode.{ScriptNode}
use Rattle.session_law.specs.declared.worlds.NodeWorld.{NodeWorld}
use Rattle.session_law.specs.NodeRecords.{first_of}
use Rattle.master_run.specs.Nodes.{NodeCourse}

abbrev pub node_course : Node → NodeCourse
node_course node = record { left = node.waiting; state = node.state; place = node.place; applies = node.applies }

abbrev pub courses_of : List Node → List NodeCourse
courses_of nodes = map node_course nodes

-- ---- what stays

pub record Origin : Type 0 where
  pub name : List ℕ
  pub failing : List ℕ
  pub first : ℕ

abbrev pub origin_of : Node → Origin
origin_of node = record { name = node.name; failing = node.failing; first = node.first }

-- no apply is listed that fails, since no script with faults is performed yet
abbrev pub origin_for : Script → ScriptNode → Origin
origin_for script node = record { name = node.name; failing = []; first = (first_of script (Some node)).version }

-- one for each node of a script, in its order
abbrev pub AreNodesOf : Script → List Node → Type 0
AreNodesOf script nodes = map origin_of nodes ≡ map (origin_for script) script.nodes

-- ---- at first

-- a node that has what it has in a world
abbrev pub applier_for : ScriptNode → NodeWorld → Node
applier_for node has = new_node node.name [] has.accepted

abbrev pub appliers_for : List ScriptNode → List NodeWorld → List Node
appliers_for [] have = []
appliers_for (_ ∷ _) [] = []
appliers_for (node ∷ nodes) (has ∷ more) = applier_for node has ∷ appliers_for nodes more

-- ---- applied

-- whether there was a commit to apply
abbrev pub did_act : ApplyOutcome → Bool
did_act outcome.None = false
did_act (outcome.Applied version) = true
did_act (outcome.FailedByScript version) = true

-- a node applies the first commit that it has left; and whether it had one
abbrev pub applied_first : Node → Bool × Node
applied_first node = (did_act (after_next node).0, (after_next node).1)

-- the node of a number applies the first commit that it has left, if there is such a node; and whether it had one
abbrev pub applied_in : ℕ → List Node → Option Node → Bool × List Node
applied_in number nodes None = (false, nodes)
applied_in number nodes (Some node) = (did_act (after_next node).0, slice_set nodes number (after_next node).1)

abbrev pub applied_at : ℕ → List Node → Bool × List Node
applied_at number nodes = applied_in number nodes (slice_get nodes number)
