-- What nodes are handed over the links of a replay is passed on to their appliers at once, so that between two turns no
-- link has a commit left. All of it is this project's own.
use Rattle.std.specs.Prelude.{◌≡◌, List, [], ◌∷◌, ◌++◌, map, Option, Some}
use Rattle.std.specs.List.{AllZip}
use Rattle.meta_state.specs.declared.cluster_state.ClusterState.{ClusterState}
use Rattle.node_apply.specs.Applying.{Node, last_of_node, passed_on}
use Rattle.node_apply.specs.NodeLinks.{NodeLinkView, told}
use Rattle.publication.specs.LinkMeanings.{LinkMeaning}
use Rattle.publication.specs.Threes.{AllThree}
use Rattle.scripts.specs.declared.whole_script.Script.{Script}
use Rattle.scripts.specs.declared.whole_script.ScriptNode.{ScriptNode}
use Rattle.session_law.specs.Histories.{SteppedBatch}
use Rattle.master_run.specs.Nodes.{handed_of}

abbrev pub meanings_of : List NodeLinkView → List LinkMeaning
meanings_of links = map (λ l. l.meaning) links

-- ---- passed on

-- what a link was handed may be passed on to this applier
pub record CanPass (link : NodeLinkView) (node : Node) : Type 0 where
  pub name : link.meaning.name ≡ node.name
  pub base : (base : ClusterState) → link.meaning.base ≡ Some base → base ≡ last_of_node node

abbrev pub passed_each : List NodeLinkView → List Node → List Node
passed_each [] nodes = nodes
passed_each (_ ∷ _) [] = []
passed_each (link ∷ links) (node ∷ nodes) = passed_on (told link.meaning) node ∷ passed_each links nodes

-- so it was, and nothing is left
pub record IsPassed (link : NodeLinkView) (node : Node) : Type 0 where
  pub can : CanPass link node
  pub handed : link.meaning.handed ≡ []
  pub numbers : link.meaning.numbers ≡ []

abbrev pub ArePassed : List NodeLinkView → List Node → Type 0
ArePassed links nodes = AllZip IsPassed links nodes

-- ---- handed

-- over its link a node is handed what it is handed of a batch, behind what it was handed before, and what was passed on
-- before stays known
pub record IsTold (script : Script) (s : Option SteppedBatch) (node : ScriptNode) (before after : LinkMeaning) : Type 0 where
  pub name : after.name ≡ before.name
  pub handed : after.handed ≡ before.handed ++ map (λ c. c.state) (handed_of script node.name s)
  pub numbers : after.numbers ≡ before.numbers ++ map (λ c. c.publication) (handed_of script node.name s)
  pub base : after.base ≡ before.base

abbrev pub AreTold : Script → Option SteppedBatch → List LinkMeaning → List LinkMeaning → Type 0
AreTold script s before after = AllThree (IsTold script s) script.nodes before after
