-- The links over which a replay publishes to its nodes.
use Rattle.std.specs.Prelude.{ℕ, List, [], ◌∷◌, max}
use Rattle.node_apply.specs.NodeLinks.{NodeLinkView, new_node_link}
use Rattle.publication.specs.LinkMeanings.{LinkMeaning}
use Rattle.scripts.specs.declared.whole_script.Script.{Script}
use Rattle.scripts.specs.declared.whole_script.ScriptNode.{ScriptNode}
use Rattle.scripts.specs.Scripts.{submits}
use Rattle.session_law.specs.declared.worlds.NodeWorld.{NodeWorld}

abbrev pub room_for : Script → ℕ
room_for script = max (submits script) 1

-- a link to a node that has what it has in a world; it lists no fault, since no script with faults is performed yet
abbrev pub link_for : ℕ → ScriptNode → NodeWorld → NodeLinkView
link_for room node has = new_node_link node.name has.accepted room []

abbrev pub links_for : ℕ → List ScriptNode → List NodeWorld → List NodeLinkView
links_for room [] have = []
links_for room (_ ∷ _) [] = []
links_for room (node ∷ nodes) (has ∷ more) = link_for room node has ∷ links_for room nodes more

abbrev pub meanings_for : ℕ → List ScriptNode → List NodeWorld → List LinkMeaning
meanings_for room [] have = []
meanings_for room (_ ∷ _) [] = []
meanings_for room (node ∷ nodes) (has ∷ more) = (link_for room node has).meaning ∷ meanings_for room nodes more
