-- The nodes of a script: 1 to 30, each of a name of its own. The first one is the master: it can vote, and is in the
-- first state. The rules are this project's own.
use Rattle.std.specs.Prelude.{ℕ, ◌≤◌, Bool, true, ◌&&◌, List, [], ◌∷◌, Some, None, Option, Result, Ok, codes, bytes_eq, length, if◌then◌else◌, IsTrue}
use Rattle.serde_json.specs.Data.{Data}
use Rattle.scripts.specs.declared.whole_script.ScriptNode.{ScriptNode}
use Rattle.scripts.specs.Scripts.{has_master}
use Rattle.scripts.specs.ValidSteps.{is_node_among}
use Rattle.script_form.specs.Naming.{AreNamed}
use Rattle.script_form.specs.declared.limits.LimitName.TheVariants.{Nodes}
use Rattle.script_form.specs.declared.misfits.Misfit.{Misfit}
use Rattle.script_form.specs.declared.rules.Rule.TheVariants.{Range, Twice, Master, Reference}
use Rattle.script_form.specs.Misfits.{◌>>=◌, bad, some_or, at_member, within}
use Rattle.script_form.specs.Parts.{check_members, required, optional, short_list, each, flag_of, name_of, text_of}

-- a node: `name`, `eligible` and `member`, of which the last two may be left out
unfoldable pub node_of : Data → Result ScriptNode Misfit
node_of d =
    check_members (codes "name" ∷ codes "eligible" ∷ codes "member" ∷ []) d >>= λ _.
    required (codes "name") name_of d >>= λ name.
    optional (codes "eligible") true flag_of d >>= λ eligible.
    optional (codes "member") true flag_of d >>= λ is_member.
    Ok (record { name = name; eligible = eligible; member = is_member })

-- whether a node may be the master
abbrev pub may_lead : ScriptNode → Bool
may_lead node = node.eligible && node.member

-- what may be first or stand after other nodes
abbrev pub fit_node : List ScriptNode → ScriptNode → Result ScriptNode Misfit
fit_node [] node = if may_lead node then Ok node else bad Master
fit_node (first ∷ before) node = if is_node_among (first ∷ before) node.name then within (at_member (codes "name")) (bad Twice) else Ok node

abbrev pub next_node : List ScriptNode → Data → Result ScriptNode Misfit
next_node before d = node_of d >>= fit_node before

abbrev pub some_nodes : List Data → Result (List ScriptNode) Misfit
some_nodes [] = bad Range
some_nodes (d ∷ ds) = each next_node [] (d ∷ ds)

-- at least one, and at most 30
abbrev pub nodes_of : Data → Result (List ScriptNode) Misfit
nodes_of d = short_list 30 Nodes d >>= some_nodes

-- ---- the node that a text names

abbrev pub find_node : List ScriptNode → List ℕ → Option ScriptNode
find_node [] name = None
find_node (node ∷ nodes) name = if bytes_eq name node.name then Some node else find_node nodes name

abbrev pub node_named : List ScriptNode → Data → Result ScriptNode Misfit
node_named nodes d = text_of d >>= λ name. some_or Reference (find_node nodes name)

-- ---- what is so of the nodes that are read

abbrev pub node_name : ScriptNode → List ℕ
node_name node = node.name

-- whether the first one may be the master
abbrev pub is_led : List ScriptNode → Bool
is_led [] = true
is_led (node ∷ _) = may_lead node

-- whether a node may stand first
abbrev pub is_fit_first : List ScriptNode → ScriptNode → Bool
is_fit_first [] node = may_lead node
is_fit_first (_ ∷ _) node = true

-- the nodes read so far
pub record AreLed (nodes : List ScriptNode) : Type 0 where
  pub names : AreNamed node_name nodes
  pub led : IsTrue (is_led nodes)

-- all nodes of a script
pub record AreNodes (nodes : List ScriptNode) : Type 0 where
  pub limit : length nodes ≤ 30
  pub names : AreNamed node_name nodes
  pub master : IsTrue (has_master nodes)
