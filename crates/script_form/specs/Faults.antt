-- The faults of a script: at most 1,024, none on the master, and one at most at each publication to a node. The rules
-- are this project's own.
use Rattle.std.specs.Prelude.{ℕ, ◌==◌, Bool, ◌&&◌, List, [], ◌∷◌, Option, Result, Ok, codes, bytes_eq, if◌then◌else◌, IsTrue}
use Rattle.std.specs.List.{list_all, list_any}
use Rattle.serde_json.specs.Data.{Data}
use Rattle.scripts.specs.declared.faults.Fault.{Fault}
use Rattle.scripts.specs.declared.faults.FaultKind.{FaultKind}
use Rattle.scripts.specs.declared.faults.FaultKind.TheVariants as fault_kind
use Rattle.scripts.specs.declared.whole_script.ScriptNode.{ScriptNode}
use Rattle.scripts.specs.Scripts.{are_faults_distinct, is_fault, is_master}
use Rattle.script_form.specs.declared.limits.LimitName.TheVariants.{Faults}
use Rattle.script_form.specs.declared.misfits.Misfit.{Misfit}
use Rattle.script_form.specs.declared.rules.Rule.TheVariants.{Master, Twice}
use Rattle.script_form.specs.Misfits.{◌>>=◌, bad}
use Rattle.script_form.specs.Nodes.{node_named}
use Rattle.script_form.specs.Parts.{check_members, required, short_list, each, positive_of, word_of, meaning_in}

unfoldable pub fault_named : List ℕ → Option FaultKind
fault_named = meaning_in (
    (codes "unreachable", fault_kind.Unreachable) ∷
    (codes "lost_commit", fault_kind.LostCommit) ∷
    (codes "apply", fault_kind.Apply) ∷
    [])

-- a node other than the master
abbrev pub fit_follower : List ScriptNode → ScriptNode → Result (List ℕ) Misfit
fit_follower nodes node = if is_master nodes node.name then bad Master else Ok node.name

abbrev pub follower_of : List ScriptNode → Data → Result (List ℕ) Misfit
follower_of nodes d = node_named nodes d >>= fit_follower nodes

unfoldable pub fault_of : List ScriptNode → Data → Result Fault Misfit
fault_of nodes d =
    check_members (codes "node" ∷ codes "publication" ∷ codes "kind" ∷ []) d >>= λ _.
    required (codes "node") (follower_of nodes) d >>= λ node.
    required (codes "publication") positive_of d >>= λ publication.
    required (codes "kind") (word_of fault_named) d >>= λ kind.
    Ok (record { node = node; publication = publication; kind = kind })

abbrev pub is_same_place : Fault → Fault → Bool
is_same_place fault other = bytes_eq fault.node other.node && (fault.publication == other.publication)

-- no place twice
abbrev pub fit_fault : List Fault → Fault → Result Fault Misfit
fit_fault before fault = if list_any (is_same_place fault) before then bad Twice else Ok fault

abbrev pub next_fault : List ScriptNode → List Fault → Data → Result Fault Misfit
next_fault nodes before d = fault_of nodes d >>= fit_fault before

abbrev pub faults_of : List ScriptNode → Data → Result (List Fault) Misfit
faults_of nodes d = short_list 1024 Faults d >>= each (next_fault nodes) []

-- ---- what is so of the faults that are read

pub record AreFaults (nodes : List ScriptNode) (faults : List Fault) : Type 0 where
  pub valid : IsTrue (list_all (is_fault nodes) faults)
  pub distinct : IsTrue (are_faults_distinct faults)
