-- The lines of a node: what it was handed and applied, one line for each handed version, and its views. Their form is
-- this project's own.
use Rattle.std.specs.Prelude.{ℕ, Bool, true, false, List, [], ◌∷◌, ◌++◌, codes, decimal, if◌then◌else◌}
use Rattle.session_law.specs.declared.node_records.Apply.{Apply}
use Rattle.session_law.specs.declared.node_records.ApplyEnd.{ApplyEnd}
use Rattle.session_law.specs.declared.node_records.ApplyEnd.TheVariants.{Failed, Applied}
use Rattle.session_law.specs.declared.node_records.Change.{Change}
use Rattle.session_law.specs.declared.node_records.NodeRec.{NodeRec}
use Rattle.session_law.specs.declared.node_records.View.{View}
use Rattle.session_law.specs.Joining.{lines_text, names_text, numbers_text}
use Rattle.session_law.specs.Lines.{line_end}
use Rattle.session_law.specs.ViewJson.{view_json}

-- ---- node N handed H applied P

abbrev pub has_applied : ApplyEnd → Bool
has_applied Failed = false
has_applied (Applied high normal low listeners change) = true

-- the versions of the applies that didn't fail
abbrev pub applied_to : List Apply → List ℕ
applied_to [] = []
applied_to (apply ∷ applies) = if has_applied apply.end then apply.to ∷ applied_to applies else applied_to applies

-- the version that the node began with, and those that it applied
abbrev pub applied_versions : NodeRec → List ℕ
applied_versions node = node.first ∷ applied_to node.applies

unfoldable pub node_head : NodeRec → List ℕ
node_head node =
    codes "node " ++ (node.node ++ (codes " handed " ++ (numbers_text node.handed ++ (codes " applied " ++ (numbers_text (applied_versions node) ++ line_end)))))

-- ---- apply N F>V high F normal F low F listeners V created A deleted B changed C joined D left G settings S
-- ---- apply N F>V failed

-- a list of names behind its word
abbrev pub named_text : List ℕ → List (List ℕ) → List ℕ
named_text word names = codes " " ++ (word ++ (codes " " ++ names_text names))

unfoldable pub change_text : Change → List ℕ
change_text change =
    named_text (codes "created") change.created ++ (named_text (codes "deleted") change.deleted ++ (named_text (codes "changed") change.changed ++
    (named_text (codes "joined") change.joined ++ (named_text (codes "left") change.left ++ named_text (codes "settings") change.settings))))

-- the versions of the applied state as each phase ran
unfoldable pub phases_text : ℕ → ℕ → ℕ → ℕ → List ℕ
phases_text high normal low listeners =
    codes " high " ++ (decimal high ++ (codes " normal " ++ (decimal normal ++ (codes " low " ++ (decimal low ++ (codes " listeners " ++ decimal listeners))))))

unfoldable pub apply_end_text : ApplyEnd → List ℕ
apply_end_text Failed = codes " failed"
apply_end_text (Applied high normal low listeners change) = phases_text high normal low listeners ++ change_text change

unfoldable pub apply_line : List ℕ → Apply → List ℕ
apply_line name apply =
    codes "apply " ++ (name ++ (codes " " ++ (decimal apply.from ++ (codes ">" ++ (decimal apply.to ++ (apply_end_text apply.end ++ line_end))))))

abbrev pub apply_lines : List ℕ → List Apply → List ℕ
apply_lines name applies = lines_text (apply_line name) applies

-- ---- view N JSON

unfoldable pub view_line : List ℕ → View → List ℕ
view_line name view = codes "view " ++ (name ++ (codes " " ++ (view_json view ++ line_end)))

-- ---- all lines of the nodes

abbrev pub node_text : NodeRec → List ℕ
node_text node = node_head node ++ (apply_lines node.node node.applies ++ view_line node.node node.view)

abbrev pub node_lines : List NodeRec → List ℕ
node_lines nodes = lines_text node_text nodes
