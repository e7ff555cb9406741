-- The lines of a node tell its record: what it was handed and began with, each apply, and its views.
use Rattle.std.specs.Prelude.{◌≡◌, ◌==◌, ℕ, Bool, true, false, List, [], ◌∷◌, ◌++◌, refl, codes, if◌then◌else◌, IsTrue}
use Rattle.std.specs.List.{AllByRecursion, list_all}
use Rattle.std.proofs.lemmas.Bool.{and_parts}
use Rattle.std.proofs.lemmas.List.{append_cancel_left}
use Rattle.scripts.specs.Names.{is_name}
use Rattle.executors.specs.SettingTasks.{is_key}
use Rattle.session_law.specs.declared.node_records.Apply.{Apply}
use Rattle.session_law.specs.declared.node_records.ApplyEnd.{ApplyEnd}
use Rattle.session_law.specs.declared.node_records.ApplyEnd.TheVariants as end
use Rattle.session_law.specs.declared.node_records.Change.{Change}
use Rattle.session_law.specs.declared.node_records.NodeRec.{NodeRec}
use Rattle.session_law.specs.declared.node_records.View.{View}
use Rattle.report_law.specs.Bounds.{IsBoundedApply, IsBoundedApplyEnd, IsBoundedNode, IsWord}
use Rattle.report_law.specs.GoodForm.{are_versions_rising, is_good_apply, is_good_change, is_good_node, is_good_view, is_index_name}
use Rattle.session_law.specs.Joining.{names_text}
use Rattle.session_law.specs.Lines.{line_end}
use Rattle.session_law.specs.NodeLines.{applied_to, applied_versions, apply_end_text, apply_line, apply_lines, change_text, has_applied, named_text, node_head, node_lines, node_text, phases_text, view_line}
use Rattle.report_law.proofs.Joined.{index_names_tell, keys_tell, names_tell, numbers_tell}
use Rattle.report_law.proofs.LineLists.{both_of, lines_tell, starts}
use Rattle.report_law.proofs.Runs.{decimal_tells, head_is, is_decimal, is_lined, is_listed, listed_line, name_tells}
use Rattle.report_law.proofs.Telling.{Any, Ends, Same, Tells, apart, part, run_last, run_then, so, then_by, then_word, word_then}
use Rattle.report_law.proofs.Telling as telling
use Rattle.report_law.proofs.ViewTexts.{IsToldView, view_tells}

-- ---- changes

named_tells : {Good : List (List ℕ) → Type 0} (word : List ℕ) → Tells Good names_text Same (Ends is_listed) → Tells Good (named_text word) Same (Ends is_listed)
named_tells word names = word_then (codes " ") (word_then word (word_then (codes " ") names))

pub record IsToldChange (change : Change) : Type 0 where
  pub created : IsTrue (list_all is_index_name change.created)
  pub deleted : IsTrue (list_all is_index_name change.deleted)
  pub changed : IsTrue (list_all is_index_name change.changed)
  pub joined : IsTrue (list_all is_name change.joined)
  pub left : IsTrue (list_all is_name change.left)
  pub settings : IsTrue (list_all is_key change.settings)

good_change : (change : Change) → IsTrue (is_good_change change) → IsToldChange change
good_change change good =
    let created = and_parts _ _ good in
    let deleted = and_parts _ _ created.1 in
    let changed = and_parts _ _ deleted.1 in
    let joined = and_parts _ _ changed.1 in
    let left = and_parts _ _ joined.1 in
    record {
      created = (and_parts _ _ created.0).0;
      deleted = (and_parts _ _ deleted.0).0;
      changed = (and_parts _ _ changed.0).0;
      joined = (and_parts _ _ joined.0).0;
      left = (and_parts _ _ left.0).0;
      settings = (and_parts _ _ left.1).0;
    }

change_tells : Tells IsToldChange change_text Same (Ends is_listed)
unfolding change_text
change_tells =
    so (telling.then (part (λ c. c.created) (named_tells (codes "created") index_names_tell) (λ c good. good.created)) (λ c u good ends. refl)
    (telling.then (part (λ c. c.deleted) (named_tells (codes "deleted") index_names_tell) (λ c good. good.deleted)) (λ c u good ends. refl)
    (telling.then (part (λ c. c.changed) (named_tells (codes "changed") index_names_tell) (λ c good. good.changed)) (λ c u good ends. refl)
    (telling.then (part (λ c. c.joined) (named_tells (codes "joined") names_tell) (λ c good. good.joined)) (λ c u good ends. refl)
    (telling.then (part (λ c. c.left) (named_tells (codes "left") names_tell) (λ c good. good.left)) (λ c u good ends. refl)
    (part (λ c. c.settings) (named_tells (codes "settings") keys_tell) (λ c good. good.settings)))))))
    (λ a b k i. record { created = k.0 i; deleted = k.1.0 i; changed = k.1.1.0 i; joined = k.1.1.1.0 i; left = k.1.1.1.1.0 i; settings = k.1.1.1.1.1 i })

-- ---- applies

abbrev Applied : Type 0
Applied = ℕ × ℕ × ℕ × ℕ × Change

abbrev applied_text : Applied → List ℕ
applied_text p = apply_end_text (end.Applied p.0 p.1 p.2 p.3 p.4)

abbrev IsToldApplied : Applied → Type 0
IsToldApplied p = IsToldChange p.4 × IsWord p.0 × IsWord p.1 × IsWord p.2 × IsWord p.3

phases_tell : Tells IsToldApplied (λ p. phases_text p.0 p.1 p.2 p.3) (λ p q. (p.0 ≡ q.0) × ((p.1 ≡ q.1) × ((p.2 ≡ q.2) × (p.3 ≡ q.3)))) (Ends is_decimal)
unfolding phases_text
phases_tell =
    word_then (codes " high ") (run_then (codes " normal ") (part (λ p. p.0) decimal_tells (λ p good. good.1)) refl
    (run_then (codes " low ") (part (λ p. p.1) decimal_tells (λ p good. good.2)) refl
    (run_then (codes " listeners ") (part (λ p. p.2) decimal_tells (λ p good. good.3)) refl (part (λ p. p.3) decimal_tells (λ p good. good.4)))))

applied_tells : Tells IsToldApplied applied_text Same (Ends is_listed)
unfolding apply_end_text change_text
applied_tells =
    so (telling.then phases_tell (λ p u good ends. refl) (part (λ p. p.4) change_tells (λ p good. good.0)))
    (λ a b k i. (k.0.0 i, k.0.1.0 i, k.0.1.1.0 i, k.0.1.1.1 i, k.1 i))

abbrev IsToldEnd : ApplyEnd → Type 0
IsToldEnd end = IsTrue (is_good_apply end) × IsBoundedApplyEnd end

apply_ends_told : (a b : ApplyEnd) (u v : List ℕ) → IsToldEnd a → IsToldEnd b → Ends is_lined u → Ends is_lined v → apply_end_text a ++ u ≡ apply_end_text b ++ v → (a ≡ b) × (u ≡ v)
unfolding apply_end_text phases_text
apply_ends_told end.Failed end.Failed u v good fine eu ev e = (refl, append_cancel_left (codes " failed") u v e)
apply_ends_told (end.Applied h n l s c) (end.Applied i o m t d) u v good fine eu ev e =
    let one = applied_tells.told (h, n, l, s, c) (i, o, m, t, d) u v
    (good_change c good.0, good.1.0, good.1.1, good.1.2, good.1.3) (good_change d fine.0, fine.1.0, fine.1.1, fine.1.2, fine.1.3) (listed_line u eu) (listed_line v ev) e in
    ((λ j. end.Applied (one.0 j).0 (one.0 j).1 (one.0 j).2 (one.0 j).3 (one.0 j).4), one.1)
apply_ends_told _ _ u v good fine eu ev e = absurd (apart _ _ refl e)

apply_end_tells : Tells IsToldEnd apply_end_text Same (Ends is_lined)
apply_end_tells = record { told = apply_ends_told }

blank_ends : (end : ApplyEnd) (u : List ℕ) → Ends is_decimal ((apply_end_text end ++ line_end) ++ u)
unfolding apply_end_text phases_text
blank_ends end.Failed u = refl
blank_ends (end.Applied high normal low listeners change) u = refl

abbrev pub IsToldApply : Apply → Type 0
IsToldApply apply = IsTrue (is_good_apply apply.end) × IsBoundedApply apply

pub apply_tells : (name : List ℕ) → Tells IsToldApply (apply_line name) Same Any
unfolding apply_line
apply_tells name =
    so (word_then (codes "apply ") (word_then name (word_then (codes " ") (run_then (codes ">") (part (λ a. a.from) decimal_tells (λ a good. good.1.from)) refl
    (telling.then (part (λ a. a.to) decimal_tells (λ a good. good.1.to)) (λ a u good any. blank_ends a.end u)
    (run_last line_end (part (λ a. a.end) apply_end_tells (λ a good. (good.0, good.1.end))) refl))))))
    (λ a b k i. record { from = k.0 i; to = k.1.0 i; end = k.1.1 i })

apply_starts : (name : List ℕ) (apply : Apply) → IsTrue (starts 97 (apply_line name apply))
unfolding apply_line
apply_starts name apply = refl

-- the applies of a node, up to where no such line follows
pub apply_lines_tell : (name : List ℕ) → Tells (AllByRecursion IsToldApply) (apply_lines name) Same (Ends (λ b. b == 97))
apply_lines_tell name = lines_tell 97 (apply_starts name) (apply_tells name)

-- ---- the view

pub view_line_tells : (name : List ℕ) → Tells IsToldView (view_line name) Same Any
unfolding view_line
view_line_tells name = word_then (codes "view ") (word_then name (word_then (codes " ") (then_word line_end view_tells)))

view_starts : (name : List ℕ) (view : View) (u : List ℕ) → Ends (λ b. b == 97) (view_line name view ++ u)
unfolding view_line
view_starts name view u = refl

-- ---- the node

abbrev pub IsToldNode : NodeRec → Type 0
IsToldNode node = IsTrue (is_good_node node) × IsBoundedNode node

words_if : (b : Bool) (n : ℕ) (ns : List ℕ) → IsWord n → AllByRecursion IsWord ns → AllByRecursion IsWord (if b then n ∷ ns else ns)
words_if true n ns one more = (one, more)
words_if false n ns one more = more

applied_bounded : (applies : List Apply) → AllByRecursion IsBoundedApply applies → AllByRecursion IsWord (applied_to applies)
applied_bounded [] each = tt
applied_bounded (apply ∷ applies) each = words_if (has_applied apply.end) apply.to _ each.0.to (applied_bounded applies each.1)

-- a good record: its name, the order of its versions, its applies and its view
good_parts : (node : NodeRec) → IsTrue (is_good_node node) → IsTrue (is_name node.node) × IsTrue (are_versions_rising node) × IsTrue (list_all (λ a. is_good_apply a.end) node.applies) × IsTrue (is_good_view node.view)
good_parts node good =
    let name = and_parts (is_name node.node) _ good in
    let versions = and_parts (are_versions_rising node) _ name.1 in
    let applies = and_parts (list_all (λ a. is_good_apply a.end) node.applies) _ versions.1 in
    (name.0, versions.0, applies.0, applies.1)

-- what the head tells: the name, what was handed, and what was applied from the first version on
abbrev pub HeadsAgree : NodeRec → NodeRec → Type 0
HeadsAgree a b = (a.node ≡ b.node) × ((a.handed ≡ b.handed) × (applied_versions a ≡ applied_versions b))

pub head_tells : Tells IsToldNode node_head HeadsAgree Any
unfolding node_head
head_tells =
    word_then (codes "node ") (run_then (codes " handed ") (part (λ n. n.node) name_tells (λ n good. (good_parts n good.0).0)) refl
    (run_then (codes " applied ") (part (λ n. n.handed) numbers_tell (λ n good. good.1.handed)) refl
    (run_last line_end (part applied_versions numbers_tell (λ n good. (good.1.first, applied_bounded n.applies good.1.applies))) refl)))

good_applies : (node : NodeRec) → IsToldNode node → AllByRecursion IsToldApply node.applies
good_applies node good =
    both_of (λ a. is_good_apply a.end) IsBoundedApply node.applies (good_parts node good.0).2 good.1.applies

good_view : (node : NodeRec) → IsToldNode node → IsToldView node.view
good_view node good = record { good = (good_parts node good.0).3; ids = good.1.ids }

body_tells : (name : List ℕ) → Tells IsToldNode (λ n. apply_lines name n.applies ++ view_line name n.view) (λ a b. (a.applies ≡ b.applies) × (a.view ≡ b.view)) Any
body_tells name =
    telling.then (part (λ n. n.applies) (apply_lines_tell name) good_applies) (λ n u good any. view_starts name n.view u) (part (λ n. n.view) (view_line_tells name) good_view)

pub node_tells : Tells IsToldNode node_text Same Any
node_tells =
    so (then_by (λ n. n.node) head_tells (λ a b k. k.0) (λ a u good any. tt) body_tells)
    (λ a b k i. record { node = k.0.0 i; handed = k.0.1.0 i; first = head_is a.first b.first _ _ k.0.1.1 i; applies = k.1.0 i; view = k.1.1 i })

pub node_starts : (node : NodeRec) → IsTrue (starts 110 (node_text node))
unfolding node_head
node_starts node = refl

-- the lines of the nodes, up to where no such line follows
pub node_lines_tell : Tells (AllByRecursion IsToldNode) node_lines Same (Ends (λ b. b == 110))
node_lines_tell = lines_tell 110 node_starts node_tells
