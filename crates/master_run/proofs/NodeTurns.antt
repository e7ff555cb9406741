-- A node's turn, where its applier takes the first commit: what the course makes of it, and what stays; the appliers of a
-- script at first; and their records.
use Rattle.std.specs.Prelude.{◌≡◌, ℕ, zero, suc, Bool, true, false, List, [], ◌∷◌, drop, map, set, Option, Some, None, slice_get, slice_set, refl}
use Rattle.std.specs.Option.{option_map}
use Rattle.std.proofs.Common.{sym, ◌∙◌, ap}
use Rattle.std.proofs.Math.Bool.{true≢false}
use Rattle.std.proofs.lemmas.List.{map-set}
use Rattle.std.proofs.lemmas.Option.{slice_get-map}
use Rattle.node_apply.specs.Applying.{Node, after_next, fails_first, handed_versions, next_of, record_of}
use Rattle.scripts.specs.declared.whole_script.Script.{Script}
use Rattle.scripts.specs.declared.whole_script.ScriptNode.{ScriptNode}
use Rattle.session_law.specs.NodeRecords.{Commit, is_apply_fault}
use Rattle.session_law.specs.Publications.{fault_at}
use Rattle.session_law.specs.Views.{views_of}
use Rattle.session_law.specs.Worlds.{first_node, first_state_of, first_world}
use Rattle.meta_state.specs.States.{zero_state}
use Rattle.master_run.specs.Appliers.{AreNodesOf, Origin, applied_at, applied_in, appliers_for, courses_of, did_act, node_course, origin_for, origin_of}
use Rattle.master_run.specs.Courses.{Course}
use Rattle.master_run.specs.Nodes.{NodeCourse, applied_node, applied_so, first_applied, fresh_node, fresh_nodes}
use Rattle.master_run.specs.Serials.{Serial, after_turn, at_clock, turn_at}
use Rattle.master_run.specs.Sessions.{records_by}
use Rattle.master_run.proofs.Keeping.{no_some, some_same}

-- ---- one node

abbrev some_if : {A : Type 0} → Bool → A → Option A
some_if true a = Some a
some_if false a = None

-- what the applier makes of its first commit is what the course makes of it
first_is : (script : Script) (name : List ℕ) (a : Node) (left : List Commit) → script.faults ≡ [] → a.failing ≡ []
    → let made = next_of (fails_first a.failing left) a left in first_applied script name left (node_course a) ≡ some_if (did_act made.0) (node_course made.1)
first_is script name a [] none listed = refl
first_is script name a (commit ∷ rest) none listed =
    (λ i. Some (record (applied_so (is_apply_fault (fault_at (none i) name commit.publication)) commit (node_course a)) { left = rest }))
    ∙ (λ i. let made = next_of (fails_first (sym listed i) (commit ∷ rest)) a (commit ∷ rest) in some_if (did_act made.0) (node_course made.1))

-- one that had nothing left stays as it is
stays_by : (a : Node) (left : List Commit) (fails : Bool) → did_act (next_of fails a left).0 ≡ false → (next_of fails a left).1 ≡ a
stays_by a [] fails e = refl
stays_by a (commit ∷ rest) true e = absurd (true≢false e)
stays_by a (commit ∷ rest) false e = absurd (true≢false e)

origin_stays : (a : Node) (left : List Commit) (fails : Bool) → origin_of (next_of fails a left).1 ≡ origin_of a
origin_stays a [] fails = refl
origin_stays a (commit ∷ rest) true = refl
origin_stays a (commit ∷ rest) false = refl

-- ---- all nodes

set_same : {A : Type 0} (xs : List A) (n : ℕ) (x : A) → slice_get xs n ≡ Some x → set xs n x ≡ xs
set_same [] n x e = refl
set_same (first ∷ xs) zero x e = ap (λ y. y ∷ xs) (sym (some_same first x e))
set_same (first ∷ xs) (suc n) x e = ap (λ l. first ∷ l) (set_same xs n x e)

-- the course with these nodes
abbrev over : Course → ℕ → List Node → Serial
over k clock nodes = at_clock clock (record k { nodes = courses_of nodes })

abbrev placed : Course → ℕ → List Node → ℕ → NodeCourse → Serial
placed k clock nodes number has = at_clock clock (record k { nodes = slice_set (courses_of nodes) number has })

acts_so : (k : Course) (clock number : ℕ) (nodes : List Node) (a now : Node) (b : Bool) → slice_get nodes number ≡ Some a → (b ≡ false → now ≡ a)
    → after_turn (false, over k clock nodes) (option_map (placed k clock nodes number) (some_if b (node_course now))) ≡ (b, over k clock (slice_set nodes number now))
acts_so k clock number nodes a now true at stays = λ i. (true, at_clock clock (record k { nodes = sym (map-set node_course nodes number now) i }))
acts_so k clock number nodes a now false at stays =
    λ i. (false, over k clock (sym ((λ j. set nodes number (stays refl j)) ∙ set_same nodes number a at) i))

map_both : (k : Course) (clock number : ℕ) (nodes : List Node) (o : Option NodeCourse)
    → option_map (at_clock clock) (option_map (λ (has : NodeCourse). record k { nodes = slice_set (courses_of nodes) number has }) o) ≡ option_map (placed k clock nodes number) o
map_both k clock number nodes None = refl
map_both k clock number nodes (Some has) = refl

turns_so : (script : Script) (k : Course) (clock number : ℕ) (nodes : List Node) (found : Option Node) (of_script : Option ScriptNode) → slice_get nodes number ≡ found
    → option_map origin_of found ≡ option_map (origin_for script) of_script → script.faults ≡ []
    → after_turn (false, over k clock nodes) (option_map (placed k clock nodes number) (applied_node script of_script (option_map node_course found)))
    ≡ ((applied_in number nodes found).0, over k clock (applied_in number nodes found).1)
turns_so script k clock number nodes None None at e none = refl
turns_so script k clock number nodes None (Some node) at e none = refl
turns_so script k clock number nodes (Some a) None at e none = absurd (no_some (origin_of a) (sym e))
turns_so script k clock number nodes (Some a) (Some node) at e none =
    let same = some_same (origin_of a) (origin_for script node) e in
    ap (λ (o : Option NodeCourse). after_turn (false, over k clock nodes) (option_map (placed k clock nodes number) o)) (first_is script node.name a a.waiting none (ap (λ (o : Origin). o.failing) same))
    ∙ acts_so k clock number nodes a (after_next a).1 (did_act (after_next a).0) at (stays_by a a.waiting (fails_first a.failing a.waiting))

pub turns_at : (script : Script) (k : Course) (clock number : ℕ) (nodes : List Node) → AreNodesOf script nodes → script.faults ≡ []
    → after_turn (false, at_clock clock (record k { nodes = courses_of nodes })) (turn_at script number (at_clock clock (record k { nodes = courses_of nodes })))
    ≡ ((applied_at number nodes).0, at_clock clock (record k { nodes = courses_of (applied_at number nodes).1 }))
turns_at script k clock number nodes are none =
    ap (after_turn (false, over k clock nodes))
    (map_both k clock number nodes (applied_node script (slice_get script.nodes number) (slice_get (courses_of nodes) number))
    ∙ ap (λ (o : Option NodeCourse). option_map (placed k clock nodes number) (applied_node script (slice_get script.nodes number) o)) (slice_get-map node_course nodes number))
    ∙ turns_so script k clock number nodes (slice_get nodes number) (slice_get script.nodes number) refl
    (sym (slice_get-map origin_of nodes number) ∙ ap (λ (l : List Origin). slice_get l number) are ∙ slice_get-map (origin_for script) script.nodes number) none

origins_by : (number : ℕ) (nodes : List Node) (found : Option Node) → slice_get nodes number ≡ found → map origin_of (applied_in number nodes found).1 ≡ map origin_of nodes
origins_by number nodes None at = refl
origins_by number nodes (Some a) at =
    map-set origin_of nodes number (after_next a).1
    ∙ ap (λ (o : Origin). set (map origin_of nodes) number o) (origin_stays a a.waiting (fails_first a.failing a.waiting))
    ∙ set_same (map origin_of nodes) number (origin_of a) (slice_get-map origin_of nodes number ∙ ap (option_map origin_of) at)

pub origins_stay : (number : ℕ) (nodes : List Node) → map origin_of (applied_at number nodes).1 ≡ map origin_of nodes
origins_stay number nodes = origins_by number nodes (slice_get nodes number) refl

-- ---- at first

fresh_each : (script : Script) (nodes : List ScriptNode)
    → courses_of (appliers_for nodes (map (first_node (first_state_of script) (zero_state script.cluster)) nodes)) ≡ map (fresh_node script) nodes
fresh_each script [] = refl
fresh_each script (node ∷ nodes) = ap (λ (l : List NodeCourse). fresh_node script node ∷ l) (fresh_each script nodes)

pub nodes_fresh : (script : Script) → courses_of (appliers_for script.nodes (first_world script).nodes) ≡ fresh_nodes script
unfolding first_world
nodes_fresh script = fresh_each script script.nodes

origins_each : (script : Script) (nodes : List ScriptNode)
    → map origin_of (appliers_for nodes (map (first_node (first_state_of script) (zero_state script.cluster)) nodes)) ≡ map (origin_for script) nodes
origins_each script [] = refl
origins_each script (node ∷ nodes) = ap (λ (l : List Origin). origin_for script node ∷ l) (origins_each script nodes)

pub nodes_first : (script : Script) → AreNodesOf script (appliers_for script.nodes (first_world script).nodes)
unfolding first_world
nodes_first script = origins_each script script.nodes

-- ---- in the end

records_each : (script : Script) (nodes : List ScriptNode) (have : List Node) → map origin_of have ≡ map (origin_for script) nodes → map record_of have ≡ records_by script nodes (courses_of have)
records_each script [] [] e = refl
records_each script [] (a ∷ have) e = absurd (no_some (origin_of a) (ap (λ (l : List Origin). slice_get l 0) (sym e)))
records_each script (node ∷ nodes) [] e = absurd (no_some (origin_for script node) (ap (λ (l : List Origin). slice_get l 0) e))
records_each script (node ∷ nodes) (a ∷ have) e =
    let same = some_same (origin_of a) (origin_for script node) (ap (λ (l : List Origin). slice_get l 0) e) in
    let rest = records_each script nodes have (ap (λ (l : List Origin). drop 1 l) e) in
    λ i. record { node = (same i).name; handed = handed_versions a; first = (same i).first; applies = a.applies; view = views_of a.state } ∷ rest i

pub records_are : (script : Script) (nodes : List Node) → AreNodesOf script nodes → map record_of nodes ≡ records_by script script.nodes (courses_of nodes)
records_are script nodes are = records_each script script.nodes nodes are
