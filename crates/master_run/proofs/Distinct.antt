-- The nodes of a script have distinct names, so that each is found by its own.
use Rattle.std.specs.Prelude.{◌≡◌, ℕ, zero, suc, ◌+◌, true, false, List, [], ◌∷◌, filter, find, map, bytes_eq, Option, Some, option_and_then, slice_get, unwrap_or, refl}
use Rattle.std.specs.Option.{option_map}
use Rattle.std.proofs.Common.{sym, ◌∙◌, ap, arith}
use Rattle.std.proofs.Math.Bool.{true≢false}
use Rattle.std.proofs.lemmas.Bool.{cond-false, cond-true}
use Rattle.std.proofs.lemmas.Iterator.Adapters.{position_from-zero}
use Rattle.std.specs.Cmp.Lexicographic.{bytes_decides}
use Rattle.std.specs.List.{AllByRecursion, list_any, position_from, zip}
use Rattle.scripts.specs.declared.whole_script.Script.{Script}
use Rattle.scripts.specs.declared.whole_script.ScriptNode.{ScriptNode}
use Rattle.scripts.specs.Names.{are_distinct}
use Rattle.scripts.specs.Scripts.{IsScript}
use Rattle.session_law.specs.declared.worlds.NodeWorld.{NodeWorld}
use Rattle.session_law.specs.declared.worlds.World.{World}
use Rattle.session_law.specs.NodeRecords.{first_at, first_of, sent_to}
use Rattle.master_run.specs.Events.{Event, event}
use Rattle.master_run.specs.Serials.{Serial, at_clock, node_number, node_turn}
use Rattle.master_run.proofs.Alls.{all_both, all_by}
use Rattle.master_run.proofs.Places.{all_at}
use Rattle.master_run.proofs.Keeping.{both_first, both_second, bytes_turn, false_from, neither, no_some, not_true, some_same}

-- ---- the others have other names

abbrev names_in : List ScriptNode → List (List ℕ)
names_in nodes = map (λ (n : ScriptNode). n.name) nodes

-- two names are different, either way round
abbrev Differs : List ℕ → ScriptNode → Type 0
Differs name n = (bytes_eq name n.name ≡ false) × (bytes_eq n.name name ≡ false)

all_differ : (name : List ℕ) (nodes : List ScriptNode) → list_any (bytes_eq name) (names_in nodes) ≡ false → AllByRecursion (Differs name) nodes
all_differ name [] e = tt
all_differ name (node ∷ more) e =
    let parts = neither (bytes_eq name node.name) (list_any (bytes_eq name) (names_in more)) e in
    ((parts.0, false_from (bytes_eq node.name name) (λ h. true≢false (sym (bytes_turn node.name name h) ∙ parts.0))), all_differ name more parts.1)

pub others_differ : (node : ScriptNode) (more : List ScriptNode) → are_distinct (names_in (node ∷ more)) ≡ true → AllByRecursion (Differs node.name) more
others_differ node more d = all_differ node.name more (not_true (list_any (bytes_eq node.name) (names_in more)) (both_first _ _ d))

pub own_name : (name : List ℕ) → bytes_eq name name ≡ true
own_name name = (bytes_decides name name).1 refl

-- ---- a node is the first one of its name

abbrev IsFound : List ScriptNode → ScriptNode → Type 0
IsFound nodes m = find (λ (n : ScriptNode). bytes_eq m.name n.name) nodes ≡ Some m

find_each : (nodes : List ScriptNode) → are_distinct (names_in nodes) ≡ true → AllByRecursion (IsFound nodes) nodes
find_each [] d = tt
find_each (node ∷ more) d = (
  cond-true (bytes_eq node.name node.name) (Some node) (find (λ (n : ScriptNode). bytes_eq node.name n.name) more) (own_name node.name),
  all_by (λ m. Differs node.name m × IsFound more m) (IsFound (node ∷ more))
      (λ m both. cond-false (bytes_eq m.name node.name) (Some node) (find (λ (n : ScriptNode). bytes_eq m.name n.name) more) both.0.1 ∙ both.1) more
      (all_both (Differs node.name) (IsFound more) more (others_differ node more d) (find_each more (both_second _ _ d))),
)

pub first_each : (script : Script) → IsScript script → AllByRecursion (λ n. first_at script n.name ≡ first_of script (Some n)) script.nodes
first_each script valid =
    all_by (IsFound script.nodes) (λ n. first_at script n.name ≡ first_of script (Some n)) (λ n e. ap (first_of script) e) script.nodes (find_each script.nodes valid.nodes_distinct)

-- ---- one record a node

abbrev IsAlone : {R : Type 0} → (R → List ℕ) → (ScriptNode → R) → List ScriptNode → ScriptNode → Type 0
IsAlone name_of made nodes m = filter (λ r. bytes_eq m.name (name_of r)) (map made nodes) ≡ made m ∷ []

none_named : {R : Type 0} (name_of : R → List ℕ) (made : ScriptNode → R) → ((n : ScriptNode) → name_of (made n) ≡ n.name) → (name : List ℕ) (nodes : List ScriptNode)
    → AllByRecursion (Differs name) nodes → filter (λ r. bytes_eq name (name_of r)) (map made nodes) ≡ []
none_named name_of made named name [] all = refl
none_named name_of made named name (node ∷ more) all =
    cond-false (bytes_eq name (name_of (made node))) (made node ∷ filter (λ r. bytes_eq name (name_of r)) (map made more)) (filter (λ r. bytes_eq name (name_of r)) (map made more))
    (ap (bytes_eq name) (named node) ∙ all.0.0)
    ∙ none_named name_of made named name more all.1

pub alone_each : {R : Type 0} (name_of : R → List ℕ) (made : ScriptNode → R) → ((n : ScriptNode) → name_of (made n) ≡ n.name) → (nodes : List ScriptNode)
    → are_distinct (map (λ (n : ScriptNode). n.name) nodes) ≡ true → AllByRecursion (λ m. filter (λ r. bytes_eq m.name (name_of r)) (map made nodes) ≡ made m ∷ []) nodes
alone_each name_of made named [] d = tt
alone_each name_of made named (node ∷ more) d =
    let others = others_differ node more d in (
      cond-true (bytes_eq node.name (name_of (made node))) (made node ∷ filter (λ r. bytes_eq node.name (name_of r)) (map made more)) (filter (λ r. bytes_eq node.name (name_of r)) (map made more))
          (ap (bytes_eq node.name) (named node) ∙ own_name node.name)
          ∙ ap (λ l. made node ∷ l) (none_named name_of made named node.name more others),
      all_by (λ m. Differs node.name m × IsAlone name_of made more m) (IsAlone name_of made (node ∷ more))
          (λ m both.
          cond-false (bytes_eq m.name (name_of (made node))) (made node ∷ filter (λ r. bytes_eq m.name (name_of r)) (map made more)) (filter (λ r. bytes_eq m.name (name_of r)) (map made more))
          (ap (bytes_eq m.name) (named node) ∙ both.0.1)
          ∙ both.1) more
          (all_both (Differs node.name) (IsAlone name_of made more) more others (alone_each name_of made named more (both_second _ _ d))),
    )

-- ---- the number of a node

at_first : (n : ℕ) → n ≡ n + 0
at_first n = omega arith

from_zero : (n : ℕ) → 0 + n ≡ n
from_zero n = omega arith

at_next : (n m : ℕ) → n + 1 + m ≡ n + suc m
at_next n m = omega arith

number_from : (start number : ℕ) (nodes : List ScriptNode) (m : ScriptNode) → are_distinct (names_in nodes) ≡ true → slice_get nodes number ≡ Some m
    → position_from (λ (n : ScriptNode). bytes_eq m.name n.name) start nodes ≡ Some (start + number)
number_from start number [] m d e = absurd (no_some m e)
number_from start zero (node ∷ more) m d e =
    let same = some_same node m e in
    cond-true (bytes_eq m.name node.name) (Some start) (position_from (λ (n : ScriptNode). bytes_eq m.name n.name) (start + 1) more)
    (ap (λ (n : ScriptNode). bytes_eq m.name n.name) same ∙ own_name m.name)
    ∙ ap Some (at_first start)
number_from start (suc number) (node ∷ more) m d e =
    cond-false (bytes_eq m.name node.name) (Some start) (position_from (λ (n : ScriptNode). bytes_eq m.name n.name) (start + 1) more)
    (all_at (Differs node.name) more number m (others_differ node more d) e).1
    ∙ number_from (start + 1) number more m (both_second _ _ d) e ∙ ap Some (at_next start number)

-- the node of a number has it by its name
pub number_is : (script : Script) (number : ℕ) (node : ScriptNode) → IsScript script → slice_get script.nodes number ≡ Some node → node_number script node.name ≡ Some number
number_is script number node valid e =
    position_from-zero (λ (n : ScriptNode). bytes_eq node.name n.name) script.nodes ∙ number_from 0 number script.nodes node valid.nodes_distinct e ∙ ap Some (from_zero number)

-- so its turn by its name is the event of its number
pub node_turn_at : (script : Script) (number : ℕ) (node : ScriptNode) (s : Serial) → IsScript script → slice_get script.nodes number ≡ Some node
    → node_turn script node.name s ≡ option_map (at_clock s.clock) (event script (Event.Apply number) s.course)
node_turn_at script number node s valid e =
    ap (λ (found : Option ℕ). option_and_then (λ n. option_map (at_clock s.clock) (event script (Event.Apply n) s.course)) found) (number_is script number node valid e)

-- ---- what stands beside a node in the world

found_beside : (nodes : List ScriptNode) (have : List NodeWorld) (number : ℕ) (m : ScriptNode) (has : NodeWorld) → are_distinct (names_in nodes) ≡ true → slice_get nodes number ≡ Some m
    → slice_get have number ≡ Some has → find (λ (p : ScriptNode × NodeWorld). bytes_eq m.name p.0.name) (zip nodes have) ≡ Some (m, has)
found_beside [] have number m has d e f = absurd (no_some m e)
found_beside (node ∷ more) [] number m has d e f = absurd (no_some has f)
found_beside (node ∷ more) (first ∷ others) zero m has d e f =
    let same = some_same node m e in
    cond-true (bytes_eq m.name node.name) (Some (node, first)) (find (λ (p : ScriptNode × NodeWorld). bytes_eq m.name p.0.name) (zip more others))
    (ap (λ (n : ScriptNode). bytes_eq m.name n.name) same ∙ own_name m.name)
    ∙ (λ i. Some (same i, some_same first has f i))
found_beside (node ∷ more) (first ∷ others) (suc number) m has d e f =
    cond-false (bytes_eq m.name node.name) (Some (node, first)) (find (λ (p : ScriptNode × NodeWorld). bytes_eq m.name p.0.name) (zip more others))
    (all_at (Differs node.name) more number m (others_differ node more d) e).1
    ∙ found_beside more others number m has (both_second _ _ d) e f

-- how many publications were sent to the node of a number
pub sent_at : (script : Script) (world : World) (number : ℕ) (node : ScriptNode) (has : NodeWorld) → IsScript script → slice_get script.nodes number ≡ Some node
    → slice_get world.nodes number ≡ Some has → sent_to script node.name world ≡ has.sent
sent_at script world number node has valid e f =
    ap (λ (found : Option (ScriptNode × NodeWorld)). unwrap_or (option_map (λ p. p.1.sent) found) 0) (found_beside script.nodes world.nodes number node has valid.nodes_distinct e f)
