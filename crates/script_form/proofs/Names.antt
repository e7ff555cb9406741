-- Names stay apart as one more is added, and what is found by its name is there.
use Rattle.std.proofs.Common.{◌≡◌, ℕ, ◌<◌, true, false, List, [], ◌∷◌, ◌++◌, Some, length, refl, arith, ap, sym, ◌∙◌}
use Rattle.std.specs.Prelude.{Bool, bytes_eq, map}
use Rattle.std.specs.List.{list_any}
use Rattle.std.specs.Bool.{beq}
use Rattle.std.specs.Cmp.Lexicographic.{nat_list_eq_equiv}
use Rattle.std.proofs.lemmas.Grind.{common_steps}
use Rattle.std.proofs.lemmas.List.Folds.{list_all-append}
use Rattle.scripts.specs.declared.whole_script.ScriptNode.{ScriptNode}
use Rattle.scripts.specs.Names.{are_distinct}
use Rattle.scripts.specs.Scripts.{has_master}
use Rattle.scripts.specs.ValidSteps.{are_asked, is_node_among, is_node_so}
use Rattle.script_form.specs.Naming.{AreNamed, IsNewTo}
use Rattle.script_form.specs.Nodes.{AreLed, find_node, is_fit_first, is_led, node_name}

bytes_eq_symm : (a b : List ℕ) → bytes_eq a b ≡ bytes_eq b a
bytes_eq_symm a b = nat_list_eq_equiv.symm a b

-- what was met once and isn't the new one isn't met after it either
list_any_push : (first name : List ℕ) (names : List (List ℕ)) → list_any (bytes_eq first) names ≡ false → bytes_eq name first ≡ false → list_any (bytes_eq first) (names ++ name ∷ []) ≡ false
list_any_push first name [] none other = rw (bytes_eq_symm first name, other) refl
list_any_push first name (second ∷ names) none other = grind (arith, common_steps, list_any_push first name names)

are_distinct_push : (names : List (List ℕ)) (name : List ℕ) → are_distinct names ≡ true → list_any (bytes_eq name) names ≡ false → are_distinct (names ++ name ∷ []) ≡ true
are_distinct_push [] name distinct none = refl
are_distinct_push (first ∷ names) name distinct none = grind (arith, common_steps, list_any_push first name names, are_distinct_push names name)

map_push : {A : Type 0} (name : A → List ℕ) (before : List A) (a : A) → map name (before ++ a ∷ []) ≡ map name before ++ name a ∷ []
map_push name [] a = refl
map_push name (first ∷ before) a = ap (λ (names : List (List ℕ)). name first ∷ names) (map_push name before a)

list_any_names : {A : Type 0} (name : A → List ℕ) (all : List A) (text : List ℕ) → list_any (λ b. bytes_eq text (name b)) all ≡ list_any (bytes_eq text) (map name all)
list_any_names name [] text = refl
list_any_names name (a ∷ all) text = rw (list_any_names name all text) refl

pub names_push : {A : Type 0} (name : A → List ℕ) (before : List A) (a : A) → AreNamed name before → IsNewTo name before a → AreNamed name (before ++ a ∷ [])
names_push name before a all new = record {
  named = grind (arith, common_steps, list_all-append, all.named, new.named);
  distinct = rw (map_push name before a) (are_distinct_push (map name before) (name a) all.distinct (sym (list_any_names name before (name a)) ∙ new.apart));
}

is_led_push : (before : List ScriptNode) (node : ScriptNode) → is_led before ≡ true → is_fit_first before node ≡ true → is_led (before ++ node ∷ []) ≡ true
is_led_push [] node led fit = fit
is_led_push (first ∷ before) node led fit = led

pub led_push : (before : List ScriptNode) (node : ScriptNode) → AreLed before → IsNewTo node_name before node → is_fit_first before node ≡ true → AreLed (before ++ node ∷ [])
led_push before node all new fit = record { names = names_push node_name before node all.names new; led = is_led_push before node all.led fit }

pub led_nodes : (nodes : List ScriptNode) → 0 < length nodes → is_led nodes ≡ true → has_master nodes ≡ true
led_nodes [] some led = absurd (omega (arith, some))
led_nodes (node ∷ nodes) some led = led

bytes_eq_refl : (a : List ℕ) → bytes_eq a a ≡ true
bytes_eq_refl a = nat_list_eq_equiv.refl a

beq_refl : (b : Bool) → beq b b ≡ true
beq_refl true = refl
beq_refl false = refl

pub is_node_found : (nodes : List ScriptNode) (name : List ℕ) (node : ScriptNode) → find_node nodes name ≡ Some node → is_node_among nodes node.name ≡ true
is_node_found [] name node found = absurd cc
is_node_found (first ∷ nodes) name node found = grind (arith, common_steps, is_node_found nodes name node, bytes_eq_refl)

pub is_node_so_found : (nodes : List ScriptNode) (name : List ℕ) (node : ScriptNode) → find_node nodes name ≡ Some node → is_node_so nodes node.name node.eligible ≡ true
is_node_so_found [] name node found = absurd cc
is_node_so_found (first ∷ nodes) name node found = grind (arith, common_steps, is_node_so_found nodes name node, bytes_eq_refl, beq_refl)

pub are_asked_push : (nodes : List ScriptNode) (before : List (List ℕ)) (name : List ℕ) → are_asked nodes before ≡ true → is_node_among nodes name ≡ true → list_any (bytes_eq name) before ≡ false → are_asked nodes (before ++ name ∷ []) ≡ true
are_asked_push nodes before name asked known apart = grind (arith, common_steps, list_all-append, are_distinct_push before name)
