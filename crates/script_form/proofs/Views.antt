-- What a list's values and an object's members say, one by one.
use Rattle.std.proofs.Common.{◌≡◌, ℕ, List, [], ◌∷◌, Some, None, length, refl, ap, arith}
use Rattle.std.proofs.lemmas.Grind.{common_steps}
use Rattle.std.specs.Prelude.{String, string_bytes, bytes_eq, map, ◌||◌, Bool, slice_get}
use Rattle.std.specs.Borrow.{Bor}
use Rattle.std.specs.List.{list_all, list_any}
use Rattle.std.specs.Map.{keys_of}
use Rattle.std.specs.declared.alloc.Global.{Global}
use Rattle.serde_json.specs.Data.{Data}
use Rattle.serde_json.specs.View.{view, items_of, items_view, members_view}
use Rattle.serde_json.specs.declared.value.Value.{Value}
use Rattle.script_form.specs.Parts.{items_list, are_known}
use Rattle.script_form.specs.Predicates.{only_of}

items_list-items_of : (ds : List Data) → items_list (items_of ds) ≡ ds
items_list-items_of [] = refl
items_list-items_of (d ∷ ds) = ap (λ (es : List Data). d ∷ es) (items_list-items_of ds)

pub items_list_view : (values : List Value) → items_list (items_view values) ≡ map view values
items_list_view values = items_list-items_of (map view values)

list_any-map : {A B : Type 0} (test : B → Bool) (f : A → B) (xs : List A) → list_any test (map f xs) ≡ list_any (λ a. test (f a)) xs
list_any-map test f [] = refl
list_any-map test f (x ∷ xs) = ap (λ (b : Bool). test (f x) || b) (list_any-map test f xs)

pub known_keys : (known : List (Bor (List ℕ))) (members : List (String Global × Value))
    → are_known (map (λ k. k.now) known) (members_view members) ≡ list_all (λ key. list_any (λ name. bytes_eq (string_bytes key) name.now) known) (keys_of members)
known_keys known [] = refl
known_keys known (m ∷ ms) = rw (list_any-map (bytes_eq (string_bytes m.0)) (λ (k : Bor (List ℕ)). k.now) known, known_keys known ms) refl

-- an object of one member shows that member
pub only_member : (members : List (String Global × Value)) (key : String Global) (value : Value) → length members ≡ 1 → slice_get members 0 ≡ Some (key, value) → only_of (members_view members) ≡ Some (string_bytes key, view value)
only_member (m ∷ []) key value one first = grind (arith, common_steps)
only_member [] key value one first = absurd cc
only_member (_ ∷ _ ∷ _) key value one first = absurd (omega (arith, one))

pub no_only_member : (members : List (String Global × Value)) → (length members ≡ 1 → ⊥) → only_of (members_view members) ≡ None
no_only_member [] many = refl
no_only_member (m ∷ []) many = absurd (many refl)
no_only_member (_ ∷ _ ∷ _) many = refl
