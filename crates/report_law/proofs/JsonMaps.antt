-- A map as a JSON object: of keys that rise in byte order the members are put in behind one another, so that the text
-- tells the pairs in their order.
use Rattle.std.specs.Prelude.{◌≡◌, ℕ, Bool, true, false, List, [], ◌∷◌, ◌++◌, refl, IsTrue}
use Rattle.std.proofs.Common.{sym, ap, ◌∙◌}
use Rattle.std.specs.Map.{keys_of}
use Rattle.std.specs.Ordering.{is_lt, match_ordering, ordering_reverse}
use Rattle.std.specs.declared.cmp.Ordering.{Ordering}
use Rattle.std.specs.declared.cmp.Ordering.TheVariants.{Less, Equal, Greater}
use Rattle.std.specs.List.{AllByRecursion}
use Rattle.std.proofs.lemmas.Bool.{and_parts}
use Rattle.std.proofs.lemmas.List.{append_assoc}
use Rattle.std.proofs.lemmas.Cmp.{nat_list_cmp_total}
use Rattle.std.specs.Cmp.Derive.{both_true}
use Rattle.json.specs.Print.{quoted}
use Rattle.serde_json.specs.Data.{Data, object, Members, no_members, member, put}
use Rattle.serde_json.specs.Written.{comma_if, compact_text, members_text}
use Rattle.meta_state.specs.Json.{with_members}
use Rattle.report_law.specs.GoodForm.{is_name_before}
use Rattle.session_law.specs.Lawful.{is_rising, rises_from}
use Rattle.report_law.proofs.JsonData.{DataTells, all_any, data_of_part}
use Rattle.report_law.proofs.JsonLists.{NoDigit, listed, listed_tell}
use Rattle.report_law.proofs.JsonStrings.{string_tells}
use Rattle.report_law.proofs.Telling.{Same, Tells, part, same_text, so_good, then, word_then}

less_is : (o : Ordering) → IsTrue (is_lt o) → o ≡ Less
less_is Less e = refl
less_is Equal e = absurd cc
less_is Greater e = absurd cc

-- keys that rise from one rise from it without their first too
rises_past : (l k : List ℕ) (ks : List (List ℕ)) → IsTrue (rises_from is_name_before l (k ∷ ks)) → IsTrue (rises_from is_name_before l ks)
rises_past l k [] rises = refl
rises_past l k (m ∷ ks) rises =
    let one = and_parts _ _ rises in
    let two = and_parts _ _ one.1 in
    both_true (ap is_lt (nat_list_cmp_total.trans l k m (less_is _ one.0) (less_is _ two.0))) two.1

-- a member whose key comes later is put in behind the first
put_behind : (l k : List ℕ) (d e : Data) (ms : Members) → IsTrue (is_name_before l k) → put k d (member l e ms) ≡ member l e (put k d ms)
put_behind l k d e ms less =
    ap (λ o. match_ordering o (member k d (member l e ms)) (member l d ms) (member l e (put k d ms)))
    (nat_list_cmp_total.antisymm k l ∙ ap ordering_reverse (less_is _ less))

rising_rest : (k : List ℕ) (ks : List (List ℕ)) → IsTrue (rises_from is_name_before k ks) → IsTrue (is_rising is_name_before ks)
rising_rest k [] rises = refl
rising_rest k (l ∷ ks) rises = (and_parts _ _ rises).1

-- keys in byte order, and good pairs
pub record IsMapOf {V : Type 0} (Good : List ℕ × V → Type 0) (pairs : List (List ℕ × V)) : Type 0 where
  pub rising : IsTrue (is_rising is_name_before (keys_of pairs))
  pub each : AllByRecursion Good pairs

pub map_of_any : {V : Type 0} (pairs : List (List ℕ × V)) → IsTrue (is_rising is_name_before (keys_of pairs)) → IsMapOf (λ p. Unit {0}) pairs
map_of_any pairs rising = record { rising = rising; each = all_any pairs }

module _ {V : Type 0} (data_of : V → Data) where
  -- and so are the members of a map whose keys all come later
  behind_first : (l : List ℕ) (e : Data) (pairs : List (List ℕ × V)) (ms : Members) → IsTrue (rises_from is_name_before l (keys_of pairs))
      → with_members data_of pairs (member l e ms) ≡ member l e (with_members data_of pairs ms)
  behind_first l e [] ms rises = refl
  behind_first l e (p ∷ pairs) ms rises =
      ap (with_members data_of pairs) (put_behind l p.0 (data_of p.1) e ms (and_parts _ _ rises).0)
      ∙ behind_first l e pairs (put p.0 (data_of p.1) ms) (rises_past l p.0 (keys_of pairs) rises)

  -- the pairs as members in their own order
  abbrev in_order : List (List ℕ × V) → Members
  in_order [] = no_members
  in_order (p ∷ pairs) = member p.0 (data_of p.1) (in_order pairs)

  with_members_in_order : (pairs : List (List ℕ × V)) → IsTrue (is_rising is_name_before (keys_of pairs)) → with_members data_of pairs no_members ≡ in_order pairs
  with_members_in_order [] rises = refl
  with_members_in_order (p ∷ pairs) rises =
      behind_first p.0 (data_of p.1) pairs no_members rises
      ∙ ap (member p.0 (data_of p.1)) (with_members_in_order pairs (rising_rest p.0 (keys_of pairs) rises))

  -- ---- what the texts tell

  abbrev pair_text : List ℕ × V → List ℕ
  pair_text p = quoted p.0 ++ 58 ∷ compact_text (data_of p.1)

  members_listed : (later : Bool) (pairs : List (List ℕ × V)) → members_text later (in_order pairs) ≡ listed pair_text 125 later pairs
  members_listed later [] = refl
  members_listed later (p ∷ pairs) =
      ap (λ t. comma_if later ++ t) (sym (append_assoc (quoted p.0) (58 ∷ compact_text (data_of p.1)) (members_text true (in_order pairs)))
      ∙ ap (λ t. pair_text p ++ t) (members_listed true pairs))

  pair_tells : {Good : List ℕ × V → Type 0} {K : List ℕ × V → List ℕ × V → Type 0} → DataTells Good (λ p. data_of p.1) K
      → ((p q : List ℕ × V) → Good p → Good q → p.0 ≡ q.0 → K p q → p ≡ q) → Tells Good pair_text Same NoDigit
  pair_tells value fixes =
      so_good (then (part (λ p. p.0) string_tells (λ _ _. tt)) (λ p u _ _. tt) (word_then (58 ∷ []) value.text))
      (λ p q good fine k. fixes p q good fine k.0 k.1)

  -- a map whose pairs are fixed by their keys and by what the texts of their values tell
  pub map_tells : {Good : List ℕ × V → Type 0} {K : List ℕ × V → List ℕ × V → Type 0} → DataTells Good (λ p. data_of p.1) K
      → ((p q : List ℕ × V) → Good p → Good q → p.0 ≡ q.0 → K p q → p ≡ q) → DataTells (IsMapOf Good) (λ pairs. object (with_members data_of pairs no_members)) Same
  map_tells value fixes = record {
    text =
        let members = listed_tell 125 (pair_tells value fixes) (λ p u v. refl) refl refl 123 in
        same_text (part (λ pairs. pairs) members (λ pairs good. good.each))
        (λ pairs good. ap (λ t. 123 ∷ t) (ap (members_text false) (with_members_in_order pairs good.rising) ∙ members_listed false pairs));
  }

-- a map whose values are told by their texts
pub values_tell : {V : Type 0} {Fit : V → Type 0} {data_of : V → Data} → DataTells Fit data_of Same
    → DataTells (IsMapOf (λ p. Fit p.1)) (λ pairs. object (with_members data_of pairs no_members)) Same
values_tell value = map_tells _ (data_of_part (λ p. p.1) value (λ p good. good)) (λ p q _ _ key same i. (key i, same i))
