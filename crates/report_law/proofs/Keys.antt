-- A set of the keys so far tells of the next one whether it is new.
use Rattle.std.specs.Prelude.{◌≡◌, ℕ, ◌==◌, ◌&&◌, ◌||◌, Bool, true, false, bytes_eq, cond, map, not, List, [], ◌∷◌, refl}
use Rattle.std.proofs.Common.{arith, sym, ap, ◌∙◌}
use Rattle.std.proofs.lemmas.Grind.{common_steps}
use Rattle.std.specs.List.{list_all, list_any}
use Rattle.std.proofs.lemmas.Map.Text.{is_eq-slice_cmp}
use Rattle.std.specs.Cmp.Lexicographic.{slice_cmp}
use Rattle.std.specs.declared.cmp.Ordering.{Ordering}
use Rattle.std.specs.declared.cmp.Ordering.TheVariants.{Less, Equal, Greater}
use Rattle.std.specs.Ordering.{eq_by_cmp, is_eq, nat_cmp, ordering_then}
use Rattle.std.specs.BTreeSet.{BTreeSet, contains, Updates}
use Rattle.scripts.specs.Names.{are_distinct}
use Rattle.session_law.specs.declared.batches.Entry.{Entry}
use Rattle.session_law.specs.Histories.{is_same_task}
use Rattle.report_law.specs.Apart.{are_apart_by}
use Rattle.report_law.specs.GoodForm.{are_apart, entry_key}

one_new : (same has any rest new : Bool) → new ≡ cond same true has → (not new && (not any && rest)) ≡ (not (same || any) && (not has && rest))
one_new same has any rest new e = grind (arith, common_steps)

one_step : (any apart has rest : Bool) → has ≡ false → ((not any && apart) && (not has && rest)) ≡ (apart && (not any && rest))
one_step any apart has rest e = grind (arith, common_steps)

one_known : (any apart has rest : Bool) → has ≡ true → ((not any && apart) && (not has && rest)) ≡ false
one_known any apart has rest e = grind (arith, common_steps)

module _ {K : Type 0} (cmp : K → K → Ordering) where
  -- none of these keys is in a set
  abbrev pub are_new : BTreeSet K → List K → Bool
  are_new seen keys = list_all (λ key. not (contains cmp seen key)) keys

  -- keys are apart, and none of them is in a set
  abbrev pub are_apart_and_new : BTreeSet K → List K → Bool
  are_apart_and_new seen keys = are_apart_by (eq_by_cmp cmp) keys && are_new seen keys

  new_after : (seen more : BTreeSet K) (key : K) → Updates cmp seen more key true → (keys : List K)
      → are_new more keys ≡ (not (list_any (eq_by_cmp cmp key) keys) && are_new seen keys)
  new_after seen more key updated [] = refl
  new_after seen more key updated (next ∷ keys) =
      ap (λ rest. not (contains cmp more next) && rest) (new_after seen more key updated keys)
      ∙ one_new (eq_by_cmp cmp key next) (contains cmp seen next) (list_any (eq_by_cmp cmp key) keys) (are_new seen keys) (contains cmp more next) (updated.0 next)

  -- a key that is new joins the set
  pub one_joins : (seen more : BTreeSet K) (key : K) → Updates cmp seen more key true → (keys : List K) → contains cmp seen key ≡ false
      → are_apart_and_new seen (key ∷ keys) ≡ are_apart_and_new more keys
  one_joins seen more key updated keys new =
      one_step (list_any (eq_by_cmp cmp key) keys) (are_apart_by (eq_by_cmp cmp) keys) (contains cmp seen key) (are_new seen keys) new
      ∙ ap (λ rest. are_apart_by (eq_by_cmp cmp) keys && rest) (sym (new_after seen more key updated keys))

  -- a key that is known isn't apart
  pub one_stands_twice : (seen : BTreeSet K) (key : K) (keys : List K) → contains cmp seen key ≡ true → are_apart_and_new seen (key ∷ keys) ≡ false
  one_stands_twice seen key keys known =
      one_known (list_any (eq_by_cmp cmp key) keys) (are_apart_by (eq_by_cmp cmp) keys) (contains cmp seen key) (are_new seen keys) known

  none_new : (seen : BTreeSet K) (keys : List K) → seen.keys ≡ [] → are_new seen keys ≡ true
  none_new seen [] empty = refl
  none_new seen (key ∷ keys) empty = grind (arith, common_steps, none_new seen keys, empty)

  -- before the first key
  pub none_seen : (seen : BTreeSet K) (keys : List K) → seen.keys ≡ [] → are_apart_and_new seen keys ≡ are_apart_by (eq_by_cmp cmp) keys
  none_seen seen keys empty = grind (arith, common_steps, none_new seen keys, empty)

-- ---- the keys of entries, and names

abbrev pair_cmp : ℕ × ℕ → ℕ × ℕ → Ordering
pair_cmp a b = ordering_then (nat_cmp a.0 b.0) (nat_cmp a.1 b.1)

then_equal : (a b : Ordering) → is_eq (ordering_then a b) ≡ (is_eq a && is_eq b)
then_equal Less b = refl
then_equal Equal b = refl
then_equal Greater b = refl

any_by_keys : {K X : Type 0} (eq : K → K → Bool) (same : X → X → Bool) (key : X → K) → ((a b : X) → eq (key a) (key b) ≡ same a b) → (x : X) (xs : List X)
    → list_any (eq (key x)) (map key xs) ≡ list_any (same x) xs
any_by_keys eq same key agree x [] = refl
any_by_keys eq same key agree x (y ∷ ys) = λ i. agree x y i || any_by_keys eq same key agree x ys i

apart_by_keys : {K X : Type 0} (eq : K → K → Bool) (same : X → X → Bool) (key : X → K) → ((a b : X) → eq (key a) (key b) ≡ same a b) → (xs : List X)
    → are_apart_by eq (map key xs) ≡ are_apart_by same xs
apart_by_keys eq same key agree [] = refl
apart_by_keys eq same key agree (x ∷ xs) = λ i. not (any_by_keys eq same key agree x xs i) && apart_by_keys eq same key agree xs i

nat_ties : (a b : ℕ) → is_eq (nat_cmp a b) ≡ (a == b)
nat_ties a b = grind (arith, common_steps)

same_key : (a b : Entry) → eq_by_cmp pair_cmp (entry_key a) (entry_key b) ≡ is_same_task a b
same_key a b = then_equal (nat_cmp a.client b.client) (nat_cmp a.step b.step) ∙ (λ i. nat_ties a.client b.client i && nat_ties a.step b.step i)

-- no two pairs are equal, as a set of them tells
abbrev pub apart_by_pairs : List (ℕ × ℕ) → Bool
apart_by_pairs keys = are_apart_by (eq_by_cmp (λ a b. ordering_then (nat_cmp a.0 b.0) (nat_cmp a.1 b.1))) keys

pub entries_by_keys : (entries : List Entry) → apart_by_pairs (map entry_key entries) ≡ are_apart entries
entries_by_keys entries = apart_by_keys (eq_by_cmp pair_cmp) is_same_task entry_key same_key entries

any_by_order : (name : List ℕ) (names : List (List ℕ)) → list_any (eq_by_cmp (slice_cmp nat_cmp) name) names ≡ list_any (bytes_eq name) names
any_by_order name [] = refl
any_by_order name (next ∷ names) = λ i. is_eq-slice_cmp name next i || any_by_order name names i

pub names_by_order : (names : List (List ℕ)) → are_apart_by (eq_by_cmp (slice_cmp nat_cmp)) names ≡ are_distinct names
names_by_order [] = refl
names_by_order (name ∷ names) = λ i. not (any_by_order name names i) && names_by_order names i
