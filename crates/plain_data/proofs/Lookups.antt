-- What a look-up finds in a map that was changed or filtered, and that two maps in order with the same look-ups have the same keys.
use Rattle.std.proofs.Common.{◌≡◌, ℕ, Bool, true, false, cond, List, [], ◌∷◌, Some, None, Option, refl, sym, ◌∙◌, ap}
use Rattle.std.specs.declared.cmp.Ordering.{Ordering}
use Rattle.std.specs.declared.cmp.Ordering.TheVariants.{Less, Equal, Greater}
use Rattle.std.specs.Ordering.{nat_cmp, is_eq, eq_by_cmp, match_ordering}
use Rattle.std.specs.Option.{is_some}
use Rattle.std.specs.Cmp.{IsEquivalence, Equal-is}
use Rattle.std.specs.Cmp.Lexicographic.{slice_cmp}
use Rattle.std.specs.BTreeMap.{is_at}
use Rattle.std.specs.List.{AllByRecursion, filter}
use Rattle.std.specs.List.Sorted.{IsStrictlySortedBy}
use Rattle.std.specs.Map.{keys_of}
use Rattle.std.proofs.lemmas.Bool.{false_from_ne_true}
use Rattle.std.proofs.lemmas.Cmp.{nat_list_cmp_total, eq_by_cmp_equiv}
use Rattle.std.proofs.lemmas.Map.{lookup-remove_entry}
use Rattle.std.proofs.lemmas.Map.Entries.{option_filter, lookup-filter-values}
use Rattle.std.proofs.lemmas.Map.Keys.{IsDistinct-from_sorted}
use Rattle.std.proofs.lemmas.Map.Lookups.{btree_set_from_contains, exact_bytes}
use Rattle.std.proofs.lemmas.Map.Made.{is_some-lookup}
use Rattle.plain_data.specs.Pairs.{lookup, with, without, InOrder}

-- whether two keys are the same, as a look-up compares them
abbrev pub is_key : List ℕ → List ℕ → Bool
is_key k q = is_at (slice_cmp nat_cmp k) q

laws : IsEquivalence (eq_by_cmp (slice_cmp nat_cmp))
laws = eq_by_cmp_equiv nat_list_cmp_total

pub same_from_key : (k q : List ℕ) → is_key k q ≡ true → k ≡ q
same_from_key k q e = exact_bytes k q ((Equal-is (slice_cmp nat_cmp k q)).0 e)

pub key_flipped : (k q : List ℕ) → is_key k q ≡ is_key q k
key_flipped k q = laws.symm k q

pub differ_from_key : (k q : List ℕ) → is_key k q ≡ false → k ≡ q → ⊥
differ_from_key k q e s =
    let same : is_key k q ≡ true = ap (is_key k) (sym s) ∙ laws.refl k in
    cc

pub key_from_differ : (k q : List ℕ) → (q ≡ k → ⊥) → is_key k q ≡ false
key_from_differ k q other = false_from_ne_true (is_key k q) (λ e. other (sym (same_from_key k q e)))

not_equal : (r : Ordering) → r ≡ Greater → is_eq r ≡ false
not_equal r e = ap is_eq e

module _ {V : Type 0} where
  -- the value of a key that is put in is found, and no other
  same_twice : (b c : Bool) (v w : Option V) (l : Option V) → b ≡ c → cond b v l ≡ cond c v (cond b w l)
  same_twice true true v w l e = refl
  same_twice false false v w l e = refl
  same_twice true false v w l e = absurd cc
  same_twice false true v w l e = absurd cc

  apart : (b c : Bool) (v w l m : Option V) → (b ≡ true → c ≡ false) → m ≡ cond c v l → cond b w m ≡ cond c v (cond b w l)
  apart true true v w l m h e = absurd (let f : true ≡ false = h refl in cc)
  apart true false v w l m h e = refl
  apart false c v w l m h e = e

  pub lookup-with : (k : List ℕ) (v : V) (q : List ℕ) (m : List (List ℕ × V)) → lookup q (with k v m) ≡ cond (is_key k q) (Some v) (lookup q m)
  lookup-with k v q [] = ap (λ (b : Bool). cond b (Some v) None) (key_flipped q k)
  lookup-with k v q (x ∷ m) =
      let rest : lookup q (with k v m) ≡ cond (is_key k q) (Some v) (lookup q m) = lookup-with k v q m in
      let by : (c : Ordering) → slice_cmp nat_cmp k x.0 ≡ c → lookup q (match_ordering c ((k, v) ∷ x ∷ m) ((x.0, v) ∷ m) (x ∷ with k v m)) ≡ cond (is_key k q) (Some v) (lookup q (x ∷ m)) =
      λ c. elim c as (λ c. slice_cmp nat_cmp k x.0 ≡ c → lookup q (match_ordering c ((k, v) ∷ x ∷ m) ((x.0, v) ∷ m) (x ∷ with k v m)) ≡ cond (is_key k q) (Some v) (lookup q (x ∷ m))) [
        | Less ↦ λ h. ap (λ (b : Bool). cond b (Some v) (lookup q (x ∷ m))) (key_flipped q k)
        | Equal ↦ λ h. same_twice (is_key q x.0) (is_key k q) (Some v) (Some x.1) (lookup q m) (ap (is_key q) (sym (exact_bytes k x.0 h)) ∙ key_flipped q k)
        | Greater ↦ λ h. apart (is_key q x.0) (is_key k q) (Some v) (Some x.1) (lookup q m) (lookup q (with k v m)) (λ e. not_equal _ (ap (slice_cmp nat_cmp k) (same_from_key q x.0 e) ∙ h)) rest
      ] in
      by (slice_cmp nat_cmp k x.0) refl

  -- a key that is taken out is found no more, and each other as before
  pub lookup-without : (k q : List ℕ) (m : List (List ℕ × V)) → InOrder m → lookup q (without k m) ≡ cond (is_key k q) None (lookup q m)
  lookup-without k q m s = lookup-remove_entry laws (is_at (slice_cmp nat_cmp k)) (λ x y e. laws.congr k x y e) q m (IsDistinct-from_sorted _ _ s)

  -- the same of other keys alone, whatever the order
  pub lookup-without_other : (k q : List ℕ) (m : List (List ℕ × V)) → is_key k q ≡ false → lookup q (without k m) ≡ lookup q m
  lookup-without_other k q [] e = refl
  lookup-without_other k q (x ∷ m) e =
      let rest : lookup q (without k m) ≡ lookup q m = lookup-without_other k q m e in
      let by : (b : Bool) → is_key k x.0 ≡ b → lookup q (cond b m (x ∷ without k m)) ≡ lookup q (x ∷ m) =
      λ b. elim b as (λ b. is_key k x.0 ≡ b → lookup q (cond b m (x ∷ without k m)) ≡ lookup q (x ∷ m)) [
        | true ↦ λ h. sym (ap (λ (b : Bool). cond b (Some x.1) (lookup q m)) (ap (is_key q) (sym (same_from_key k x.0 h)) ∙ (key_flipped q k ∙ e)))
        | false ↦ λ h. ap (λ (l : Option V). cond (is_key q x.0) (Some x.1) l) rest
      ] in
      by (is_key k x.0) refl

  -- ---- a filter by the values

  all_filtered : (Q : List ℕ → Type 0) (test : V → Bool) (m : List (List ℕ × V)) → AllByRecursion Q (keys_of m) → AllByRecursion Q (keys_of (filter (λ p. test p.1) m))
  all_filtered Q test [] a = tt
  all_filtered Q test (x ∷ m) a =
      let rest : AllByRecursion Q (keys_of (filter (λ p. test p.1) m)) = all_filtered Q test m a.1 in
      elim (test x.1) as (λ b. AllByRecursion Q (keys_of (cond b (x ∷ filter (λ p. test p.1) m) (filter (λ p. test p.1) m)))) [
        | true ↦ (a.0, rest)
        | false ↦ rest
      ]

  pub in_order_filtered : (test : V → Bool) (m : List (List ℕ × V)) → InOrder m → InOrder (filter (λ p. test p.1) m)
  unfolding IsStrictlySortedBy
  in_order_filtered test [] s = tt
  in_order_filtered test (x ∷ m) s =
      let rest : InOrder (filter (λ p. test p.1) m) = in_order_filtered test m s.1 in
      elim (test x.1) as (λ b. InOrder (cond b (x ∷ filter (λ p. test p.1) m) (filter (λ p. test p.1) m))) [
        | true ↦ (all_filtered (λ y. slice_cmp nat_cmp x.0 y ≡ Less) test m s.0, rest)
        | false ↦ rest
      ]

  pub lookup-filtered : (test : V → Bool) (q : List ℕ) (m : List (List ℕ × V)) → InOrder m → lookup q (filter (λ p. test p.1) m) ≡ option_filter test (lookup q m)
  lookup-filtered test q m s = lookup-filter-values laws test q m (IsDistinct-from_sorted _ _ s)

-- maps in order that have the same keys by look-up have the same list of keys
pub same_keys : {V W : Type 0} (m : List (List ℕ × V)) (n : List (List ℕ × W)) → InOrder m → InOrder n
    → ((q : List ℕ) → is_some (lookup q m) ≡ is_some (lookup q n)) → keys_of m ≡ keys_of n
same_keys m n s t e = btree_set_from_contains nat_list_cmp_total (record { keys = keys_of m }) (record { keys = keys_of n }) s t
    (λ q. sym (is_some-lookup (is_at (slice_cmp nat_cmp q)) m) ∙ (e q ∙ is_some-lookup (is_at (slice_cmp nat_cmp q)) n)) exact_bytes
