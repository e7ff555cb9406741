-- Maps in byte order each of whose pairs meets a fact: such a map stays one where a pair is put in, taken out or left out.
use Rattle.std.specs.Prelude.{◌≡◌, ℕ, Bool, true, false, List, [], ◌∷◌, Option, Some, None, cond, filter, map, refl, IsTrue}
use Rattle.std.proofs.Common.{sym, ap, subst}
use Rattle.std.specs.Cmp.Derive.{both_true}
use Rattle.std.specs.Cmp.Lexicographic.{slice_cmp}
use Rattle.std.specs.List.{AllByRecursion, list_all}
use Rattle.std.specs.List.Sorted.{IsStrictlySortedBy}
use Rattle.std.specs.Map as entries
use Rattle.std.specs.BTreeMap as tree
use Rattle.std.specs.Ordering.{is_eq, match_ordering, nat_cmp}
use Rattle.std.specs.declared.cmp.Ordering.{Ordering}
use Rattle.std.specs.declared.cmp.Ordering.TheVariants.{Less, Equal, Greater}
use Rattle.std.proofs.lemmas.Bool.{and_parts, true≢false}
use Rattle.std.proofs.lemmas.Cmp.{nat_list_cmp_total, eq_by_cmp_equiv}
use Rattle.std.proofs.lemmas.List.Kept.{IsStrictlySortedBy-filter}
use Rattle.std.proofs.lemmas.Map.{lookup-none}
use Rattle.std.proofs.lemmas.Map.Entries.{none_past_head}
use Rattle.std.proofs.lemmas.Map.Keys.{IsDistinct-from_sorted}
use Rattle.plain_data.proofs.At.{in_order_empty, in_order_with, in_order_without}
use Rattle.plain_data.proofs.Lookups.{is_key, same_from_key}
use Rattle.plain_data.specs.Pairs.{InOrder, lookup, with, without}
use Rattle.report_law.specs.GoodForm.{are_listed}
use Rattle.report_law.proofs.Rising.{sorted_keys_rise}

-- ---- what holds of all

pub all_by : {A : Type 0} (P Q : A → Type 0) → ((a : A) → P a → Q a) → (xs : List A) → AllByRecursion P xs → AllByRecursion Q xs
all_by P Q f [] all = tt
all_by P Q f (a ∷ xs) all = (f a all.0, all_by P Q f xs all.1)

pub all_of_both : {A : Type 0} (P Q R : A → Type 0) → ((a : A) → P a → Q a → R a) → (xs : List A) → AllByRecursion P xs → AllByRecursion Q xs → AllByRecursion R xs
all_of_both P Q R f [] all more = tt
all_of_both P Q R f (a ∷ xs) all more = (f a all.0 more.0, all_of_both P Q R f xs all.1 more.1)

-- what a test finds of each, and what holds of each that a test finds
pub all_from_test : {A : Type 0} (test : A → Bool) (xs : List A) → list_all test xs ≡ true → AllByRecursion (λ a. test a ≡ true) xs
all_from_test test [] e = tt
all_from_test test (a ∷ xs) e = let parts = and_parts _ _ e in (parts.0, all_from_test test xs parts.1)

pub test_from_all : {A : Type 0} (P : A → Type 0) (test : A → Bool) → ((a : A) → P a → test a ≡ true) → (xs : List A) → AllByRecursion P xs → list_all test xs ≡ true
test_from_all P test f [] all = refl
test_from_all P test f (a ∷ xs) all = both_true (f a all.0) (test_from_all P test f xs all.1)

pub all_map : {A B : Type 0} (P : B → Type 0) (g : A → B) (xs : List A) → AllByRecursion (λ a. P (g a)) xs → AllByRecursion P (map g xs)
all_map P g [] all = tt
all_map P g (a ∷ xs) all = (all.0, all_map P g xs all.1)

kept_or_not : {A : Type 0} (P : A → Type 0) (b : Bool) (a : A) (xs : List A) → P a → AllByRecursion P xs → AllByRecursion P (cond b (a ∷ xs) xs)
kept_or_not P true a xs one rest = (one, rest)
kept_or_not P false a xs one rest = rest

pub all_filter : {A : Type 0} (P : A → Type 0) (test : A → Bool) (xs : List A) → AllByRecursion P xs → AllByRecursion P (filter test xs)
all_filter P test [] all = tt
all_filter P test (a ∷ xs) all = kept_or_not P (test a) a (filter test xs) all.0 (all_filter P test xs all.1)

-- ---- maps in order

-- each pair meets a fact, and the keys stand in byte order
pub record IsGoodMap {V : Type 0} (P : List ℕ × V → Type 0) (m : List (List ℕ × V)) : Type 0 where
  pub all : AllByRecursion P m
  pub order : InOrder m

-- what holds of a key with what is found at it, where anything is
abbrev pub FoundAt : {V : Type 0} → (List ℕ × V → Type 0) → List ℕ → Option V → Type 0
FoundAt P key None = Unit {0}
FoundAt P key (Some v) = P (key, v)

module _ {V : Type 0} (P : List ℕ × V → Type 0) where
  pub good_empty : IsGoodMap P []
  good_empty = record { all = tt; order = in_order_empty {V = V} [] refl }

  put_by : (k : List ℕ) (v : V) (e : List ℕ × V) (es more : List (List ℕ × V)) → P (k, v) → AllByRecursion P (e ∷ es) → AllByRecursion P more
      → (o : Ordering) → slice_cmp nat_cmp k e.0 ≡ o → AllByRecursion P (match_ordering o ((k, v) ∷ e ∷ es) ((e.0, v) ∷ es) (e ∷ more))
  put_by k v e es more one all rest Less same = (one, all)
  put_by k v e es more one all rest Equal same = (subst (λ n. P (n, v)) (same_from_key k e.0 (ap is_eq same)) one, all.1)
  put_by k v e es more one all rest Greater same = (all.0, rest)

  put_all : (k : List ℕ) (v : V) (es : List (List ℕ × V)) → P (k, v) → AllByRecursion P es → AllByRecursion P (with k v es)
  put_all k v [] one all = (one, tt)
  put_all k v (e ∷ es) one all = put_by k v e es (with k v es) one all (put_all k v es one all.1) (slice_cmp nat_cmp k e.0) refl

  pub good_put : (k : List ℕ) (v : V) (m : List (List ℕ × V)) → P (k, v) → IsGoodMap P m → IsGoodMap P (with k v m)
  good_put k v m one good = record { all = put_all k v m one good.all; order = in_order_with k v m (with k v m) good.order (λ _. refl) }

  take_by : (e : List ℕ × V) (es more : List (List ℕ × V)) → AllByRecursion P (e ∷ es) → AllByRecursion P more → (b : Bool) → AllByRecursion P (cond b es (e ∷ more))
  take_by e es more all rest true = all.1
  take_by e es more all rest false = (all.0, rest)

  take_all : (test : List ℕ → Bool) (es : List (List ℕ × V)) → AllByRecursion P es → AllByRecursion P (entries.remove_entry test es)
  take_all test [] all = tt
  take_all test (e ∷ es) all = take_by e es (entries.remove_entry test es) all (take_all test es all.1) (test e.0)

  pub good_take : (k : List ℕ) (m : List (List ℕ × V)) → IsGoodMap P m → IsGoodMap P (without k m)
  good_take k m good = record {
    all = take_all (tree.is_at (slice_cmp nat_cmp k)) m good.all;
    order = in_order_without k m (without k m) good.order (λ _. refl);
  }

  find_by : (k : List ℕ) (e : List ℕ × V) (o : Option V) → P e → FoundAt P k o → (b : Bool) → is_key k e.0 ≡ b → FoundAt P k (cond b (Some e.1) o)
  find_by k e o one rest true same = subst (λ n. P (n, e.1)) (sym (same_from_key k e.0 same)) one
  find_by k e o one rest false same = rest

  pub found_good : (k : List ℕ) (m : List (List ℕ × V)) → AllByRecursion P m → FoundAt P k (lookup k m)
  found_good k [] all = tt
  found_good k (e ∷ es) all = find_by k e (lookup k es) all.0 (found_good k es all.1) (is_key k e.0) refl

  own_found : (b : Bool) (k : List ℕ) (v : V) (o : Option V) → b ≡ true → FoundAt P k (cond b (Some v) o) → P (k, v)
  own_found true k v o e found = found
  own_found false k v o e found = absurd (true≢false (sym e))

  behind_found : (b : Bool) (k : List ℕ) (v : V) (o : Option V) → (b ≡ true → o ≡ None) → FoundAt P k (cond b (Some v) o) → FoundAt P k o
  behind_found true k v o none found = subst (FoundAt P k) (sym (none refl)) tt
  behind_found false k v o none found = found

  -- in order each pair is what is found at its key
  pub all_found : (m : List (List ℕ × V)) → InOrder m → ((k : List ℕ) → FoundAt P k (lookup k m)) → AllByRecursion P m
  unfolding IsStrictlySortedBy
  all_found [] order found = tt
  all_found (x ∷ m) order found =
      let equiv = eq_by_cmp_equiv nat_list_cmp_total in (
        own_found (is_key x.0 x.0) x.0 x.1 (lookup x.0 m) (equiv.refl x.0) (found x.0),
        all_found m order.1 (λ k. behind_found (is_key k x.0) k x.1 (lookup k m)
            (λ e. lookup-none (is_key k) m (none_past_head equiv k x m (IsDistinct-from_sorted _ _ order) e)) (found k)),
      )

-- ---- lists of their keys

keys_all : {V : Type 0} (test : List ℕ → Bool) (m : List (List ℕ × V)) → AllByRecursion (λ p. IsTrue (test p.0)) m → list_all test (entries.keys_of m) ≡ true
keys_all test [] all = refl
keys_all test (p ∷ m) all = both_true all.0 (keys_all test m all.1)

pub keys_listed : {V : Type 0} (test : List ℕ → Bool) (m : List (List ℕ × V)) → IsGoodMap (λ p. IsTrue (test p.0)) m → IsTrue (are_listed test (entries.keys_of m))
keys_listed test m good = both_true (keys_all test m good.all) (sorted_keys_rise (entries.keys_of m) good.order)

-- a fact that says more
pub good_by : {V : Type 0} (P Q : List ℕ × V → Type 0) → ((p : List ℕ × V) → P p → Q p) → (m : List (List ℕ × V)) → IsGoodMap P m → IsGoodMap Q m
good_by P Q f m good = record { all = all_by P Q f m good.all; order = good.order }

-- ---- filters of names and of pairs

keys_kept : {V : Type 0} (Q : List ℕ → Type 0) (test : List ℕ × V → Bool) (m : List (List ℕ × V)) → AllByRecursion Q (entries.keys_of m)
    → AllByRecursion Q (entries.keys_of (filter test m))
keys_kept Q test [] all = tt
keys_kept Q test (x ∷ m) all =
    let rest : AllByRecursion Q (entries.keys_of (filter test m)) = keys_kept Q test m all.1 in
    elim (test x) as (λ b. AllByRecursion Q (entries.keys_of (cond b (x ∷ filter test m) (filter test m)))) [
      | true ↦ (all.0, rest)
      | false ↦ rest
    ]

order_kept : {V : Type 0} (test : List ℕ × V → Bool) (m : List (List ℕ × V)) → InOrder m → InOrder (filter test m)
unfolding IsStrictlySortedBy
order_kept test [] order = tt
order_kept test (x ∷ m) order =
    let rest : InOrder (filter test m) = order_kept test m order.1 in
    elim (test x) as (λ b. InOrder (cond b (x ∷ filter test m) (filter test m))) [
      | true ↦ (keys_kept (λ y. slice_cmp nat_cmp x.0 y ≡ Less) test m order.0, rest)
      | false ↦ rest
    ]

pub good_filter : {V : Type 0} (P : List ℕ × V → Type 0) (test : List ℕ × V → Bool) (m : List (List ℕ × V)) → IsGoodMap P m → IsGoodMap P (filter test m)
good_filter P test m good = record { all = all_filter P test m good.all; order = order_kept test m good.order }

names_all : {A : Type 0} (test : A → Bool) (keep : A → Bool) (xs : List A) → list_all test xs ≡ true → list_all test (filter keep xs) ≡ true
names_all test keep xs e =
    test_from_all (λ a. test a ≡ true) test (λ a h. h) (filter keep xs) (all_filter (λ a. test a ≡ true) keep xs (all_from_test test xs e))

-- some of the keys of a map
pub some_listed : {V : Type 0} (test keep : List ℕ → Bool) (m : List (List ℕ × V)) → IsGoodMap (λ p. IsTrue (test p.0)) m
    → IsTrue (are_listed test (filter keep (entries.keys_of m)))
some_listed test keep m good =
    both_true (names_all test keep (entries.keys_of m) (keys_all test m good.all))
    (sorted_keys_rise (filter keep (entries.keys_of m)) (IsStrictlySortedBy-filter (slice_cmp nat_cmp) keep (entries.keys_of m) good.order))
