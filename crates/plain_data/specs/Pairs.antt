-- A map as the list of its pairs, in byte order of their keys: the words by which every definition reads and
-- changes maps. A set of names is the map of those names to nothing.
use Rattle.std.specs.Prelude.{◌≡◌, ℕ, Bool, true, ◌==◌, ◌&&◌, List, Option, refl}
use Rattle.std.proofs.Common.{ap}
use Rattle.std.specs.Ordering.{nat_cmp}
use Rattle.std.specs.Bool.{Decides}
use Rattle.std.specs.Cmp.{IsEquivalence, IsPartialEquivalence, on_per, and_per, on_equiv, and_equiv, partial_equiv_from_equiv}
use Rattle.std.specs.List.Sorted.{IsStrictlySortedBy}
use Rattle.std.specs.Cmp.Lexicographic.{pointwise, slice_cmp, lists_per, lists_equiv, pointwise_decides, bytes_decides, nat_list_eq_equiv}
use Rattle.std.specs.BTreeMap as tree
use Rattle.std.specs.Map as entries
use Rattle.std.proofs.lemmas.Bool.Decides.{Decides-and, Decides-like}
use denote.Ref.{Bor}

-- the value at a key
abbrev pub lookup : {V : Type 0} → List ℕ → List (List ℕ × V) → Option V
lookup key pairs = entries.lookup (tree.is_at (slice_cmp nat_cmp key)) pairs

-- the map with a value at a key, in place of the one that may stand there
abbrev pub with : {V : Type 0} → List ℕ → V → List (List ℕ × V) → List (List ℕ × V)
with key value pairs = tree.insert_entry (slice_cmp nat_cmp) pairs key value

-- the map without a key
abbrev pub without : {V : Type 0} → List ℕ → List (List ℕ × V) → List (List ℕ × V)
without key pairs = entries.remove_entry (tree.is_at (slice_cmp nat_cmp key)) pairs

-- the keys stand in byte order, each once
abbrev pub InOrder : {V : Type 0} → List (List ℕ × V) → Type 0
InOrder pairs = IsStrictlySortedBy (slice_cmp nat_cmp) (entries.keys_of pairs)

-- whether two maps have the same keys, with values that a test takes for equal
abbrev pub pairs_eq : {V : Type 0} → (V → V → Bool) → List (List ℕ × V) → List (List ℕ × V) → Bool
pairs_eq E = pointwise (λ p q. pointwise ◌==◌ p.0 q.0 && E p.1 q.1)

pub pairs_per : {V : Type 0} {E : V → V → Bool} → IsPartialEquivalence E → IsPartialEquivalence (pairs_eq E)
pairs_per e = lists_per (and_per (on_per (λ p. p.0) (partial_equiv_from_equiv nat_list_eq_equiv)) (on_per (λ p. p.1) e))

pub pairs_equiv : {V : Type 0} {E : V → V → Bool} → IsEquivalence E → IsEquivalence (pairs_eq E)
pairs_equiv e = lists_equiv (and_equiv (on_equiv (λ p. p.0) nat_list_eq_equiv) (on_equiv (λ p. p.1) e))

pub pairs_decides : {V : Type 0} {E : V → V → Bool} → ((v w : V) → Decides (E v w) (v ≡ w)) → (m n : List (List ℕ × V)) → Decides (pairs_eq E m n) (m ≡ n)
pairs_decides {V} {E} d = pointwise_decides (λ p q. Decides-like _ (λ e i. (e.0 i, e.1 i)) (λ e. (ap (λ (x : List ℕ × V). x.0) e, ap (λ (x : List ℕ × V). x.1) e)) (Decides-and _ _ (bytes_decides p.0 q.0) (d p.1 q.1)))

-- the values of a set: there is one alone, and it equals itself
abbrev pub unit_eq : Unit {0} → Unit {0} → Bool
unit_eq a b = true

pub unit_equiv : IsEquivalence unit_eq
unit_equiv = record { refl = λ _. refl; symm = λ _ _. refl; congr = λ _ _ _ _. refl }

pub unit_per : IsPartialEquivalence unit_eq
unit_per = partial_equiv_from_equiv unit_equiv

pub unit_decides : (a b : Unit {0}) → Decides (unit_eq a b) (a ≡ b)
unit_decides a b = (λ _. refl, λ _. refl)

-- a name as a set shows it
abbrev pub a_name : Bor (List ℕ) → List ℕ × Unit {0}
a_name name = (name.now, tt)
