-- Lists that rise: what a walk over each item and the next answers, and the keys of maps.
use Rattle.std.specs.Prelude.{◌≡◌, ◌+◌, ◌<◌, ◌&&◌, ℕ, Bool, true, false, List, [], ◌∷◌, length, refl, get_or, zero, suc}
use Rattle.std.proofs.Common.{sym, ap, ◌∙◌, arith, subst, Bor}
use denote.Param.Members.{Mut}
use Rattle.std.specs.List.{AllByRecursion, AllAdjacentBelow, IsAllAdjacentAnswer}
use Rattle.std.specs.List.Sorted.{IsStrictlySortedBy}
use Rattle.std.specs.Cmp.Lexicographic.{slice_cmp}
use Rattle.std.specs.Ordering.{nat_cmp, is_lt}
use Rattle.std.specs.declared.cmp.Ordering.TheVariants.{Less}
use Rattle.std.specs.Fn.{Called, ComputesOnPairs}
use Rattle.std.proofs.lemmas.Fn.{always_returns_same}
use Rattle.std.proofs.Math.Bool.{and-false}
use Rattle.report_law.specs.GoodForm.{is_name_before}
use Rattle.session_law.specs.Lawful.{is_rising, rises_from}

-- ---- a walk

module _ {A : Type 0} (e : A → A → Bool) where
  -- what is said of an item behind the first and the next one
  behind : (answer : Bool) (a : A) (xs : List A) (k : ℕ) (d : A) → answer ≡ e (get_or (a ∷ xs) (suc k) d) (get_or (a ∷ xs) (suc k + 1) d)
      → answer ≡ e (get_or xs k d) (get_or xs (k + 1) d)
  behind answer a xs k d told =
      let next : suc k + 1 ≡ suc (k + 1) = omega arith in
      subst (λ n. answer ≡ e (get_or xs k d) (get_or (a ∷ xs) n d)) next told

  all_rise : (a : A) (xs : List A) → AllAdjacentBelow (λ x y. true ≡ e x y) (a ∷ xs) (length (a ∷ xs)) → true ≡ rises_from e a xs
  all_rise a [] all = refl
  all_rise a (b ∷ bs) all =
      let first : true ≡ e a b = all 0 a (omega arith) in
      let rest = all_rise b bs (λ k d below. behind true a (b ∷ bs) k d (all (suc k) d (omega (arith, below)))) in
      cc (first, rest)

  one_falls : (a : A) (xs : List A) (k : ℕ) → k + 1 < length (a ∷ xs) → ((d : A) → false ≡ e (get_or (a ∷ xs) k d) (get_or (a ∷ xs) (k + 1) d))
      → false ≡ rises_from e a xs
  one_falls a [] k below falls = absurd (omega (arith, below))
  one_falls a (b ∷ bs) zero below falls = ap (λ x. x && rises_from e b bs) (falls a)
  one_falls a (b ∷ bs) (suc k) below falls =
      sym (and-false (e a b)) ∙ ap (λ x. e a b && x) (one_falls b bs k (omega (arith, below)) (λ d. behind false a (b ∷ bs) k d (falls d)))

  -- a walk that asks of each item and the next tells whether all rise
  rising_answer : (xs : List A) (answer : Bool) → IsAllAdjacentAnswer (λ x y b. b ≡ e x y) xs answer → answer ≡ is_rising e xs
  rising_answer [] true told = refl
  rising_answer [] false told = absurd (omega (arith, told.1))
  rising_answer (a ∷ xs) true told = all_rise a xs told
  rising_answer (a ∷ xs) false told = one_falls a xs told.0 told.1 told.2

-- the same of the calls of a closure
pub rises_by : {F A : Type 0} {g : Mut F (Bor A × (Bor A × Unit {0})) Bool} {f : F} (e : A → A → Bool) (xs : List A) (answer : Bool)
    → ((t : A → A → Bool) → ComputesOnPairs g t f → IsAllAdjacentAnswer (λ x y b. b ≡ t x y) xs answer)
    → ((a : Bor A × (Bor A × Unit {0})) (r : Bool) (f' : F) → Called g f a r f' → (r ≡ e a.0.now a.1.0.now) × (f' ≡ f))
    → answer ≡ is_rising e xs
rises_by {g = g} {f = f} e xs answer told calls = rising_answer e xs answer (told e (always_returns_same g _ f calls))

-- ---- keys

keys_rise_from : (name : List ℕ) (names : List (List ℕ)) → AllByRecursion (λ y. slice_cmp nat_cmp name y ≡ Less) names → IsStrictlySortedBy (slice_cmp nat_cmp) names
    → rises_from is_name_before name names ≡ true
unfolding IsStrictlySortedBy
keys_rise_from name [] below sorted = refl
keys_rise_from name (next ∷ names) below sorted =
    ap (λ o. is_lt o && rises_from is_name_before next names) below.0 ∙ keys_rise_from next names sorted.0 sorted.1

-- keys in strict order rise
pub sorted_keys_rise : (names : List (List ℕ)) → IsStrictlySortedBy (slice_cmp nat_cmp) names → is_rising is_name_before names ≡ true
unfolding IsStrictlySortedBy
sorted_keys_rise [] sorted = refl
sorted_keys_rise (name ∷ names) sorted = keys_rise_from name names sorted.0 sorted.1
