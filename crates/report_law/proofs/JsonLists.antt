-- Lists between two bytes, with commas between their items, as JSON has them: where the text of each item tells it, and
-- none begins with the closing byte, the text of the list tells the list.
use Rattle.std.specs.Prelude.{◌≡◌, ◌==◌, ℕ, Bool, true, false, List, [], ◌∷◌, ◌++◌, refl, cond}
use Rattle.std.proofs.Common.{sym, ap, ◌∙◌}
use Rattle.std.proofs.lemmas.List.{append_assoc, append_cancel_left}
use Rattle.std.specs.List.{AllByRecursion}
use Rattle.serde_json.specs.Written.{comma_if}
use Rattle.report_law.proofs.Runs.{is_decimal, tail_is}
use Rattle.report_law.proofs.Telling.{Any, Ends, Same, Tells, apart, before, differ, word_then}

-- what may follow a number
abbrev pub NoDigit : List ℕ → Type 0
NoDigit = Ends is_decimal

-- the items from here on, behind a comma where some stand before
abbrev pub listed : {A : Type 0} → (A → List ℕ) → ℕ → Bool → List A → List ℕ
listed text close later [] = close ∷ []
listed text close later (x ∷ xs) = comma_if later ++ (text x ++ listed text close true xs)

module _ {A : Type 0} {Good : A → Type 0} {text : A → List ℕ} (close : ℕ) (one : Tells Good text Same NoDigit)
    (inside : (a : A) (u v : List ℕ) → differ (text a ++ u) (close ∷ v) ≡ true) (no_comma : (44 == close) ≡ false) (no_digit : is_decimal close ≡ false) where
  listed_ends : (xs : List A) (u : List ℕ) → NoDigit (listed text close true xs ++ u)
  listed_ends [] u = no_digit
  listed_ends (x ∷ xs) u = refl

  goes_on : (later : Bool) (a : A) (u v : List ℕ) → comma_if later ++ (text a ++ u) ≡ close ∷ v → ⊥
  goes_on true a u v e = apart _ _ (ap (λ b. cond b (differ (text a ++ u) v) true) no_comma) e
  goes_on false a u v e = apart _ _ (inside a u v) e

  item_first : (later : Bool) (x : A) (xs : List A) (u : List ℕ)
      → listed text close later (x ∷ xs) ++ u ≡ comma_if later ++ (text x ++ (listed text close true xs ++ u))
  item_first later x xs u =
      append_assoc (comma_if later) _ u ∙ ap (λ l. comma_if later ++ l) (append_assoc (text x) _ u)

  listed_told : (later : Bool) (xs ys : List A) (u v : List ℕ) → AllByRecursion Good xs → AllByRecursion Good ys
      → listed text close later xs ++ u ≡ listed text close later ys ++ v → (xs ≡ ys) × (u ≡ v)
  listed_told later [] [] u v gx gy e = (refl, tail_is close close u v e)
  listed_told later [] (y ∷ ys) u v gx gy e = absurd (goes_on later y _ u (sym (item_first later y ys v) ∙ sym e))
  listed_told later (x ∷ xs) [] u v gx gy e = absurd (goes_on later x _ v (sym (item_first later x xs u) ∙ e))
  listed_told later (x ∷ xs) (y ∷ ys) u v gx gy e =
      let items = append_cancel_left (comma_if later) _ _ (sym (item_first later x xs u) ∙ (e ∙ item_first later y ys v)) in
      let first = one.told x y _ _ gx.0 gy.0 (listed_ends xs u) (listed_ends ys v) items in
      let rest = listed_told true xs ys u v gx.1 gy.1 first.1 in
      ((λ i. first.0 i ∷ rest.0 i), rest.1)

  items_tell : Tells (AllByRecursion Good) (listed text close false) Same Any
  items_tell = record { told = λ xs ys u v gx gy _ _ e. listed_told false xs ys u v gx gy e }

  -- the list behind its first byte
  pub listed_tell : (first : ℕ) → Tells (AllByRecursion Good) (λ xs. first ∷ listed text close false xs) Same NoDigit
  listed_tell first = before (word_then (first ∷ []) items_tell) (λ u _. tt)
