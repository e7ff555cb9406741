-- Lists place by place: what is so of each item, and what is at a place, after an item is put behind the last one or in
-- the place of another.
use Rattle.std.specs.Prelude.{◌≡◌, ℕ, zero, suc, ◌≢◌, List, [], ◌∷◌, ◌++◌, Some, length, map, set, slice_get, refl}
use Rattle.std.proofs.Common.{ap, subst}
use Rattle.std.proofs.lemmas.Option.{none-some, same_Some}
use Rattle.std.specs.List.{AllByRecursion}

-- ---- what is so of each

pub all_by : {A : Type 0} (P Q : A → Type 0) → ((x : A) → P x → Q x) → (xs : List A) → AllByRecursion P xs → AllByRecursion Q xs
all_by P Q f [] h = tt
all_by P Q f (x ∷ xs) h = (f x h.0, all_by P Q f xs h.1)

pub all_behind : {A : Type 0} (P : A → Type 0) (xs : List A) (x : A) → AllByRecursion P xs → P x → AllByRecursion P (xs ++ (x ∷ []))
all_behind P [] x h is = (is, tt)
all_behind P (first ∷ xs) x h is = (h.0, all_behind P xs x h.1 is)

pub all_before : {A : Type 0} (P : A → Type 0) (xs : List A) (x : A) → AllByRecursion P (xs ++ (x ∷ [])) → AllByRecursion P xs
all_before P [] x h = tt
all_before P (first ∷ xs) x h = (h.0, all_before P xs x h.1)

pub so_of_last : {A : Type 0} (P : A → Type 0) (xs : List A) (x : A) → AllByRecursion P (xs ++ (x ∷ [])) → P x
so_of_last P [] x h = h.0
so_of_last P (first ∷ xs) x h = so_of_last P xs x h.1

pub all_map : {A B : Type 0} (P : B → Type 0) (f : A → B) (xs : List A) → AllByRecursion (λ x. P (f x)) xs → AllByRecursion P (map f xs)
all_map P f [] h = tt
all_map P f (x ∷ xs) h = (h.0, all_map P f xs h.1)

pub so_at : {A : Type 0} (P : A → Type 0) (xs : List A) (place : ℕ) (x : A) → AllByRecursion P xs → slice_get xs place ≡ Some x → P x
so_at P [] place x h e = absurd (none-some x e)
so_at P (first ∷ xs) zero x h e = subst P (same_Some first x e) h.0
so_at P (first ∷ xs) (suc place) x h e = so_at P xs place x h.1 e

pub all_set : {A : Type 0} (P : A → Type 0) (xs : List A) (place : ℕ) (x : A) → AllByRecursion P xs → P x → AllByRecursion P (set xs place x)
all_set P [] place x h is = tt
all_set P (first ∷ xs) zero x h is = (is, h.1)
all_set P (first ∷ xs) (suc place) x h is = (h.0, all_set P xs place x h.1 is)

-- ---- what is at a place

pub at_behind : {A : Type 0} (xs : List A) (x : A) → slice_get (xs ++ (x ∷ [])) (length xs) ≡ Some x
at_behind [] x = refl
at_behind (first ∷ xs) x = at_behind xs x

pub at_before : {A : Type 0} (xs more : List A) (place : ℕ) (x : A) → slice_get xs place ≡ Some x → slice_get (xs ++ more) place ≡ Some x
at_before [] more place x e = absurd (none-some x e)
at_before (first ∷ xs) more zero x e = e
at_before (first ∷ xs) more (suc place) x e = at_before xs more place x e

pub at_set_same : {A : Type 0} (xs : List A) (place : ℕ) (x y : A) → slice_get xs place ≡ Some x → slice_get (set xs place y) place ≡ Some y
at_set_same [] place x y e = absurd (none-some x e)
at_set_same (first ∷ xs) zero x y e = refl
at_set_same (first ∷ xs) (suc place) x y e = at_set_same xs place x y e

pub at_set_other : {A : Type 0} (xs : List A) (place other : ℕ) (x : A) → other ≢ place → slice_get (set xs place x) other ≡ slice_get xs other
at_set_other [] place other x apart = refl
at_set_other (first ∷ xs) zero zero x apart = absurd (apart refl)
at_set_other (first ∷ xs) zero (suc other) x apart = refl
at_set_other (first ∷ xs) (suc place) zero x apart = refl
at_set_other (first ∷ xs) (suc place) (suc other) x apart = at_set_other xs place other x (λ same. apart (ap suc same))
