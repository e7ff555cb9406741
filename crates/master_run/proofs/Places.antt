-- Lists, place by place: what holds of all of a list, and of two lists of which each place has one of each.
use Rattle.std.specs.Prelude.{◌≡◌, ℕ, zero, suc, List, [], ◌∷◌, map, set, Some, slice_get, refl}
use Rattle.std.proofs.Common.{subst, sym}
use Rattle.std.specs.List.{AllByRecursion, AllZip}
use Rattle.master_run.proofs.Keeping.{no_some, some_same}

pub all_at : {X : Type 0} (P : X → Type 0) (xs : List X) (n : ℕ) (x : X) → AllByRecursion P xs → slice_get xs n ≡ Some x → P x
all_at P [] n x all e = absurd (no_some x e)
all_at P (first ∷ xs) zero x all e = subst P (some_same first x e) all.0
all_at P (first ∷ xs) (suc n) x all e = all_at P xs n x all.1 e

pub all_mapped : {X Y : Type 0} (P : Y → Type 0) (f : X → Y) (xs : List X) → AllByRecursion P (map f xs) → AllByRecursion (λ x. P (f x)) xs
all_mapped P f [] all = tt
all_mapped P f (x ∷ xs) all = (all.0, all_mapped P f xs all.1)

-- ---- of two lists

pub zip_at : {A B : Type 0} (R : A → B → Type 0) (xs : List A) (ys : List B) (n : ℕ) (x : A) (y : B) → AllZip R xs ys → slice_get xs n ≡ Some x → slice_get ys n ≡ Some y → R x y
zip_at R [] ys n x y all e f = absurd (no_some x e)
zip_at R (a ∷ xs) [] n x y all e f = absurd all
zip_at R (a ∷ xs) (b ∷ ys) zero x y all e f = subst (R x) (some_same b y f) (subst (λ c. R c b) (some_same a x e) all.0)
zip_at R (a ∷ xs) (b ∷ ys) (suc n) x y all e f = zip_at R xs ys n x y all.1 e f

pub zip_set : {A B : Type 0} (R : A → B → Type 0) (xs : List A) (ys : List B) (n : ℕ) (x : A) (y : B) → AllZip R xs ys → slice_get xs n ≡ Some x → R x y → AllZip R xs (set ys n y)
zip_set R [] ys n x y all e h = absurd (no_some x e)
zip_set R (a ∷ xs) [] n x y all e h = absurd all
zip_set R (a ∷ xs) (b ∷ ys) zero x y all e h = (subst (λ c. R c y) (sym (some_same a x e)) h, all.1)
zip_set R (a ∷ xs) (b ∷ ys) (suc n) x y all e h = (all.0, zip_set R xs ys n x y all.1 e h)

-- what holds at each place, of two lists of a kind
pub all_placed : {A B : Type 0} (R : A → B → Type 0) (P : B → Type 0) (xs : List A) (ys : List B) → AllZip R xs ys
    → ((n : ℕ) (x : A) (y : B) → slice_get xs n ≡ Some x → slice_get ys n ≡ Some y → P y) → AllByRecursion P ys
all_placed R P [] [] all f = tt
all_placed R P [] (y ∷ ys) all f = absurd all
all_placed R P (x ∷ xs) [] all f = tt
all_placed R P (x ∷ xs) (y ∷ ys) all f = (f 0 x y refl refl, all_placed R P xs ys all.1 (λ n a b e g. f (suc n) a b e g))
