-- What holds of one of two, and of every element of a list, as it grows and is filtered.
use Rattle.std.specs.Prelude.{◌≡◌, ◌<◌, Bool, true, false, cond, List, [], ◌∷◌, ◌++◌, filter, length, refl, if◌then◌else◌}
use Rattle.std.proofs.Common.{arith}
use Rattle.std.specs.List.{AllByRecursion}

pub all_by : {X : Type 0} (P Q : X → Type 0) → ((x : X) → P x → Q x) → (xs : List X) → AllByRecursion P xs → AllByRecursion Q xs
all_by P Q f [] all = tt
all_by P Q f (x ∷ xs) all = (f x all.0, all_by P Q f xs all.1)

pub all_push : {X : Type 0} (P : X → Type 0) (xs : List X) (y : X) → AllByRecursion P xs → P y → AllByRecursion P (xs ++ y ∷ [])
all_push P [] y all h = (h, tt)
all_push P (x ∷ xs) y all h = (all.0, all_push P xs y all.1 h)

pub all_append : {X : Type 0} (P : X → Type 0) (xs ys : List X) → AllByRecursion P xs → AllByRecursion P ys → AllByRecursion P (xs ++ ys)
all_append P [] ys all more = more
all_append P (x ∷ xs) ys all more = (all.0, all_append P xs ys all.1 more)

pub all_both : {X : Type 0} (P Q : X → Type 0) (xs : List X) → AllByRecursion P xs → AllByRecursion Q xs → AllByRecursion (λ x. P x × Q x) xs
all_both P Q [] all more = tt
all_both P Q (x ∷ xs) all more = ((all.0, more.0), all_both P Q xs all.1 more.1)

-- ---- one of two

pub either : {X : Type 0} (P : X → Type 0) (b : Bool) (x y : X) → P x → P y → P (if b then x else y)
either P true x y h k = h
either P false x y h k = k

-- ---- filters

keep : {X : Type 0} (P : X → Type 0) (b : Bool) (x : X) (xs : List X) → P x → AllByRecursion P xs → AllByRecursion P (cond b (x ∷ xs) xs)
keep P true x xs h all = (h, all)
keep P false x xs h all = all

pub all_filter : {X : Type 0} (P : X → Type 0) (p : X → Bool) (xs : List X) → AllByRecursion P xs → AllByRecursion P (filter p xs)
all_filter P p [] all = tt
all_filter P p (x ∷ xs) all = keep P (p x) x (filter p xs) all.0 (all_filter P p xs all.1)

keep_pass : {X : Type 0} (p : X → Bool) (b : Bool) (x : X) (xs : List X) → p x ≡ b → AllByRecursion (λ x. p x ≡ true) xs → AllByRecursion (λ x. p x ≡ true) (cond b (x ∷ xs) xs)
keep_pass p true x xs e all = (e, all)
keep_pass p false x xs e all = all

pub all_pass : {X : Type 0} (p : X → Bool) (xs : List X) → AllByRecursion (λ x. p x ≡ true) (filter p xs)
all_pass p [] = tt
all_pass p (x ∷ xs) = keep_pass p (p x) x (filter p xs) refl (all_pass p xs)

-- ---- how much passes

pub kept_some : {X : Type 0} (b : Bool) (x : X) (xs : List X) → b ≡ true → 0 < length (cond b (x ∷ xs) xs)
kept_some true x xs e = omega arith
kept_some false x xs e = cc

pub kept_more : {X : Type 0} (b : Bool) (x : X) (xs : List X) → 0 < length xs → 0 < length (cond b (x ∷ xs) xs)
kept_more true x xs e = omega arith
kept_more false x xs e = e

pub kept_between : {X : Type 0} (b c : Bool) (x y : X) (xs : List X) → 0 < length (cond b (x ∷ xs) xs) → 0 < length (cond b (x ∷ cond c (y ∷ xs) xs) (cond c (y ∷ xs) xs))
kept_between true c x y xs h = omega arith
kept_between false true x y xs h = omega arith
kept_between false false x y xs h = h
