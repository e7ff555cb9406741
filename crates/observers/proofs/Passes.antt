-- A list of which a walk has changed the elements before a place.
use Rattle.std.specs.Prelude.{◌≡◌, ℕ, zero, suc, ◌+◌, ◌<◌, ◌++◌, List, [], ◌∷◌, drop, get_or, length, map, set, sum_by, take, refl}
use Rattle.std.proofs.Common.{◌∙◌, ap, arith}
use Rattle.std.proofs.lemmas.List.Sums.{sum_by-drop_more}

-- the list with what f gives for its first elements
abbrev pub mapped_to : {A : Type 0} → ℕ → (A → A) → List A → List A
mapped_to n f xs = map f (take n xs) ++ drop n xs

pub mapped_to-zero : {A : Type 0} (f : A → A) (xs : List A) → mapped_to 0 f xs ≡ xs
mapped_to-zero f xs = refl

pub mapped_to-length : {A : Type 0} (f : A → A) (xs : List A) → mapped_to (length xs) f xs ≡ map f xs
mapped_to-length f [] = refl
mapped_to-length f (x ∷ xs) = ap (λ rest. f x ∷ rest) (mapped_to-length f xs)

-- the elements from the place on are as before
get_or-mapped_to : {A : Type 0} (f : A → A) (xs : List A) (n : ℕ) (d : A) → get_or (mapped_to n f xs) n d ≡ get_or xs n d
get_or-mapped_to f [] zero d = refl
get_or-mapped_to f [] (suc n) d = refl
get_or-mapped_to f (x ∷ xs) zero d = refl
get_or-mapped_to f (x ∷ xs) (suc n) d = get_or-mapped_to f xs n d

-- the element at the place is changed too
suc_mapped : {A : Type 0} (f : A → A) (xs : List A) (n : ℕ) (d : A) → n < length xs → set (mapped_to n f xs) n (f (get_or xs n d)) ≡ mapped_to (suc n) f xs
suc_mapped f [] n d within = absurd (omega arith)
suc_mapped f (x ∷ xs) zero d within = refl
suc_mapped f (x ∷ xs) (suc n) d within = ap (λ rest. f x ∷ rest) (suc_mapped f xs n d (omega arith))

suc_one : (n : ℕ) → suc n ≡ n + 1
suc_one n = omega arith

set-mapped_to : {A : Type 0} (f : A → A) (xs : List A) (n : ℕ) (d : A) → n < length xs → set (mapped_to n f xs) n (f (get_or xs n d)) ≡ mapped_to (n + 1) f xs
set-mapped_to f xs n d within = suc_mapped f xs n d within ∙ ap (λ m. mapped_to m f xs) (suc_one n)

-- ---- a step of the walk

module _ {A : Type 0} (f : A → A) (xs ys : List A) (n : ℕ) (d : A) (walked : ys ≡ mapped_to n f xs) (within : n < length xs) where
  reads : get_or ys n d ≡ get_or xs n d
  reads = ap (λ list. get_or list n d) walked ∙ get_or-mapped_to f xs n d

  pub walks_on : (zs : List A) → zs ≡ set ys n (f (get_or ys n d)) → zs ≡ mapped_to (n + 1) f xs
  walks_on zs changed = changed ∙ ap (λ list. set list n (f (get_or ys n d))) walked ∙ ap (λ x. set (mapped_to n f xs) n (f x)) reads ∙ set-mapped_to f xs n d within

  -- a sum counts the element at the place, and those behind it are still to be counted
  pub counts_on : (g : A → ℕ) (count new total : ℕ) → count + sum_by g (drop n xs) ≡ total → new ≡ count + g (get_or ys n d) → new + sum_by g (drop (n + 1) xs) ≡ total
  counts_on g count new total counted is =
      let same : g (get_or ys n d) ≡ g (get_or xs n d) = ap g reads in
      let more = sum_by-drop_more g xs n d within in
      omega arith
