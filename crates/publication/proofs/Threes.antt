-- What holds of lists of one length, place by place.
use Rattle.std.specs.Prelude.{List, [], ◌∷◌}
use Rattle.std.specs.List.{AllByRecursion}
use Rattle.publication.specs.Threes.{AllThree}

-- by induction over the places
pub three_by : {X Y Z : Type 0} (R : X → Y → Z → Type 0) (Q : List X → List Y → List Z → Type 0) → Q [] [] []
    → ((x : X) (y : Y) (z : Z) (xs : List X) (ys : List Y) (zs : List Z) → R x y z → AllThree R xs ys zs → Q xs ys zs → Q (x ∷ xs) (y ∷ ys) (z ∷ zs))
    → (xs : List X) (ys : List Y) (zs : List Z) → AllThree R xs ys zs → Q xs ys zs
three_by R Q none more [] [] [] all = none
three_by R Q none more (x ∷ xs) (y ∷ ys) (z ∷ zs) all = more x y z xs ys zs all.0 all.1 (three_by R Q none more xs ys zs all.1)
three_by R Q none more [] [] (z ∷ zs) all = absurd all
three_by R Q none more [] (y ∷ ys) [] all = absurd all
three_by R Q none more [] (y ∷ ys) (z ∷ zs) all = absurd all
three_by R Q none more (x ∷ xs) [] [] all = absurd all
three_by R Q none more (x ∷ xs) [] (z ∷ zs) all = absurd all
three_by R Q none more (x ∷ xs) (y ∷ ys) [] all = absurd all

pub three_map : {X Y Z : Type 0} (R S : X → Y → Z → Type 0) → ((x : X) (y : Y) (z : Z) → R x y z → S x y z) → (xs : List X) (ys : List Y) (zs : List Z)
    → AllThree R xs ys zs → AllThree S xs ys zs
three_map R S f xs ys zs all = three_by R (AllThree S) tt (λ x y z xs ys zs r all rest. (f x y z r, rest)) xs ys zs all

pub three_both : {X Y Z : Type 0} (R S : X → Y → Z → Type 0) (xs : List X) (ys : List Y) (zs : List Z) → AllThree R xs ys zs → AllThree S xs ys zs
    → AllThree (λ x y z. R x y z × S x y z) xs ys zs
three_both R S xs ys zs all =
    three_by R (λ xs ys zs. AllThree S xs ys zs → AllThree (λ x y z. R x y z × S x y z) xs ys zs) (λ more. tt) (λ x y z xs ys zs r all rest more. ((r, more.0), rest more.1)) xs ys zs all

-- with what holds of the first of each
pub three_first : {X Y Z : Type 0} (P : X → Type 0) (R : X → Y → Z → Type 0) (xs : List X) (ys : List Y) (zs : List Z) → AllByRecursion P xs → AllThree R xs ys zs
    → AllThree (λ x y z. P x × R x y z) xs ys zs
three_first P R xs ys zs each all =
    three_by R (λ xs ys zs. AllByRecursion P xs → AllThree (λ x y z. P x × R x y z) xs ys zs) (λ each. tt) (λ x y z xs ys zs r all rest each. ((each.0, r), rest each.1)) xs ys zs all each
