-- Lists of one length, of which the values at each place belong together.
use Rattle.std.specs.Prelude.{List, [], ◌∷◌}

abbrev pub AllThree : {X Y Z : Type 0} → (X → Y → Z → Type 0) → List X → List Y → List Z → Type 0
AllThree R [] [] [] = Unit {0}
AllThree R (x ∷ xs) (y ∷ ys) (z ∷ zs) = R x y z × AllThree R xs ys zs
AllThree R _ _ _ = ⊥
