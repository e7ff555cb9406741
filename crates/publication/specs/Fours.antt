-- Four lists of one length, of which the values at each place belong together.
use Rattle.std.specs.Prelude.{List, [], ◌∷◌}

abbrev pub AllFour : {X Y Z W : Type 0} → (X → Y → Z → W → Type 0) → List X → List Y → List Z → List W → Type 0
AllFour R [] [] [] [] = Unit {0}
AllFour R (x ∷ xs) (y ∷ ys) (z ∷ zs) (w ∷ ws) = R x y z w × AllFour R xs ys zs ws
AllFour R _ _ _ _ = ⊥
