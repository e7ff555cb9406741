-- The pairs that a search tree holds, from left to right.
use Rattle.std.specs.Prelude.{ℕ, List, [], ◌∷◌, ◌++◌}
use Rattle.plain_data.specs.declared.trees.Link.{Link}
use Rattle.plain_data.specs.declared.trees.Link.TheVariants.{Leaf, Fork}

abbrev pub pairs_of : {V : Type 0} → Link V → List (List ℕ × V)
pairs_of Leaf = []
pairs_of (Fork shared) = shared.value.left ++ shared.value.pair ∷ shared.value.right
