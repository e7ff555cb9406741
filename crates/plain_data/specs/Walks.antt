-- A walk over a tree, in order: what the nodes that it has come past hold for it, and how that stands to the tree.
use Rattle.std.specs.Prelude.{◌≡◌, ℕ, List, [], ◌∷◌, ◌++◌, Some, None, Option}
use Rattle.plain_data.specs.declared.trees.Node.{Node}
use Rattle.plain_data.specs.declared.paths.Path.{Path}
use denote.Ref.{Bor}

-- a node that was passed on the way down to its left holds its own pair and those after it
abbrev pub waiting_at : {V : Type 0} → Option (Bor (Node V)) → List (List ℕ × V)
waiting_at None = []
waiting_at (Some node) = node.now.pair ∷ node.now.right

-- the pairs that the nodes of a path hold, the nearest first
abbrev pub waiting : {V : Type 0} → Path V → List (List ℕ × V)
waiting path = waiting_at path.first ++ (waiting_at path.second ++ (waiting_at path.third ++ waiting_at path.fourth))

-- the pair of a node, those after it on its right, and those that a path holds
abbrev pub ahead : {V : Type 0} → Node V → Path V → List (List ℕ × V)
ahead node path = node.pair ∷ (node.right ++ waiting path)

-- xs are the first of ys
abbrev pub AreFirst : {X : Type 0} → List X → List X → Type 0
AreFirst {X} xs ys = (others : List X) × (ys ≡ xs ++ others)
