-- Each side of a node has fewer pairs than the node, so that a recursion down a tree ends.
use Rattle.std.specs.Prelude.{◌≤◌, max, ◌∷◌, length}
use Rattle.std.proofs.Common.{arith, length-append}
use Rattle.plain_data.specs.declared.trees.Link.{Link}
use Rattle.plain_data.specs.declared.trees.Link.TheVariants.{Leaf, Fork}
use Rattle.plain_data.specs.declared.trees.Tree.TheDeep.{deep-Link}
use Rattle.plain_data.specs.Trees.{pairs_of}

pub depth_le-length-pairs_of : {V : Type 0} (link : Link V) → max (deep-Link V link) 0 ≤ length (pairs_of link)
depth_le-length-pairs_of Leaf = omega arith
depth_le-length-pairs_of (Fork shared) = omega (arith, length-append shared.value.left (shared.value.pair ∷ shared.value.right))
