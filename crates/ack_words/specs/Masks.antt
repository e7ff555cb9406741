-- A set of nodes as a list of flags, one for each number that a node can have: whether the node is in the set. So the
-- laws of lists are the laws of these sets, and no clause names the number that keeps the flags as its bits. The sets
-- are this project's own.
use Rattle.std.specs.Prelude.{ℕ, ◌+◌, Bool, true, false, List, [], ◌∷◌, get_or, set, replicate}

-- the set of no node
unfoldable pub no_nodes : List Bool
no_nodes = replicate 30 false

-- whether a node is in a set
abbrev pub has_node : ℕ → List Bool → Bool
has_node node nodes = get_or nodes node false

abbrev pub with_node : ℕ → List Bool → List Bool
with_node node nodes = set nodes node true

abbrev pub without_node : ℕ → List Bool → List Bool
without_node node nodes = set nodes node false

-- whether a set has no node
abbrev pub is_without_nodes : List Bool → Bool
is_without_nodes [] = true
is_without_nodes (true ∷ _) = false
is_without_nodes (false ∷ nodes) = is_without_nodes nodes

-- how many nodes a set has
abbrev pub node_count : List Bool → ℕ
node_count [] = 0
node_count (true ∷ nodes) = 1 + node_count nodes
node_count (false ∷ nodes) = node_count nodes
