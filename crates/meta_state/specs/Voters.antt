-- Which nodes of a state count for a majority, and what a majority of them is: more than half of the eligible nodes
-- (Elasticsearch's voting configuration, which is every eligible node here).
use Rattle.std.specs.Prelude.{ℕ, ◌+◌, Bool, false, List, Option, Some, None, count_by, nat_lt}
use Rattle.meta_state.specs.declared.node_info.NodeInfo.{NodeInfo}

-- whether a node counts: one that the state doesn't have counts not
abbrev pub is_eligible : Option NodeInfo → Bool
is_eligible None = false
is_eligible (Some node) = node.eligible

-- how many nodes count
abbrev pub electorate : List (List ℕ × NodeInfo) → ℕ
electorate nodes = count_by (λ p. p.1.eligible) nodes

-- whether so many votes are more than half of them
abbrev pub is_majority : List (List ℕ × NodeInfo) → ℕ → Bool
is_majority nodes votes = nat_lt (electorate nodes) (votes + votes)
