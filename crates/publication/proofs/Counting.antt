-- No more nodes vote than there are.
use Rattle.std.specs.Prelude.{ℕ, ◌≤◌, List, length}
use Rattle.std.proofs.lemmas.List.Sums.{count_by-le-length}
use Rattle.meta_state.specs.declared.node_info.NodeInfo.{NodeInfo}
use Rattle.meta_state.specs.Voters.{electorate}

pub electorate_fits : (nodes : List (List ℕ × NodeInfo)) → electorate nodes ≤ length nodes
electorate_fits nodes = count_by-le-length (λ (p : List ℕ × NodeInfo). p.1.eligible) nodes
