use Rattle.std.proofs.Common.{◌≡◌, []}
use Rattle.plain_data.specs.Agreements.{with_all}
use Rattle.node_apply.specs.Identifiers.{identifiers}
use Rattle.node_apply.proofs.index_views.ids_put.Given as goal

-- to put in what is left leads where putting in all would
abbrev pub invariant-loop-name : goal.invariant-loop-name
invariant-loop-name l = with_all (identifiers l.name-iterator) l.made ≡ with_all (identifiers l.fn.indices) []
