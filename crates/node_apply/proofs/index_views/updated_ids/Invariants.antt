use Rattle.std.proofs.Common.{◌≡◌}
use Rattle.node_apply.specs.Identifiers.{id_at}
use Rattle.node_apply.specs.Updated.{updated}
use Rattle.node_apply.proofs.index_views.updated_ids.Given as goal

abbrev pub invariant-loop-name : goal.invariant-loop-name
invariant-loop-name l = updated (id_at l.new) l.name-iterator l.made ≡ updated (id_at l.fn.new) l.fn.names l.fn.before
