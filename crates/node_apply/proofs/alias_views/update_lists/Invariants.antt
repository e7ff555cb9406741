use Rattle.std.proofs.Common.{◌≡◌}
use Rattle.node_apply.specs.AliasLists.{list_of}
use Rattle.node_apply.specs.Updated.{updated}
use Rattle.node_apply.proofs.alias_views.update_lists.Given as goal

abbrev pub invariant-loop-alias : goal.invariant-loop-alias
invariant-loop-alias l = updated (list_of l.indices) l.alias-iterator l.made ≡ updated (list_of l.fn.indices) l.fn.aliases l.fn.made
