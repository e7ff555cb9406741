use Rattle.std.proofs.Common.{◌≡◌}
use Rattle.node_apply.specs.AliasLists.{AreInOrderAt, aliases_among}
use Rattle.node_apply.proofs.alias_views.put_aliases.Given as goal

abbrev pub invariant-loop-name : goal.invariant-loop-name
invariant-loop-name l = record {
  all : aliases_among l.indices l.name-iterator l.made ≡ aliases_among l.fn.indices l.fn.names l.fn.made;
  sets : AreInOrderAt l.indices l.name-iterator → AreInOrderAt l.fn.indices l.fn.names;
}
