use Rattle.std.proofs.Common.{◌≡◌}
use Rattle.node_apply.specs.TouchedNames.{with_names_of}
use Rattle.node_apply.proofs.touched_names.add_names_of.Given as goal

-- to add the keys that are left leads where adding all would
abbrev pub invariant-loop-key : goal.invariant-loop-key
invariant-loop-key g l = with_names_of l.key-iterator l.names ≡ with_names_of l.fn.map l.fn.names
