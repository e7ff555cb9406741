use Rattle.std.proofs.Common.{◌↔◌}
use Rattle.meta_state.specs.States.{AreRoomy}
use Rattle.meta_state.proofs.cluster_state.are_indices_roomy.Given as goal

-- all are roomy exactly where those that are left are
abbrev pub invariant-loop-index : goal.invariant-loop-index
invariant-loop-index l = AreRoomy l.index-iterator ↔ AreRoomy l.fn.indices
