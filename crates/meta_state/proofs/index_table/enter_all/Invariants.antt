use Rattle.std.proofs.Common.{◌≡◌}
use Rattle.meta_state.specs.Tables.{all_entered}
use Rattle.meta_state.proofs.index_table.enter_all.Given as goal

-- to enter what is left leads where entering all would
abbrev pub invariant-loop-alias : goal.invariant-loop-alias
invariant-loop-alias l = all_entered l.name l.alias-iterator l.table ≡ all_entered l.fn.name l.fn.aliases l.fn.table
