use Rattle.std.proofs.Common.{◌≡◌}
use Rattle.meta_state.specs.Tables.{all_struck}
use Rattle.meta_state.proofs.index_table.strike_all.Given as goal

-- to strike what is left leads where striking all would
abbrev pub invariant-loop-alias : goal.invariant-loop-alias
invariant-loop-alias l = all_struck l.name l.alias-iterator l.table ≡ all_struck l.fn.name l.fn.aliases l.fn.table
