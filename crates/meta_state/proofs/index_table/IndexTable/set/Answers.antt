use Rattle.meta_state.proofs.Tables.{table_set}
use Rattle.meta_state.proofs.index_table.IndexTable.set.Goals as goal

pub invariant_of-self-2 : goal.invariant_of-self-2
invariant_of-self-2 c = table_set _ _ _ _ _ _ _ c.self.invariant c.in_ok-table.ensures c.in_ok-enter_all.ensures c.in_ok-set.ensures.ok
