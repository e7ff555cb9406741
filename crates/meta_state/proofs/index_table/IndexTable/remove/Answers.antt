use Rattle.meta_state.proofs.Tables.{table_remove}
use Rattle.meta_state.proofs.index_table.IndexTable.remove.Goals as goal

pub invariant_of-self-2 : goal.invariant_of-self-2
invariant_of-self-2 c = table_remove _ _ _ _ _ c.self.invariant c.in_ok-table.ensures c.in_ok-remove.ensures.ok
