use Rattle.std.proofs.Common.{◌∙◌, ap, sym}
use Rattle.meta_state.specs.Tables.{aliases_at}
use Rattle.meta_state.proofs.Tables.{table_set_keeping}
use Rattle.meta_state.proofs.index_table.IndexTable.set_keeping_aliases.Goals as goal

pub invariant_of-self-2 : goal.invariant_of-self-2
invariant_of-self-2 c = table_set_keeping _ _ _ _ _ c.self.invariant (c.requires ∙ ap (aliases_at c.args.name) (sym c.self.view_is)) c.in_ok-set.ensures.ok
