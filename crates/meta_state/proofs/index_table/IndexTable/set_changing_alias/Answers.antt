use Rattle.std.proofs.Common.{◌∙◌, ap, sym}
use Rattle.meta_state.specs.Tables.{has, aliases_at, retold}
use Rattle.meta_state.proofs.Tables.{table_set_changing}
use Rattle.meta_state.proofs.index_table.IndexTable.set_changing_alias.Goals as goal

pub invariant_of-self-2 : goal.invariant_of-self-2
invariant_of-self-2 c =
    table_set_changing _ c.self.inside.by_name c.args.name c.args.alias.now c.args.index c.self.invariant (λ a other. c.requires a other ∙ ap (λ x. has a (aliases_at c.args.name x)) (sym c.self.view_is)) _ _ (c.in_ok-retell.ensures ∙ ap (retold c.args.name c.args.alias.now c.args.index.aliases) c.in_ok-table.ensures) c.in_ok-set.ensures.ok
