use Rattle.std.proofs.Common.{◌≡◌, IfOk, subst}
use Rattle.node_apply.proofs.Updating.{updated_from_other}
use Rattle.node_apply.proofs.settings_views.settings_after.Goals as goal

pub returns : goal.returns
returns c =
    subst (λ n. IfOk c.updated_settings.result (λ made. made ≡ n)) (updated_from_other c.args.keys.now c.args.before.now c.args.new.now c.len.ensures.ordered c.len-2.ensures.ordered c.requires) c.updated_settings.ensures
