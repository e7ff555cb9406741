use Rattle.std.proofs.Common.{sym, ◌∙◌}
use Rattle.publication.proofs.Offering.{is_refused}
use Rattle.publication.proofs.offers.ask.Goals as goal

pub returns-in-Ok-Incompatible-clause-offered : goal.returns-in-Ok-Incompatible-clause-offered
returns-in-Ok-Incompatible-clause-offered g c =
    let e = c.in-Ok-Incompatible.ensures in
    is_refused _ _ _ _ _ (sym c.in-Ok-Incompatible.field-0-is ∙ e.receipt) e.ok e.never_falls
