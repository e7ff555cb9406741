use Rattle.std.proofs.Common.{◌∙◌, ap}
use Rattle.observers.proofs.Rooms.{roomy_after, specs-ended}
use Rattle.observers.proofs.Showing.{specs_of}
use Rattle.observers.proofs.plain_registries.PlainRegistry.retire.Goals as goal

pub invariant_of-self : goal.invariant_of-self
invariant_of-self c =
    let r = c.self.invariant in
    let inside = c.self.inside in
    roomy_after inside.watchings c.end.new.self inside.kept.items inside.kept.items inside.next.items inside.next.items inside.parts.items inside.coming _ _ _ _ _ r
    (ap specs_of c.end.ensures.list ∙ specs-ended c.args.watch inside.watchings) r.well.kept r.none_next r.fits_kept r.fits_next
