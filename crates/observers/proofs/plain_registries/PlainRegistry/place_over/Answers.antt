use Rattle.std.proofs.Common.{◌<◌, ◌+◌, ◌^◌, ◌∙◌, ap, arith, length, subst, sym}
use Rattle.std.specs.List.{list_any}
use Rattle.observers.specs.Listings.{is_watch}
use Rattle.observers.specs.Registries.{Registry}
use Rattle.observers.proofs.Rooms.{roomy_added}
use Rattle.observers.proofs.plain_registries.PlainRegistry.place_over.Goals as goal

pub invariant_of-self-2 : goal.invariant_of-self-2
invariant_of-self-2 c =
    let inside = c.self.inside in
    let kept = c.in_ok-reserve.ensures in
    let next = c.in_ok-reserve-2.ensures in
    let parts = c.in_ok-reserve-3.ensures in
    roomy_added inside.watchings c.add.new.self c.args.watching inside.kept.items _ inside.next.items _ inside.parts.items _ inside.coming _ _ _ _ _ _ _ c.self.invariant
    c.in_ok-add.ensures.ok kept.items next.items parts.items
    (ap (λ n. inside.coming + n) (c.len.ensures ∙ ap (λ s. length s.preds) c.spec.ensures))
    (ap (λ (r : Registry). list_any (is_watch c.args.watching.spec.watch) r.watchings) c.self.view_is ∙ c.requires.fresh)
    c.requires.few
    (subst (λ (r : Registry). length r.watchings + 1 < 2 ^ 18) (sym c.self.view_is) c.requires.room)
    (omega (arith, kept.ok, c.len-count.ensures))
    (omega (arith, next.ok, c.len-count.ensures))
    (omega (arith, parts.ok))
