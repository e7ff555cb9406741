use Rattle.std.proofs.Common.{◌≡◌, ◌≤◌, ◌∙◌, ◌++◌, List, ℕ, ap, arith, length, subst, sym, vec_capacity}
use Rattle.observers.specs.Registries.{AreRising, Board, board_of}
use Rattle.observers.proofs.Rising.{rising_count}
use Rattle.observers.proofs.Rooms.{roomy_after}
use Rattle.observers.proofs.Showing.{rising-shown_each, specs-shown_each, specs_of}
use Rattle.observers.proofs.plain_registries.PlainRegistry.shown.Goals as goal

pub invariant_of-self : goal.invariant_of-self
invariant_of-self c =
    let inside = c.self.inside in
    let r = c.self.invariant in
    let numbers = c.as_slice.result.now in
    let before : Board = board_of inside.watchings inside.next.items c.args.watches.now in
    let board = c.show_each.ensures.board in
    roomy_after inside.watchings c.show_each.new.watchings inside.kept.items c.swap.new.x.items inside.next.items c.swap.new.y.items inside.parts.items inside.coming _ _ _ _ _ r
    (ap (λ (b : Board). specs_of b.registry.watchings) board ∙ specs-shown_each c.args.node c.args.state.now numbers before)
    (subst (λ l. AreRising 0 (length inside.watchings) l) (sym (ap (λ v. v.items) c.swap.ensures.x_after ∙ ap (λ (b : Board). b.registry.kept) board))
    (rising-shown_each c.args.node c.args.state.now (length inside.watchings) numbers before
    (subst (λ l. AreRising 0 (length inside.watchings) l) (sym (λ i. r.none_next i ++ c.as_slice.ensures.value i)) r.well.kept)))
    (ap (λ v. v.items) c.swap.ensures.y_after ∙ c.clear.ensures.items)
    (subst (λ (n : ℕ). length inside.watchings ≤ n) (sym (ap (λ v. vec_capacity v) c.swap.ensures.x_after ∙ c.show_each.ensures.capacity)) r.fits_next)
    (subst (λ (n : ℕ). length inside.watchings ≤ n) (sym (ap (λ v. vec_capacity v) c.swap.ensures.y_after ∙ c.clear.ensures.capacity)) r.fits_kept)

pub show_each-requires-clause-room : goal.show_each-requires-clause-room
show_each-requires-clause-room c =
    let inside = c.self.inside in
    let r = c.self.invariant in
    let short : length inside.kept.items ≤ length inside.watchings = rising_count (length inside.watchings) inside.kept.items r.well.kept in
    let none : length inside.next.items ≡ 0 = ap (λ (l : List ℕ). length l) r.none_next in
    let len = inside.next.ok.0 in
    let numbers : length c.as_slice.result.now ≡ length inside.kept.items = ap (λ (l : List ℕ). length l) c.as_slice.ensures.value in
    let fits = r.fits_next in
    omega arith

pub overflow_cast-result : goal.overflow_cast-result
overflow_cast-result c =
    let inside = c.self.inside in
    let r = c.self.invariant in
    let short : length inside.kept.items ≤ length inside.watchings = rising_count (length inside.watchings) inside.kept.items r.well.kept in
    let len = inside.kept.ok.0 in
    let count = c.len.ensures in
    let few = r.few in
    omega arith
