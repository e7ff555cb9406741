use Rattle.std.proofs.Common.{◌≡◌, ◌<◌, ◌∙◌, ◌++◌, ◌∷◌, ℕ, [], ap, length, subst, sym, vec_capacity}
use Rattle.observers.specs.Registries.{IsRoomy, Registry, kept_with, told}
use Rattle.observers.proofs.Rooms.{last_is, room_for_kept, roomy_told}
use Rattle.observers.proofs.plain_registries.PlainRegistry.place.Goals as goal

pub tell-requires-clause-room : goal.tell-requires-clause-room
tell-requires-clause-room c =
    let was = c.self.inside in
    let is = c.self-2.inside in
    let same = c.self-2.view_is ∙ c.in_ok-place_over.ensures.ok in
    let grown : is.watchings ≡ was.watchings ++ c.args.watching ∷ [] = ap (λ (r : Registry). r.watchings) same ∙ ap (λ (r : Registry). r.watchings ++ c.args.watching ∷ []) (sym c.self.view_is) in
    let kept : is.kept.items ≡ was.kept.items = ap (λ (r : Registry). r.kept) same ∙ ap (λ (r : Registry). r.kept) (sym c.self.view_is) in
    let short = room_for_kept was.watchings is.watchings c.args.watching was.kept.items is.kept.items _ _ _ _ _ _ _ _ _ _ _ _ c.self.invariant c.self-2.invariant grown kept in
    subst (λ (n : ℕ). n < vec_capacity is.kept) (sym is.kept.ok.0) short

pub invariant_of-self : goal.invariant_of-self
invariant_of-self c =
    let was = c.self.inside in
    let is = c.self-2.inside in
    let same = c.self-2.view_is ∙ c.in_ok-place_over.ensures.ok in
    let grown : is.watchings ≡ was.watchings ++ c.args.watching ∷ [] = ap (λ (r : Registry). r.watchings) same ∙ ap (λ (r : Registry). r.watchings ++ c.args.watching ∷ []) (sym c.self.view_is) in
    let kept : is.kept.items ≡ was.kept.items = ap (λ (r : Registry). r.kept) same ∙ ap (λ (r : Registry). r.kept) (sym c.self.view_is) in
    let found = last_is was.watchings is.watchings c.args.watching c.in-Some.watching.now c.len-number.result grown c.len-number.ensures c.in-Some.ensures in
    subst (λ (n : ℕ). IsRoomy (record { watchings = is.watchings; kept = c.tell.new.kept.items }) is.next.items is.parts.items is.coming n (vec_capacity is.next) (vec_capacity is.parts)) (sym c.tell.ensures.capacity)
    (roomy_told was.watchings is.watchings c.args.watching was.kept.items is.kept.items c.tell.new.kept.items is.next.items is.parts.items is.coming _ _ _ c.self.invariant.well.kept c.self-2.invariant grown kept
    (c.tell.ensures.kept ∙ (λ i. kept_with (c.len-number.ensures i) (found i) is.kept.items)))

pub returns-clause-ok : goal.returns-clause-ok
returns-clause-ok c =
    let was = c.self.inside in
    let is = c.self-2.inside in
    let same = c.self-2.view_is ∙ c.in_ok-place_over.ensures.ok in
    let grown : is.watchings ≡ was.watchings ++ c.args.watching ∷ [] = ap (λ (r : Registry). r.watchings) same ∙ ap (λ (r : Registry). r.watchings ++ c.args.watching ∷ []) (sym c.self.view_is) in
    let found = last_is was.watchings is.watchings c.args.watching c.in-Some.watching.now c.len-number.result grown c.len-number.ensures c.in-Some.ensures in
    let count : c.len-number.result ≡ length c.args.self.now.watchings = c.len-number.ensures ∙ ap (λ (r : Registry). length r.watchings) c.self.view_is in
    let numbers : c.tell.new.kept.items ≡ kept_with (length c.args.self.now.watchings) c.args.watching c.args.self.now.kept =
    c.tell.ensures.kept ∙ (λ i. kept_with (count i) (found i) (same i).kept) in
    let words : c.tell.new.watches ≡ told c.args.node c.args.watching c.args.watches.now = c.tell.ensures.words ∙ ap (λ w. told c.args.node w c.args.watches.now) found in
    λ i. record { registry = record { watchings = (same i).watchings; kept = numbers i }; words = words i }
