use Rattle.std.proofs.Common.{◌≡◌, ◌<◌, ◌∙◌, ℕ, Option, IfSome, length, ap, sym, subst}
use Rattle.master_intake.specs.Turns.{next_turn}
use Rattle.master_intake.specs.Waitings.{next_queue}
use Rattle.master_intake.proofs.Keeping.{next_known-kept, next_queue-kept}
use Rattle.master_intake.proofs.wait_lists.WaitList.next.Goals as goal

pub returns-clause-next : goal.returns-clause-next
returns-clause-next c =
    let inside = c.self.inside in
    c.next_turn.ensures
    ∙ ap (λ p. next_turn p c.as_slice-2.result.now) c.as_slice.ensures
    ∙ ap (λ t. next_turn inside.priorities t) c.as_slice-2.ensures.value
    ∙ next_queue-kept inside.priorities inside.waiting.items inside.turns.items inside.room.items _ c.self.invariant
    ∙ ap (λ v. next_queue v.priorities v.waiting) c.self.view_is

pub returns-clause-known : goal.returns-clause-known
returns-clause-known c =
    let inside = c.self.inside in
    let found : c.next_turn.result ≡ next_turn inside.priorities inside.turns.items =
    c.next_turn.ensures
    ∙ ap (λ p. next_turn p c.as_slice-2.result.now) c.as_slice.ensures
    ∙ ap (λ t. next_turn inside.priorities t) c.as_slice-2.ensures.value in
    let is_there : IfSome c.next_turn.result (λ queue. queue < length inside.priorities) =
    subst (λ (o : Option ℕ). IfSome o (λ queue. queue < length inside.priorities)) (sym found) (next_known-kept inside.priorities inside.waiting.items inside.turns.items inside.room.items _ c.self.invariant) in
    rw (← c.self.view_is) is_there
