use Rattle.std.proofs.Common.{◌∙◌, ◌==◌, not, ap, rules}
use Rattle.std.proofs.lemmas.Fn.{filter_same}
use Rattle.master_intake.specs.Waitings.{left_by}
use Rattle.master_intake.proofs.Keeping.{IsKept-left_by}
use Rattle.master_intake.proofs.wait_lists.WaitList.take_from.Goals as goal

pub invariant_of-self : goal.invariant_of-self
invariant_of-self c =
    IsKept-left_by c.self.inside.priorities c.self.inside.waiting.items _ c.self.inside.turns.items _ c.self.inside.room.items _ c.args.queue c.self.invariant
    (c.in-Ok.ensures.left ∙ ap (λ v. left_by c.args.queue v.items) c.replace-all.ensures.value)
    (filter_same _ (λ t. not (t == c.args.queue)) _ (λ x b f' k. search rules) _ _ c.retain.ensures.filtered)
