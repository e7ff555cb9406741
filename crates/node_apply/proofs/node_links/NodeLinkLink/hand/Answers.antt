use Rattle.std.proofs.Common.{◌≡◌, ◌∙◌, ap, sym, subst}
use Rattle.std.specs.Option.{IfSome}
use Rattle.node_apply.specs.Commits.{Handed, HandedCommit}
use Rattle.node_apply.specs.NodeLinks.{IsTiedLink}
use Rattle.node_apply.specs.Sinces.{told_by}
use Rattle.node_apply.specs.declared.sinces.Since.{Since}
use Rattle.node_apply.proofs.Receiving.{tied_handed}
use Rattle.node_apply.proofs.node_links.NodeLinkLink.hand.Goals as goal

pub invariant_of-self : goal.invariant_of-self
invariant_of-self c = (
  subst (λ (s : Since). IsTiedLink c.self.inside.base c.hand.new.self.commits s c.self.inside.replica) (sym c.replace-since.ensures.after)
      (tied_handed c.self.inside.base c.self.inside.commits.commits c.hand.new.self.commits c.self.inside.since c.self.inside.replica c.new-commit.result c.self.invariant.0
      (ap (λ (x : HandedCommit). x.state) c.new-commit.ensures ∙ subst (λ o. IfSome o (λ waiting. waiting ≡ c.self.inside.replica)) (sym c.take.ensures.value ∙ c.in-Some.is) c.self.invariant.1)
      (ap (λ (x : HandedCommit). x.since) c.new-commit.ensures ∙ (c.told.ensures ∙ ap told_by c.replace-since.ensures.value))
      (ap (λ (h : Handed). h.commits) c.hand.ensures)),
  subst (λ o. IfSome o (λ waiting. waiting ≡ c.self.inside.replica)) (sym c.take.ensures.after) tt,
)
