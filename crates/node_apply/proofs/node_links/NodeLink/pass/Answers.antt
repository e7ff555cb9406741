use Rattle.std.proofs.Common.{◌∙◌, ap, refl}
use Rattle.node_apply.specs.Commits.{Handed, last_state}
use Rattle.node_apply.proofs.Receiving.{first_forgotten, link_after_pass}
use Rattle.node_apply.proofs.node_links.NodeLink.pass.Goals as goal

pub returns-clause-link : goal.returns-clause-link
returns-clause-link c =
    link_after_pass c.pass_on.result _ c.args.self.now c.self.inside.commits.commits c.forget_first.new.self c.pass_on.new.commits c.pass_on.new.base c.self.view_is refl
    (ap (λ (h : Handed). last_state c.self.inside.base h.commits) c.forget_first.ensures ∙ first_forgotten c.self.inside.base c.self.inside.commits.commits)
    (ap (λ (h : Handed). h.room) c.forget_first.ensures)
    c.pass_on.ensures.start
    c.pass_on.ensures.base
