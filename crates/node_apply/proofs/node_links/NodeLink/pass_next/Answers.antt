use Rattle.std.proofs.Common.{refl}
use Rattle.node_apply.proofs.Receiving.{link_after_pass}
use Rattle.node_apply.proofs.node_links.NodeLink.pass_next.Goals as goal

pub returns-clause-link : goal.returns-clause-link
returns-clause-link c =
    link_after_pass c.pass_on.result _ c.args.self.now c.self.inside.commits.commits c.self.inside.commits c.pass_on.new.commits c.pass_on.new.base c.self.view_is refl refl refl c.pass_on.ensures.start c.pass_on.ensures.base
