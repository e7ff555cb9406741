use Rattle.std.proofs.Common.{◌++◌, ◌∙◌, Some, ap, sym, subst}
use Rattle.std.specs.Option.{unwrap_or}
use Rattle.node_apply.specs.Applying.{Node, last_of_node}
use Rattle.node_apply.specs.Commits.{AreLinked}
use Rattle.node_apply.proofs.Tying.{tied_passed}
use Rattle.node_apply.proofs.node_appliers.NodeApplier.take_over.Goals as goal

pub invariant_of-self-2 : goal.invariant_of-self-2
invariant_of-self-2 c = (
  tied_passed c.self.inside.applied (unwrap_or c.self.inside.missed c.self.inside.applied.state) c.self.inside.behind c.self.inside.commits c.self.inside.handed.items c.self.inside.applies.items
      c.self.invariant.0 c.args.start.now.commits c.take_all.new.self c.append.new.self.items
      (subst (λ (n : Node). AreLinked (Some (last_of_node n)) c.args.start.now.commits) (sym c.self.view_is) c.requires)
      c.in_ok-take_all.ensures.ok
      (c.in-Ok.ensures.items ∙ (ap (λ l. l ++ c.in_ok-versions.versions.items) c.in_ok-reserve.ensures.items ∙ ap (λ l. c.self.inside.handed.items ++ l) c.in_ok-versions.ensures)),
  c.self.invariant.1,
)
