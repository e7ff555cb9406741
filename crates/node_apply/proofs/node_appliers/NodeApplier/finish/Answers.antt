use Rattle.std.proofs.Common.{◌∙◌, ap}
use Rattle.node_apply.specs.Applying.{record_of}
use Rattle.node_apply.proofs.Tying.{handed_is}
use Rattle.node_apply.proofs.node_appliers.NodeApplier.finish.Goals as goal

pub returns : goal.returns
returns c =
    (λ i. record {
      node = c.self.inside.node;
      handed = (c.from_vec.ensures ∙ (c.self.invariant.0.handed ∙ handed_is c.self.inside.applies.items c.self.inside.commits)) i;
      first = c.self.inside.first;
      applies = c.from_vec-2.ensures i;
      view = c.into_view.ensures i;
    }) ∙ ap record_of c.self.view_is
