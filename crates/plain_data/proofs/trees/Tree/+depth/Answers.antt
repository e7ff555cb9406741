use Rattle.std.proofs.Common.{◌∙◌, ◌∷◌, ap, length, length-append, arith}
use Rattle.plain_data.proofs.Flatness.{below_power}
use Rattle.plain_data.proofs.trees.Tree.+depth.Goals as goal

pub returns-in-Some-clause-least : goal.returns-in-Some-clause-least
returns-in-Some-clause-least g t c =
    below_power (length c.in-Some.node.now.left) (length c.in-Some.node.now.right) c.depth.result c.depth-in-Some.result c.max.result (length c.args.self.now) c.saturating_add.result
    c.depth.ensures.least c.depth-in-Some.ensures.least c.depth.ensures.most c.depth-in-Some.ensures.most c.max.ensures
    (ap length c.in-Some.ensures ∙ length-append c.in-Some.node.now.left (c.in-Some.node.now.pair ∷ c.in-Some.node.now.right)) (omega arith) c.saturating_add.ensures
