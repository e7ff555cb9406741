use Rattle.std.proofs.Common.{false, map, subst}
use Rattle.publication.specs.Deliveries.{IsDelivered}
use Rattle.publication.specs.Offers.{Change}
use Rattle.publication.specs.Threes.{AllThree}
use Rattle.publication.proofs.Settling.{delivery_settled}
use Rattle.publication.proofs.deliveries.deliver.Goals as goal

pub returns-clause-delivered : goal.returns-clause-delivered
returns-clause-delivered g c =
    let answers = c.in_ok-answers.answers.items in
    let before = map g.L.Link.meaning c.args.links.now in
    let sent = map g.L.Link.meaning c.send-sent.new.links in
    delivery_settled c.args.prev.now c.args.new.now before sent (map g.L.Link.meaning c.settle.new.links) answers c.settle.result
    (subst (λ (change : Change). AllThree (IsDelivered change.prev change.new false) before sent answers) c.in_ok-outgoing.ensures c.in_ok-answers.ensures.sent) c.settle.ensures
