use Rattle.std.proofs.Common.{false}
use Rattle.publication.specs.Deliveries.{IsDelivered}
use Rattle.publication.proofs.Walks.{HasGone}
use Rattle.publication.proofs.all_links.send_all.Given as goal

abbrev pub invariant-loop-place : goal.invariant-loop-place
invariant-loop-place g l =
    HasGone g.L.Link.meaning (λ before after was answer. IsDelivered l.outgoing.prev l.outgoing.new false before after answer) l.place l.initial.links l.links l.initial.answers l.answers
