use Rattle.std.proofs.Common.{false, arith, rules}
use Rattle.publication.specs.Deliveries.{CanTake, HoldsOldOrNew, IsDelivered}
use Rattle.publication.proofs.Holding.{delivered_holds, holds_what_it_held}
use Rattle.publication.proofs.Walks.{gone_on, gone_through, still_link, stopped, three_of_four}
use Rattle.publication.proofs.all_links.send_all.Goals as goal

pub send-requires : goal.send-requires
send-requires g c =
    let change = c.args.outgoing.now in
    still_link g.L.Link.meaning (λ before after was answer. IsDelivered change.prev change.new false before after answer) (CanTake change.prev change.new)
    c.loop-place.place c.args.links.now c.loop-place.links c.args.answers.now c.loop-place.answers _ c.loop-place.invariant c.requires.links (omega arith)

pub returns-in_err-answers-clause-out_of_memory : goal.returns-in_err-answers-clause-out_of_memory
returns-in_err-answers-clause-out_of_memory g c =
    let change = c.args.outgoing.now in
    let holds = stopped g.L.Link.meaning (λ before after was answer. IsDelivered change.prev change.new false before after answer) (HoldsOldOrNew change.new)
    (holds_what_it_held change.new) (λ before after was answer. delivered_holds change.prev change.new false before after answer)
    c.loop-place.place c.args.links.now c.loop-place.links c.args.answers.now c.loop-place.answers _ c.send.new.link c.loop-place.invariant (omega arith) c.in_err-answers.ensures.out_of_memory in
    search rules

pub loop-place-preserved : goal.loop-place-preserved
loop-place-preserved g c =
    let change = c.args.outgoing.now in
    gone_on g.L.Link.meaning (λ before after was answer. IsDelivered change.prev change.new false before after answer) c.loop-place.place c.args.links.now c.loop-place.links c.args.answers.now
    c.loop-place.answers _ c.send.new.link (record { asked = false; accepted = false; by_diff = false; votes = false; leads = false; handed = false }) c.in_ok-answers.field-0
    c.loop-place.invariant (omega arith) (omega arith) c.in_ok-answers.ensures.sent

pub returns-clause-sent : goal.returns-clause-sent
returns-clause-sent g c =
    let change = c.args.outgoing.now in
    three_of_four (IsDelivered change.prev change.new false) _ _ c.args.answers.now c.loop-place.answers
    (gone_through g.L.Link.meaning (λ before after was answer. IsDelivered change.prev change.new false before after answer) c.loop-place.place c.args.links.now c.loop-place.links c.args.answers.now
    c.loop-place.answers c.loop-place.invariant (omega arith) (omega arith))
