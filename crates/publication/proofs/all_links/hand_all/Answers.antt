use Rattle.std.proofs.Common.{arith}
use Rattle.publication.specs.Handings.{CanBeHanded, IsHanded}
use Rattle.publication.proofs.Walks.{gone_on, gone_through, still}
use Rattle.publication.proofs.all_links.hand_all.Goals as goal

pub hand_to-requires-clause-ready : goal.hand_to-requires-clause-ready
hand_to-requires-clause-ready g c =
    still g.L.Link.meaning IsHanded (CanBeHanded c.args.new.now) c.loop-place.place c.args.links.now c.loop-place.links c.args.answers.now c.loop-place.answers _ _ c.loop-place.invariant c.requires.ready (omega arith)

pub loop-place-preserved : goal.loop-place-preserved
loop-place-preserved g c =
    gone_on g.L.Link.meaning IsHanded c.loop-place.place c.args.links.now c.loop-place.links c.args.answers.now c.loop-place.answers _ c.hand_to.new.link _ c.hand_to.result
    c.loop-place.invariant (omega arith) (omega arith) c.hand_to.ensures

pub returns : goal.returns
returns g c = gone_through g.L.Link.meaning IsHanded c.loop-place.place c.args.links.now c.loop-place.links c.args.answers.now c.loop-place.answers c.loop-place.invariant (omega arith) (omega arith)
