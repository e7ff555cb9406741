use Rattle.std.proofs.Common.{arith}
use Rattle.std.proofs.lemmas.Slice.Zip.{AllZip-long}
use Rattle.publication.proofs.Walks.{gone_on, gone_through, still}
use Rattle.master_run.specs.Passing.{CanPass}
use Rattle.master_run.proofs.PassedOn.{IsPassedOn, can_each, itself, links_passed, nodes_passed}
use Rattle.master_run.proofs.passing.pass_all.Goals as goal

pub bounds-nodes-place : goal.bounds-nodes-place
bounds-nodes-place c = let long = AllZip-long CanPass c.args.links.now c.args.nodes.now c.requires in omega arith

pub pass_next-requires-clause-name : goal.pass_next-requires-clause-name
pass_next-requires-clause-name c =
    (still itself IsPassedOn CanPass c.loop-place.place c.args.links.now c.loop-place.links c.args.nodes.now c.loop-place.nodes c.index-links-place.result c.index-nodes-place.result c.loop-place.invariant
    (can_each c.args.links.now c.args.nodes.now c.requires) (omega arith)).name

pub pass_next-requires-clause-base : goal.pass_next-requires-clause-base
pass_next-requires-clause-base c =
    (still itself IsPassedOn CanPass c.loop-place.place c.args.links.now c.loop-place.links c.args.nodes.now c.loop-place.nodes c.index-links-place.result c.index-nodes-place.result c.loop-place.invariant
    (can_each c.args.links.now c.args.nodes.now c.requires) (omega arith)).base

pub loop-place-preserved : goal.loop-place-preserved
loop-place-preserved c =
    let long = AllZip-long CanPass c.args.links.now c.args.nodes.now c.requires in
    gone_on itself IsPassedOn c.loop-place.place c.args.links.now c.loop-place.links c.args.nodes.now c.loop-place.nodes c.index-links-place.result c.pass_next.new.self
    c.index-nodes-place.result c.pass_next.new.applier c.loop-place.invariant (omega arith) (omega arith) (c.in_ok-pass_next.ensures.link, c.in_ok-pass_next.ensures.passed)

pub returns-clause-nodes : goal.returns-clause-nodes
returns-clause-nodes c =
    let long = AllZip-long CanPass c.args.links.now c.args.nodes.now c.requires in
    nodes_passed c.args.links.now c.loop-place.links c.args.nodes.now c.loop-place.nodes
    (gone_through itself IsPassedOn c.loop-place.place c.args.links.now c.loop-place.links c.args.nodes.now c.loop-place.nodes c.loop-place.invariant (omega arith) (omega arith))

pub returns-clause-links : goal.returns-clause-links
returns-clause-links c =
    let long = AllZip-long CanPass c.args.links.now c.args.nodes.now c.requires in
    links_passed c.args.links.now c.loop-place.links c.args.nodes.now c.loop-place.nodes
    (gone_through itself IsPassedOn c.loop-place.place c.args.links.now c.loop-place.links c.args.nodes.now c.loop-place.nodes c.loop-place.invariant (omega arith) (omega arith))
