use Rattle.plain_data.proofs.Agreements.{agree_behind, equal_from_agreement, differ_from_lookups}
use Rattle.plain_data.proofs.comparisons.is_same_among.Goals as goal

pub returns-then-not-is_same_at : goal.returns-then-not-is_same_at
returns-then-not-is_same_at g c = differ_from_lookups g.V.PartialEq.eq g.met.V.Exact.exact c.args.a.now c.args.b.now c.in-Some.name.now (λ same. (cc (c.is_same_at.ensures.1 same, c.if-not-is_same_at.true)))

pub loop-name-preserved : goal.loop-name-preserved
loop-name-preserved g c = agree_behind c.loop-name.name-iterator c.in-Some.name.now c.next.new.self c.args.a.now c.args.b.now c.in-Some.ensures.steps (c.is_same_at.ensures.0 c.if-not-is_same_at.false) c.loop-name.invariant

pub returns : goal.returns
returns g c = equal_from_agreement g.V.PartialEq.eq g.met.V.Exact.exact c.args.a.now c.args.b.now c.len.ensures.ordered c.len-2.ensures.ordered c.loop-name.name-iterator c.in-None.ensures.steps.0 c.loop-name.invariant
