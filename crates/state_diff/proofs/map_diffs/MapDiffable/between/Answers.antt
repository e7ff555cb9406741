use Rattle.std.proofs.Common.{◌∙◌, ap}
use Rattle.state_diff.specs.MapDiffs.{map_patched}
use Rattle.state_diff.proofs.MapLaws.{whole_is, whole_leads}
use Rattle.state_diff.proofs.map_diffs.MapDiffable.between.Goals as goal

pub returns-clause-made : goal.returns-clause-made
returns-clause-made g c =
    whole_is g.V.PartialEq.eq g.V.Diffable.between g.V.Diffable.patched g.met.V.Exact.exact c.args.a.now c.args.b.now _ _ _ c.len.ensures.ordered c.len-2.ensures.ordered
    (c.from_map.ensures ∙ c.in_ok-deletes.ensures) c.in_ok-diffs.ensures.made c.in_ok-upserts.ensures

pub returns-clause-leads : goal.returns-clause-leads
returns-clause-leads g c =
    ap (λ d. map_patched g.V.Diffable.patched d c.args.a.now) (returns-clause-made g c)
    ∙ whole_leads g.V.PartialEq.eq g.V.Diffable.between g.V.Diffable.patched g.met.V.Exact.exact c.args.a.now c.args.b.now c.len.ensures.ordered c.len-2.ensures.ordered c.in_ok-diffs.ensures.leads
