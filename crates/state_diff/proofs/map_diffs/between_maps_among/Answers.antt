use Rattle.std.proofs.Common.{◌∙◌, ap}
use Rattle.state_diff.specs.MapDiffs.{map_patched}
use Rattle.state_diff.proofs.MapLaws.{among_is, among_leads}
use Rattle.state_diff.proofs.map_diffs.between_maps_among.Goals as goal

pub returns-clause-made : goal.returns-clause-made
returns-clause-made g c =
    among_is g.V.PartialEq.eq g.V.Diffable.between g.V.Diffable.patched g.met.V.Exact.exact c.args.a.now c.args.b.now _ _ _ c.args.names.now c.len-3.ensures.ordered c.len.ensures.ordered c.len-2.ensures.ordered c.requires
    (c.from_map.ensures ∙ c.in_ok-deletes.ensures) c.in_ok-diffs.ensures.made c.in_ok-upserts.ensures

pub returns-clause-leads : goal.returns-clause-leads
returns-clause-leads g c =
    ap (λ d. map_patched g.V.Diffable.patched d c.args.a.now) (returns-clause-made g c)
    ∙ among_leads g.V.PartialEq.eq g.V.Diffable.between g.V.Diffable.patched g.met.V.Exact.exact c.args.a.now c.args.b.now c.args.names.now c.len.ensures.ordered c.len-2.ensures.ordered c.requires c.in_ok-diffs.ensures.leads
