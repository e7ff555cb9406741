use Rattle.std.proofs.Common.{◌≡◌, []}
use Rattle.std.specs.List.{AllByRecursion}
use Rattle.plain_data.specs.Agreements.{with_all, read_off}
use Rattle.plain_data.specs.Pairs.{lookup}
use Rattle.state_diff.specs.MapDiffs.{both_differ, LeadAt}
use Rattle.state_diff.proofs.noting.diffs_at.Given as goal

abbrev pub invariant-loop-key : goal.invariant-loop-key
invariant-loop-key g l = record {
  made : with_all (read_off (λ key. both_differ g.V.PartialEq.eq g.V.Diffable.between (lookup key l.a) (lookup key l.b)) l.key-iterator) l.made ≡ with_all (read_off (λ key. both_differ g.V.PartialEq.eq g.V.Diffable.between (lookup key l.a) (lookup key l.b)) l.fn.keys) [];
  leads : AllByRecursion (λ p. LeadAt g.V.PartialEq.eq g.V.Diffable.between g.V.Diffable.patched l.a l.b p.0) l.key-iterator → AllByRecursion (λ p. LeadAt g.V.PartialEq.eq g.V.Diffable.between g.V.Diffable.patched l.a l.b p.0) l.fn.keys;
}
