use Rattle.std.specs.List.{AllByRecursion}
use Rattle.report_law.proofs.bounds.bound_pairs.Given as goal

-- where those that are left are bounded, all are
abbrev pub invariant-loop-value : goal.invariant-loop-value
invariant-loop-value g l =
    AllByRecursion (λ p. g.V.Bounded.is_bounded p.1) l.value-iterator → AllByRecursion (λ p. g.V.Bounded.is_bounded p.1) l.fn.pairs
