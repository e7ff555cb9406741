use Rattle.std.proofs.Common.{drop}
use Rattle.std.specs.List.{AllByRecursion}
use Rattle.report_law.proofs.bounds.ItemsBounded.bound.Given as goal

-- where those that are left are bounded, all are
abbrev pub invariant-loop-item : goal.invariant-loop-item
invariant-loop-item g l =
    AllByRecursion g.T.Bounded.is_bounded (drop l.item-index l.fn.self) → AllByRecursion g.T.Bounded.is_bounded l.fn.self
