use Rattle.std.proofs.Common.{◌≡◌}
use Rattle.std.specs.Ordering.{eq_by_cmp}
use Rattle.report_law.specs.Apart.{are_apart_by}
use Rattle.report_law.proofs.Keys.{are_apart_and_new}
use Rattle.report_law.proofs.apart.are_keys_apart.Given as goal

-- all are apart exactly where those that are left are, and are new
abbrev pub invariant-loop-key : goal.invariant-loop-key
invariant-loop-key g l = are_apart_and_new g.K.Ord.cmp l.seen l.key-iterator.rest.items ≡ are_apart_by (eq_by_cmp g.K.Ord.cmp) l.fn.keys.items
