use Rattle.std.proofs.Common.{rules}
use Rattle.std.specs.Prelude.{nat_lt}
use Rattle.report_law.proofs.Rising.{rises_by}
use Rattle.report_law.proofs.good_forms.are_numbers_rising.Goals as goal

pub returns : goal.returns
returns c = rises_by nat_lt _ _ c.is_sorted_by.ensures.cases (λ a r g called. search rules)
