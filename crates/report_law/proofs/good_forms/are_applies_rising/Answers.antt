use Rattle.std.proofs.Common.{rules}
use Rattle.report_law.specs.GoodForm.{is_apply_before}
use Rattle.report_law.proofs.Rising.{rises_by}
use Rattle.report_law.proofs.good_forms.are_applies_rising.Goals as goal

pub returns : goal.returns
returns c = rises_by is_apply_before _ _ c.is_sorted_by.ensures.cases (λ a r g called. search rules)
