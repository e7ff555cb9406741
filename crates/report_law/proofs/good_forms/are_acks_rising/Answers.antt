use Rattle.std.proofs.Common.{rules}
use Rattle.session_law.specs.Lawful.{is_ack_before}
use Rattle.report_law.proofs.Rising.{rises_by}
use Rattle.report_law.proofs.good_forms.are_acks_rising.Goals as goal

pub returns : goal.returns
returns c = rises_by is_ack_before _ _ c.is_sorted_by.ensures.cases (λ a r g called. search rules)
