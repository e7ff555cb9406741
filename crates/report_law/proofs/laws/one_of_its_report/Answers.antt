use Rattle.report_law.proofs.ReportTexts.{reports_fix_sessions}
use Rattle.report_law.proofs.laws.one_of_its_report.Goals as goal

pub returns : goal.returns
returns c = λ good fine same. reports_fix_sessions _ _ c.numbers_are_words.ensures c.numbers_are_words-2.ensures good fine same
