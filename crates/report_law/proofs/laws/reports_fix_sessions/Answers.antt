use Rattle.report_law.proofs.ReportTexts as law
use Rattle.report_law.proofs.laws.reports_fix_sessions.Goals as goal

pub returns : goal.returns
returns c = law.reports_fix_sessions
