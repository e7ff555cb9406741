use Rattle.report_law.proofs.KeptForms as law
use Rattle.report_law.proofs.laws.kept_sessions_are_of_good_form.Goals as goal

pub returns : goal.returns
returns c = law.kept_sessions_are_of_good_form
