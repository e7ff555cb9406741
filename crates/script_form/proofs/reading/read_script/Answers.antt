use Rattle.script_form.proofs.ReadWhole.{whole_read}
use Rattle.script_form.proofs.reading.read_script.Goals as goal

pub returns-in-Ok-clause-valid : goal.returns-in-Ok-clause-valid
returns-in-Ok-clause-valid c = (whole_read _ _ c.in-Ok.ensures).0

pub returns-in-Ok-clause-built : goal.returns-in-Ok-clause-built
returns-in-Ok-clause-built c = (whole_read _ _ c.in-Ok.ensures).1
