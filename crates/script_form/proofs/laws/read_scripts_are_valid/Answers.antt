use Rattle.script_form.proofs.ReadWhole.{read_valid}
use Rattle.script_form.proofs.laws.read_scripts_are_valid.Goals as goal

pub returns : goal.returns
returns c = read_valid
