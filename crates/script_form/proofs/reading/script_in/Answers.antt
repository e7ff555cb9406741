use Rattle.script_form.proofs.ReadWhole.{parts_read}
use Rattle.script_form.proofs.reading.script_in.Goals as goal

pub is_workable-requires : goal.is_workable-requires
is_workable-requires c = parts_read _ _ c.in_ok-script.ensures
