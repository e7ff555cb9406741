use Rattle.worked_sessions.proofs.StoppedRules as stopped
use Rattle.worked_sessions.proofs.TroubledRules as troubled
use Rattle.worked_sessions.proofs.laws.open_choices_are_lawful.Goals as goal

pub returns : goal.returns
returns c = record { acknowledgement = troubled.acknowledging_in_time_is_lawful; watch = stopped.timing_out_on_a_hit_is_lawful }
