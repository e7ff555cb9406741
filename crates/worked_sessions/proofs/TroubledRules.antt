-- The session with faults keeps each of the eight rules, by computing them.
use Rattle.std.specs.Prelude.{refl}
use Rattle.std.proofs.Common.{sym, ap, arith}
use Rattle.meta_state.specs.Looks.{found_at}
use Rattle.executors.specs.Executions.{executed, folded}
use Rattle.executors.specs.TaskRuns.{task_outcome}
use Rattle.worked_sessions.proofs.Computing.{applied_in, beyond, diffs_in, id_in, never, unequal, version_in}
use Rattle.worked_sessions.proofs.ValidScripts.{troubled_valid}
use Rattle.session_law.specs.Changes.{change_between}
use Rattle.session_law.specs.Committed.{is_published}
use Rattle.report_law.specs.GoodForm.{IsGoodForm}
use Rattle.session_law.specs.Lawful.{IsLawful}
use Rattle.worked_sessions.specs.WorkedLaws.{AreTroubledUnlawful, IsWorked}
use Rattle.session_law.specs.NodeRecords.{node_record}
use Rattle.session_law.specs.Publications.{reach_of}
use Rattle.session_law.specs.BatchSteps.{batch_step}
use Rattle.session_law.specs.Summaries.{is_ok}
use Rattle.worked_sessions.specs.Troubled.{acknowledging_in_time, troubled_script, troubled_session}
use Rattle.session_law.specs.Views.{views_of}
use Rattle.session_law.specs.Worlds.{first_world}

lawful : IsLawful troubled_script troubled_session
unfolding first_world batch_step reach_of executed folded task_outcome found_at node_record change_between views_of
lawful = grind arith

good : IsGoodForm troubled_session
good = grind arith

pub troubled_session_is_lawful : IsWorked troubled_script troubled_session
troubled_session_is_lawful = record { valid = troubled_valid; lawful = lawful; good = good }

-- ---- what the rules leave open

pub acknowledging_in_time_is_lawful : IsLawful troubled_script acknowledging_in_time
unfolding first_world batch_step reach_of executed folded task_outcome found_at node_record change_between views_of
acknowledging_in_time_is_lawful = grind arith

-- ---- what is changed breaks the rule that is looked at

pub changed_troubled_sessions_are_unlawful : AreTroubledUnlawful
unfolding first_world batch_step reach_of executed folded task_outcome node_record
changed_troubled_sessions_are_unlawful = record {
  version = λ h. unequal 3 2 refl (ap version_in h.serial.serial.results.1.1.0);
  identifier = λ h. unequal 2 3 refl (ap id_in h.serial.serial.results.1.1.0);
  diffs = λ h. unequal 3 2 refl (ap diffs_in h.serial.serial.results.1.1.0);
  office = λ h. never (sym (ap is_published h.serial.serial.results.1.0));
  task = λ h. never (sym (ap is_ok h.ended.ended.0.end));
  full = λ h. unequal 2 0 refl h.acknowledged.answered.0;
  count = λ h. unequal 1 2 refl h.acknowledged.answered.0.0;
  deadline = λ h. beyond 15 14 refl h.acknowledged.answered.1.0.1;
  read = λ h. beyond 4 2 refl h.read.found.1.1.0.1.0;
  lost = λ h. never h.read.found.0.0;
  handed = λ h. unequal 4 3 refl (ap applied_in h.recorded.each.1.0);
  apply = λ h. unequal 4 3 refl (ap applied_in h.recorded.each.1.1.0);
}
