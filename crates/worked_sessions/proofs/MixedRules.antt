-- The session with the other ends that tasks have keeps each of the eight rules, by computing them.
use Rattle.std.specs.Prelude.{Bool, true, false, refl}
use Rattle.std.proofs.Common.{sym, ap, arith}
use Rattle.meta_state.specs.Looks.{found_at}
use Rattle.session_law.specs.declared.task_ends.TaskEnd.{TaskEnd}
use Rattle.session_law.specs.declared.task_ends.TaskEnd.TheVariants as end
use Rattle.executors.specs.Executions.{executed, folded}
use Rattle.executors.specs.TaskRuns.{task_outcome}
use Rattle.worked_sessions.proofs.Computing.{applied_in, beyond, diffs_in, first_in, id_in, met_index, never, unequal}
use Rattle.worked_sessions.proofs.ValidScripts.{mixed_valid}
use Rattle.session_law.specs.Changes.{change_between}
use Rattle.session_law.specs.Committed.{is_published}
use Rattle.report_law.specs.GoodForm.{IsGoodForm}
use Rattle.session_law.specs.Lawful.{IsLawful}
use Rattle.worked_sessions.specs.WorkedLaws.{AreMixedUnlawful, IsWorked}
use Rattle.worked_sessions.specs.Mixed.{mixed_script, mixed_session}
use Rattle.session_law.specs.NodeRecords.{node_record}
use Rattle.session_law.specs.Publications.{reach_of}
use Rattle.session_law.specs.Reads.{is_all}
use Rattle.session_law.specs.BatchSteps.{batch_step}
use Rattle.session_law.specs.Summaries.{is_ok}
use Rattle.session_law.specs.Views.{views_of}
use Rattle.session_law.specs.Worlds.{first_world}

lawful : IsLawful mixed_script mixed_session
unfolding first_world batch_step reach_of executed folded task_outcome found_at node_record change_between views_of
lawful = grind (arith, met_index)

good : IsGoodForm mixed_session
good = grind arith

pub mixed_session_is_lawful : IsWorked mixed_script mixed_session
mixed_session_is_lawful = record { valid = mixed_valid; lawful = lawful; good = good }

-- ---- what is changed breaks the rule that is looked at

is_refused : TaskEnd → Bool
is_refused (end.Refused refusal) = true
is_refused _ = false

pub changed_mixed_sessions_are_unlawful : AreMixedUnlawful
unfolding first_world batch_step reach_of executed folded task_outcome is_refused node_record
changed_mixed_sessions_are_unlawful = record {
  diffs = λ h. unequal 2 1 refl (ap diffs_in h.serial.serial.results.0);
  unchanged = λ h. never (sym (ap is_published h.serial.serial.results.1.1.1.0));
  identifier = λ h. unequal 5 4 refl (ap id_in h.serial.serial.results.1.1.1.1.0);
  left = λ h. unequal 2 1 refl (ap diffs_in h.serial.serial.results.1.1.1.1.0);
  order = λ h. never (ap is_ok h.ended.ended.1.0.end);
  failed = λ h. never (sym (ap is_refused h.ended.ended.1.1.1.0.end));
  refused = λ h. h.acknowledged.answered.1.0;
  late = λ h. never (sym (ap is_all h.acknowledged.answered.1.1.0));
  place = λ h. beyond 2 0 refl (h.placed.0 refl);
  read = λ h. beyond 3 2 refl h.read.found.1.0.1.0;
  first = λ h. unequal 1 0 refl (ap first_in h.recorded.each.1.0);
  handed = λ h. unequal 4 3 refl (ap applied_in h.recorded.each.1.0);
}
