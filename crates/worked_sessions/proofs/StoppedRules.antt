-- The session with timeouts and a close step keeps each of the eight rules, by computing them.
use Rattle.std.specs.Prelude.{unwrap_or, refl}
use Rattle.std.proofs.Common.{ap, arith}
use Rattle.meta_state.specs.Looks.{found_at}
use Rattle.executors.specs.Executions.{executed, folded}
use Rattle.executors.specs.TaskRuns.{task_outcome}
use Rattle.worked_sessions.proofs.Computing.{beyond, met_index, met_setting, never, unequal}
use Rattle.worked_sessions.proofs.ValidScripts.{stopped_valid}
use Rattle.session_law.specs.Changes.{change_between}
use Rattle.report_law.specs.GoodForm.{IsGoodForm}
use Rattle.session_law.specs.Lawful.{IsLawful}
use Rattle.worked_sessions.specs.WorkedLaws.{AreStoppedUnlawful, IsWorked}
use Rattle.session_law.specs.NodeRecords.{node_record}
use Rattle.session_law.specs.Publications.{reach_of}
use Rattle.session_law.specs.BatchSteps.{batch_step}
use Rattle.worked_sessions.specs.Stopped.{stopped_script, stopped_session, timing_out_on_a_hit}
use Rattle.session_law.specs.Summaries.{is_ok}
use Rattle.session_law.specs.Views.{views_of}
use Rattle.session_law.specs.Worlds.{first_world}

lawful : IsLawful stopped_script stopped_session
unfolding first_world batch_step reach_of executed folded task_outcome found_at node_record change_between views_of
lawful = grind (arith, met_index, met_setting)

good : IsGoodForm stopped_session
good = grind arith

pub stopped_session_is_lawful : IsWorked stopped_script stopped_session
stopped_session_is_lawful = record { valid = stopped_valid; lawful = lawful; good = good }

-- ---- what the rules leave open

pub timing_out_on_a_hit_is_lawful : IsLawful stopped_script timing_out_on_a_hit
unfolding first_world batch_step reach_of executed folded task_outcome found_at node_record change_between views_of
timing_out_on_a_hit_is_lawful = grind (arith, met_index, met_setting)

-- ---- what is changed breaks the rule that is looked at

pub changed_stopped_sessions_are_unlawful : AreStoppedUnlawful
unfolding first_world batch_step reach_of executed folded task_outcome
changed_stopped_sessions_are_unlawful = record {
  deadline = λ h. beyond 11 10 refl h.ended.ended.1.0.end.1.1;
  ended = λ h. never (ap is_ok h.ended.ended.1.0.end);
  begins = λ h. unequal 2 1 refl h.watched.parts.1.0.begins.1.1.0;
  parts = λ h. never (h.watched.continued.0 refl);
  continues = λ h. unequal 0 3 refl (ap (λ last. unwrap_or last 0) h.watched.parts.1.1.0.begins.0);
  watch = λ h. beyond 25 24 refl h.watched.parts.1.1.1.0.ends.1;
  close = λ h. never h.watched.parts.1.1.1.1.0.ends.0;
  shown = λ h. unequal 2 1 refl (h.watched.parts.1.1.1.1.1.0.after_close refl).0;
  read = λ h. beyond 3 2 refl h.read.found.0.1.0;
  closed = λ h. never (h.ended.ended.1.1.1.1.0.after_close refl);
}
