-- The worked session keeps each of the eight rules, by computing them.
use Rattle.std.specs.Prelude.{List, [], ◌∷◌, codes, length, unwrap_or, refl}
use Rattle.std.proofs.Common.{sym, ap, ◌∙◌, arith}
use Rattle.executors.specs.Executions.{executed, folded}
use Rattle.executors.specs.TaskRuns.{task_outcome}
use Rattle.meta_state.specs.Looks.{found_at}
use Rattle.worked_sessions.proofs.Computing.{beyond, met_index, never, unequal}
use Rattle.worked_sessions.proofs.ValidScripts.{worked_valid}
use Rattle.session_law.specs.declared.batches.BatchResult.{BatchResult}
use Rattle.session_law.specs.declared.node_records.NodeRec.{NodeRec}
use Rattle.session_law.specs.Changes.{change_between}
use Rattle.report_law.specs.GoodForm.{IsGoodForm}
use Rattle.session_law.specs.Lawful.{IsLawful}
use Rattle.session_law.specs.Histories.{world_after}
use Rattle.worked_sessions.specs.WorkedLaws.{AreUnlawful, IsWorked}
use Rattle.session_law.specs.Laws.{published_version}
use Rattle.session_law.specs.NodeRecords.{node_record}
use Rattle.session_law.specs.Publications.{reach_of}
use Rattle.session_law.specs.BatchSteps.{batch_step}
use Rattle.session_law.specs.Views.{views_of}
use Rattle.worked_sessions.specs.Worked.{one_task, worked_script, worked_session}
use Rattle.session_law.specs.Worlds.{first_world}

lawful : IsLawful worked_script worked_session
unfolding first_world batch_step reach_of executed folded task_outcome found_at node_record change_between views_of
lawful = grind (arith, met_index)

good : IsGoodForm worked_session
good = grind arith

pub worked_session_is_lawful : IsWorked worked_script worked_session
worked_session_is_lawful = record { valid = worked_valid; lawful = lawful; good = good }

-- ---- what is changed breaks the rule that is looked at

pub changed_sessions_are_unlawful : AreUnlawful
unfolding first_world batch_step reach_of executed folded task_outcome
changed_sessions_are_unlawful = record {
  version = λ h. unequal 4 3 refl (ap (λ (r : BatchResult). unwrap_or (published_version r) 0) h.serial.serial.results.1.0);
  seen = λ h. unequal 0 1 refl h.serial.seen.1.0;
  task = λ h. unequal 0 1 refl (h.ended.once.1.1.0 refl);
  acknowledgement = λ h. unequal 0 1 refl (h.acknowledged.once.0 refl);
  failure = λ h. unequal 1 0 refl h.acknowledged.answered.0.0;
  answer = λ h. never (sym (met_index (world_after worked_script (one_task 0 0 2 ∷ [])).state (codes "b")) ∙ h.watched.parts.1.0.ends.0);
  read = λ h. beyond 2 1 refl h.read.found.0.1.0;
  place = λ h. beyond 3 1 refl (h.placed.0 refl);
  node = λ h. unequal 0 1 refl (ap (λ (records : List NodeRec). length records) h.recorded.each.1.0);
  order = λ h. never h.final.order.replies;
}
