-- What is shown of the worked sessions: each is lawful and of good form, and with one thing changed it isn't lawful. It is
-- this project's own.
use Rattle.scripts.specs.declared.whole_script.Script.{Script}
use Rattle.scripts.specs.Scripts.{IsScript}
use Rattle.session_law.specs.declared.sessions.Session.{Session}
use Rattle.worked_sessions.specs.Awaiting.{awaiting_script, closing_an_awaited_task, closing_an_awaited_watch}
use Rattle.report_law.specs.GoodForm.{IsGoodForm}
use Rattle.session_law.specs.Lawful.{IsLawful}
use Rattle.worked_sessions.specs.Mixed.{acknowledging_a_refusal, acknowledging_too_late, applying_after_it_left, beginning_as_a_member, counting_a_node_that_left, mixed_script, publishing_what_agrees, reading_behind_an_awaited_watch, refusing_one_of_a_failed_batch, refusing_the_first, sending_a_new_node_a_diff, using_up_an_identifier, watching_before_the_ack}
use Rattle.worked_sessions.specs.Stopped.{beginning_a_place_late, closing_by_another_step, continuing_from_nothing, leaving_the_second_part, reading_behind_the_watch, running_after_the_close, running_what_timed_out, showing_after_the_close, stopped_script, timing_out_early, timing_out_on_a_hit, watching_too_short}
use Rattle.worked_sessions.specs.Troubled.{acknowledging_in_full, acknowledging_in_time, applying_a_lost_commit, applying_in_spite_of_a_fault, counting_a_full_as_a_diff, counting_one_failure, keeping_the_dropped_state, reading_a_lost_commit, reading_backwards, reusing_the_identifier, running_out_of_office, telling_a_dropped_task_ok, timing_out_an_ack_early, troubled_script}
use Rattle.worked_sessions.specs.Worked.{answering_early, beginning_early, failing_the_ack, leaving_a_node, leaving_a_task, leaving_the_ack, reading_the_first_state, seeing_nothing, skipping_a_version, turning_the_replies, worked_script}

-- ---- there are lawful sessions of valid scripts: each of these keeps the eight rules, and is of good form

pub record IsWorked (script : Script) (session : Session) : Type 0 where
  pub valid : IsScript script
  pub lawful : IsLawful script session
  pub good : IsGoodForm session

-- ---- what the rules leave open is lawful either way: whether an acknowledgement comes in time or not, and whether a task
-- times out or is closed; and a watch may time out as it is shown a state that hits it

pub record AreOpen : Type 0 where
  pub acknowledgement : IsLawful troubled_script acknowledging_in_time
  pub watch : IsLawful stopped_script timing_out_on_a_hit

-- ---- changed ones aren't lawful

pub record AreUnlawful : Type 0 where
  pub version : ¬ IsLawful worked_script skipping_a_version
  pub seen : ¬ IsLawful worked_script seeing_nothing
  pub task : ¬ IsLawful worked_script leaving_a_task
  pub acknowledgement : ¬ IsLawful worked_script leaving_the_ack
  pub failure : ¬ IsLawful worked_script failing_the_ack
  pub answer : ¬ IsLawful worked_script answering_early
  pub read : ¬ IsLawful worked_script reading_the_first_state
  pub place : ¬ IsLawful worked_script beginning_early
  pub node : ¬ IsLawful worked_script leaving_a_node
  pub order : ¬ IsLawful worked_script turning_the_replies

-- faults, failed acknowledgements and an acknowledgement that times out
pub record AreTroubledUnlawful : Type 0 where
  pub version : ¬ IsLawful troubled_script keeping_the_dropped_state
  pub identifier : ¬ IsLawful troubled_script reusing_the_identifier
  pub diffs : ¬ IsLawful troubled_script counting_a_full_as_a_diff
  pub office : ¬ IsLawful troubled_script running_out_of_office
  pub task : ¬ IsLawful troubled_script telling_a_dropped_task_ok
  pub full : ¬ IsLawful troubled_script acknowledging_in_full
  pub count : ¬ IsLawful troubled_script counting_one_failure
  pub deadline : ¬ IsLawful troubled_script timing_out_an_ack_early
  pub read : ¬ IsLawful troubled_script reading_backwards
  pub lost : ¬ IsLawful troubled_script reading_a_lost_commit
  pub handed : ¬ IsLawful troubled_script applying_a_lost_commit
  pub apply : ¬ IsLawful troubled_script applying_in_spite_of_a_fault

-- timeouts, watches in parts and a close step
pub record AreStoppedUnlawful : Type 0 where
  pub deadline : ¬ IsLawful stopped_script timing_out_early
  pub ended : ¬ IsLawful stopped_script running_what_timed_out
  pub begins : ¬ IsLawful stopped_script beginning_a_place_late
  pub parts : ¬ IsLawful stopped_script leaving_the_second_part
  pub continues : ¬ IsLawful stopped_script continuing_from_nothing
  pub watch : ¬ IsLawful stopped_script watching_too_short
  pub close : ¬ IsLawful stopped_script closing_by_another_step
  pub shown : ¬ IsLawful stopped_script showing_after_the_close
  pub read : ¬ IsLawful stopped_script reading_behind_the_watch
  pub closed : ¬ IsLawful stopped_script running_after_the_close

-- a node that joins and leaves, refusals, a batch that fails, one that changes nothing, and a late acknowledgement
pub record AreMixedUnlawful : Type 0 where
  pub diffs : ¬ IsLawful mixed_script sending_a_new_node_a_diff
  pub unchanged : ¬ IsLawful mixed_script publishing_what_agrees
  pub identifier : ¬ IsLawful mixed_script using_up_an_identifier
  pub left : ¬ IsLawful mixed_script counting_a_node_that_left
  pub order : ¬ IsLawful mixed_script refusing_the_first
  pub failed : ¬ IsLawful mixed_script refusing_one_of_a_failed_batch
  pub refused : ¬ IsLawful mixed_script acknowledging_a_refusal
  pub late : ¬ IsLawful mixed_script acknowledging_too_late
  pub place : ¬ IsLawful mixed_script watching_before_the_ack
  pub read : ¬ IsLawful mixed_script reading_behind_an_awaited_watch
  pub first : ¬ IsLawful mixed_script beginning_as_a_member
  pub handed : ¬ IsLawful mixed_script applying_after_it_left

-- what was awaited before the close step is closed by it
pub record AreAwaitingUnlawful : Type 0 where
  pub task : ¬ IsLawful awaiting_script closing_an_awaited_task
  pub watch : ¬ IsLawful awaiting_script closing_an_awaited_watch
