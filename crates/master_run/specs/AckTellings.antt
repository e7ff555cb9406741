-- What the words of the code tell of the ends of acknowledgements: those of tasks, those of acknowledgements, and the
-- batches that published. This form is the project's own.
use Rattle.std.specs.Prelude.{◌≡◌, ◌-◌, ◌<◌, ◌≤◌, ℕ, List, [], Option, Some, None, IsTrue, length, option_map, slice_get, unwrap_or}
use Rattle.ack_words.specs.declared.answers.AckPoll.{AckPoll}
use Rattle.ack_words.specs.Acks.{word_at, word_poll}
use Rattle.scripts.specs.declared.whole_script.Script.{Script}
use Rattle.scripts.specs.declared.steps.Ack.{Ack}
use Rattle.scripts.specs.declared.steps.Step.{Step}
use Rattle.session_law.specs.declared.batches.Batch.{Batch}
use Rattle.session_law.specs.declared.replies.AckEnd.{AckEnd}
use Rattle.session_law.specs.declared.replies.AckEnd.TheVariants as ack
use Rattle.session_law.specs.declared.replies.AckReply.{AckReply}
use Rattle.session_law.specs.Acknowledgements.{asked_ack}
use Rattle.session_law.specs.Collected.{collected}
use Rattle.session_law.specs.DueTimes.{due}
use Rattle.session_law.specs.Histories.{commit_of}
use Rattle.session_law.specs.ScriptSteps.{NumberedStep}
use Rattle.task_words.specs.declared.words.Word.{Word}
use Rattle.task_words.specs.declared.words.Word.TheVariants as word
use Rattle.task_words.specs.Words.{IsWithin, TaskTable}
use Rattle.master_run.specs.AckBooks.{AckBook, ack_number, is_in_lane, reading_at}
use Rattle.master_run.specs.AckCourses.{timed_end}
use Rattle.master_run.specs.Courses.{id_at, word_of}
use Rattle.master_run.specs.Sessions.{ack_reply_by, acked_end}

-- ---- one end

-- the batch of a number: the first has 1
abbrev pub batch_at : List Batch → ℕ → Option Batch
batch_at batches number = slice_get batches (number - 1)

-- of one that timed out: at a reading after its batch's commit, or else at that commit
abbrev pub timed_in : Option ℕ → Option ℕ → Option Batch → Option AckEnd
timed_in timeout reading None = None
timed_in timeout reading (Some batch) = timed_end (option_map (due batch.at) timeout) (unwrap_or reading (commit_of batch.result))

abbrev pub polled_end : Option ℕ → Option ℕ → Option Batch → AckPoll → Option AckEnd
polled_end timeout reading batch AckPoll.All = Some ack.All
polled_end timeout reading batch (AckPoll.Failed count) = Some (ack.Failed count)
polled_end timeout reading batch AckPoll.TimedOut = timed_in timeout reading batch
polled_end timeout reading batch AckPoll.NotYet = None

-- by the word of the acknowledgement
abbrev pub counted_end : AckBook → List Batch → ℕ → ℕ → Option ℕ → ℕ → Option AckEnd
counted_end acks batches client step timeout number =
    polled_end timeout (reading_at acks (ack_number acks.lanes client step)) (batch_at batches number) (word_poll (word_at acks.words (ack_number acks.lanes client step)))

-- by the word of its task
abbrev pub told_end : AckBook → List Batch → ℕ → ℕ → Option ℕ → Word → Option AckEnd
told_end acks batches client step timeout (word.Ended code) = acked_end (counted_end acks batches client step timeout code.batch) code.outcome
told_end acks batches client step timeout _ = None

-- ---- all ends

-- where a step asks for one
abbrev pub told_reply : AckBook → List Batch → ℕ → ℕ → Word → Option Ack → List AckReply
told_reply acks batches client step w None = []
told_reply acks batches client step w (Some asked) = ack_reply_by client step (told_end acks batches client step asked.timeout w)

abbrev pub told_at : TaskTable → AckBook → List Batch → NumberedStep → List AckReply
told_at tasks acks batches s = told_reply acks batches s.client s.number (word_of tasks s.client s.number) (asked_ack (Some s.step))

abbrev pub ack_replies_by : Script → TaskTable → AckBook → List Batch → List AckReply
ack_replies_by script tasks acks batches = collected script (told_at tasks acks batches)

-- ---- what the code of this asks

-- a step has the word of its task and that of its acknowledgement
pub record HasAckCell (tasks : TaskTable) (acks : AckBook) (client step : ℕ) : Type 0 where
  pub word : IsWithin tasks (id_at client step)
  pub inside : IsTrue (is_in_lane acks.lanes client step)

-- so has each step of a client
pub record HasAckLane (tasks : TaskTable) (acks : AckBook) (client : ℕ) (steps : List Step) : Type 0 where
  pub cells : (step : ℕ) → step < length steps → HasAckCell tasks acks client step
  pub few : length steps ≤ 4096

-- so has each client's
pub record HaveAckLanes (script : Script) (tasks : TaskTable) (acks : AckBook) : Type 0 where
  pub lanes : (client : ℕ) (steps : List Step) → slice_get script.clients client ≡ Some steps → HasAckLane tasks acks client steps
  pub few : length script.clients ≤ 32
