-- What a client is told of its acknowledgement: an end exactly where the course tells one.
use Rattle.std.specs.Prelude.{◌≡◌, ℕ, ◌==◌, Bool, true, false, not, ◌||◌, List, Option, Some, None, is_none, is_some, refl, if◌then◌else◌}
use Rattle.std.proofs.Common.{sym, ◌∙◌, ap}
use Rattle.std.proofs.Math.Bool.{true≢false}
use Rattle.ack_words.specs.declared.answers.AckPoll.{AckPoll}
use Rattle.ack_words.specs.declared.words.AckWord.{AckWord}
use Rattle.ack_words.specs.Acks.{word_poll}
use Rattle.ack_words.specs.Countdowns.{Countdown, poll_of, told_of}
use Rattle.ack_words.specs.Masks.{is_without_nodes}
use Rattle.scripts.specs.declared.whole_script.Script.{Script}
use Rattle.scripts.specs.declared.whole_script.ScriptNode.{ScriptNode}
use Rattle.session_law.specs.declared.batches.Batch.{Batch}
use Rattle.session_law.specs.Acknowledgements.{is_over_at, missing_of}
use Rattle.master_run.specs.AckBooks.{is_not_yet}
use Rattle.master_run.specs.AckCounts.{IsWordOf}
use Rattle.master_run.specs.AckCourses.{Acked, ack_end, answered_end, awaits_some, commit_in, due_in, end_by_time, is_late, timed_end}
use Rattle.master_run.specs.Nodes.{NodeCourse}
use Rattle.master_run.specs.SoFar.{IsLapsed}
use Rattle.master_run.proofs.AckMissing.{missing_awaits}
use Rattle.master_run.proofs.Keeping.{some_same}

-- ---- by what the code has

abbrev poll_so : Bool → Bool → ℕ → AckPoll
poll_so timed none failures = if timed then AckPoll.TimedOut else if none then told_of failures else AckPoll.NotYet

told_by : (b : Bool) (failures : ℕ) → is_not_yet (if b then AckPoll.All else AckPoll.Failed failures) ≡ false
told_by true failures = refl
told_by false failures = refl

-- a deadline that is over is one
over_some : (reading : ℕ) (deadline : Option ℕ) → is_over_at reading deadline ≡ true → is_some deadline ≡ true
over_some reading None over = over
over_some reading (Some at) over = refl

timed_none : (deadline : Option ℕ) (reading : ℕ) → is_some deadline ≡ true → is_none (timed_end deadline reading) ≡ false
timed_none None reading some = absurd (true≢false (sym some))
timed_none (Some at) reading some = refl

answered_none : (waits : Bool) (failures missing : ℕ) → is_not_yet (poll_so false (not waits) failures) ≡ is_none (answered_end waits missing)
answered_none true failures missing = refl
answered_none false failures missing = told_by (failures == 0) failures

-- ---- by when its time was over

lapsed_some : (a : Acked) (reading : ℕ) → IsLapsed (Some a) reading → is_some (due_in a) ≡ true
lapsed_some a reading h = over_some reading (due_in a) (ap (λ (b : Acked). is_over_at reading (due_in b)) (some_same a h.of h.found) ∙ h.over)

poll_by : (a : Acked) (nodes : List ScriptNode) (have : List NodeCourse) (lapse : Option ℕ) (missing : ℕ) (countdown : Countdown) (late : Bool) → is_late a ≡ late
    → countdown.timed ≡ (late || is_some lapse) → (countdown.timed ≡ false → is_without_nodes countdown.missing ≡ not (awaits_some a nodes have))
    → ((reading : ℕ) → lapse ≡ Some reading → IsLapsed (Some a) reading)
    → is_not_yet (poll_of countdown) ≡ is_none (end_by_time late (commit_in a) (due_in a) lapse (awaits_some a nodes have) missing)
poll_by a nodes have lapse missing countdown true e timed waits lapsed =
    ap (λ (t : Bool). is_not_yet (poll_so t (is_without_nodes countdown.missing) countdown.failures)) timed
    ∙ sym (timed_none (due_in a) (commit_in a) (over_some (commit_in a) (due_in a) e))
poll_by a nodes have (Some reading) missing countdown false e timed waits lapsed =
    ap (λ (t : Bool). is_not_yet (poll_so t (is_without_nodes countdown.missing) countdown.failures)) timed
    ∙ sym (timed_none (due_in a) reading (lapsed_some a reading (lapsed reading refl)))
poll_by a nodes have None missing countdown false e timed waits lapsed =
    (λ i. is_not_yet (poll_so (timed i) (waits timed i) countdown.failures))
    ∙ answered_none (awaits_some a nodes have) countdown.failures missing

pub told_by_poll : (script : Script) (batches : List Batch) (have : List NodeCourse) (a : Option Acked) (lapse : Option ℕ) (word : AckWord) → IsWordOf script.nodes have a lapse word
    → ((reading : ℕ) → lapse ≡ Some reading → IsLapsed a reading) → is_not_yet (word_poll word) ≡ is_none (ack_end script batches have lapse a)
told_by_poll script batches have None lapse word h lapsed = ap (λ (w : AckWord). is_not_yet (word_poll w)) h
told_by_poll script batches have (Some a) lapse word h lapsed =
    ap (λ (w : AckWord). is_not_yet (word_poll w)) h.is
    ∙ poll_by a script.nodes have lapse (missing_of script batches a.asked a.version) h.countdown (is_late a) refl h.timed
    (λ waits. missing_awaits a script.nodes have h.countdown (h.missing waits)) lapsed
