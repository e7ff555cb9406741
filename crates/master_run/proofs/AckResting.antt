-- Where a course is at rest, each step that asks for an acknowledgement, and whose task succeeded, has one reply, as the
-- law says, and there are no others.
use Rattle.std.specs.Prelude.{◌≡◌, ℕ, ◌&&◌, true, [], length, count_by, Option, Some, None, refl}
use Rattle.std.proofs.Common.{sym, ◌∙◌, ap, subst}
use Rattle.std.proofs.Math.Bool.{true≢false}
use Rattle.std.specs.List.{AllByRecursion}
use Rattle.scripts.specs.declared.whole_script.Script.{Script}
use Rattle.scripts.specs.declared.steps.Ack.{Ack}
use Rattle.scripts.specs.declared.steps.Step.{Step}
use Rattle.session_law.specs.declared.replies.AckEnd.{AckEnd}
use Rattle.session_law.specs.declared.replies.AckEnd.TheVariants as ack
use Rattle.session_law.specs.declared.replies.AckReply.{AckReply}
use Rattle.session_law.specs.Acknowledgements.{IsAckEnd, IsAckReply, IsAcknowledged, asked_ack, does_ask, is_acked_step, is_success}
use Rattle.session_law.specs.Endings.{task_timeout_of}
use Rattle.session_law.specs.Histories.{step_at}
use Rattle.session_law.specs.Lawful.{is_ack_before, is_rising}
use Rattle.session_law.specs.Outcomes.{outcome_of}
use Rattle.session_law.specs.ScriptSteps.{NumberedStep, is_at, numbered_steps}
use Rattle.session_law.proofs.Collecting.{collected_all, collected_count, collected_rise, numbered_at}
use Rattle.task_words.specs.declared.end_codes.Outcome.{Outcome}
use Rattle.task_words.specs.declared.end_codes.Outcome.TheVariants as outcome
use Rattle.task_words.specs.declared.words.Word.{Word}
use Rattle.task_words.specs.declared.words.Word.TheVariants as word
use Rattle.master_run.specs.Courses.{Course, moment_at, word_of}
use Rattle.master_run.specs.Endings.{end_by}
use Rattle.master_run.specs.Nodes.{NodeCourse}
use Rattle.master_run.specs.Rests.{IsAtRest}
use Rattle.master_run.specs.Sessions.{ack_replies_of, ack_reply_at, ack_reply_by, ack_reply_so, acked_end, acked_word}
use Rattle.master_run.specs.SoFar.{IsLapsedSoFar, IsLawfulSoFar, IsWordLawful, is_over, is_submit_at}
use Rattle.master_run.specs.Steps.{ack_end_in}
use Rattle.master_run.proofs.AckOver.{acked_so, has_end, lawful_end}
use Rattle.master_run.proofs.Alls.{all_both, all_by}
use Rattle.master_run.proofs.AtEnd.{submits_over}
use Rattle.master_run.proofs.Keeping.{no_some, some_same}
use Rattle.master_run.proofs.Naming.{asks_submit}

-- ---- each reply

abbrev reply_with : ℕ → ℕ → AckEnd → AckReply
reply_with client step told = record { client = client; step = step; end = told }

-- what is told is what the outcome of the task asks
end_so : (script : Script) (k : Course) (client step : ℕ) (asked : Ack) (told : AckEnd) (o : Outcome) → IsLapsedSoFar script k.book.batches k.lapses → asked_ack (step_at script client step) ≡ Some asked
    → outcome_of script k.book.batches client step ≡ end_by o → acked_end (ack_end_in script k client step) o ≡ Some told
    → IsAckEnd script k.book.batches asked (reply_with client step told) (end_by o)
end_so script k client step asked told (outcome.Ok version) h asks ended e = lawful_end script k client step version asked told h asks ended e
end_so script k client step asked told (outcome.Unchanged version) h asks ended e = sym (some_same ack.All told e)
end_so script k client step asked told (outcome.Refused refusal) h asks ended e = absurd (no_some told e)
end_so script k client step asked told (outcome.BatchFailed position refusal) h asks ended e = absurd (no_some told e)
end_so script k client step asked told outcome.NotMaster h asks ended e = absurd (no_some told e)
end_so script k client step asked told outcome.PublishFailed h asks ended e = absurd (no_some told e)
end_so script k client step asked told outcome.Closed h asks ended e = absurd (no_some told e)

told_so : (script : Script) (k : Course) (client step at : ℕ) (timeout : Option ℕ) (asked : Ack) (told : AckEnd) (w : Word) → IsLapsedSoFar script k.book.batches k.lapses
    → asked_ack (step_at script client step) ≡ Some asked → IsWordLawful script k.book.batches k.waiting client step at timeout w → acked_word (ack_end_in script k client step) w ≡ Some told
    → IsAckEnd script k.book.batches asked (reply_with client step told) (outcome_of script k.book.batches client step)
told_so script k client step at timeout asked told word.Vacant h asks lawful e = absurd (no_some told e)
told_so script k client step at timeout asked told (word.Queued seen deadline) h asks lawful e = absurd (no_some told e)
told_so script k client step at timeout asked told (word.Taken seen batch) h asks lawful e = absurd (no_some told e)
told_so script k client step at timeout asked told (word.Ended code) h asks lawful e =
    subst (IsAckEnd script k.book.batches asked (reply_with client step told)) (sym lawful.outcome) (end_so script k client step asked told code.outcome h asks lawful.outcome e)
told_so script k client step at timeout asked told (word.Timed reading) h asks lawful e = absurd (no_some told e)

abbrev IsReply : Script → Course → AckReply → Type 0
IsReply script k a = IsAckReply script k.book.batches a (asked_ack (step_at script a.client a.step))

replies_so : (script : Script) (k : Course) (client step : ℕ) (asked : Option Ack) (told : Option AckEnd) → IsLawfulSoFar script k → asked_ack (step_at script client step) ≡ asked
    → acked_word (ack_end_in script k client step) (word_of k.tasks client step) ≡ told → AllByRecursion (IsReply script k) (ack_reply_so client step told asked)
replies_so script k client step None told h asks e = tt
replies_so script k client step (Some asked) None h asks e = tt
replies_so script k client step (Some asked) (Some told) h asks e = (
  subst (IsAckReply script k.book.batches (reply_with client step told)) (sym asks)
      (told_so script k client step (moment_at k.ats client step) (task_timeout_of (step_at script client step)) asked told (word_of k.tasks client step) h.lapsed asks (h.ended.words client step) e),
  tt,
)

-- ---- one for each

one_told : (client step : ℕ) (asked : Ack) (told : Option AckEnd) (end : AckEnd) → told ≡ Some end → length (ack_reply_so client step told (Some asked)) ≡ 1
one_told client step asked told end e = ap (λ (t : Option AckEnd). length (ack_reply_by client step t)) e

once_so : (script : Script) (k : Course) (client step : ℕ) (asked : Ack) (o : Outcome) → IsLapsedSoFar script k.book.batches k.lapses → AllByRecursion (λ (n : NodeCourse). n.left ≡ []) k.nodes
    → asked_ack (step_at script client step) ≡ Some asked → outcome_of script k.book.batches client step ≡ end_by o → is_success (end_by o) ≡ true
    → length (ack_reply_so client step (acked_end (ack_end_in script k client step) o) (Some asked)) ≡ 1
once_so script k client step asked (outcome.Ok version) h none asks ended so =
    let counts = acked_so script k.book.batches client step version asked asks ended in
    let there = has_end script k client step (record { asked = asked; version = version; stepped = counts.stepped }) h none counts.is in
    one_told client step asked (ack_end_in script k client step) there.0 there.1
once_so script k client step asked (outcome.Unchanged version) h none asks ended so = refl
once_so script k client step asked (outcome.Refused refusal) h none asks ended so = absurd (true≢false (sym so))
once_so script k client step asked (outcome.BatchFailed position refusal) h none asks ended so = absurd (true≢false (sym so))
once_so script k client step asked outcome.NotMaster h none asks ended so = absurd (true≢false (sym so))
once_so script k client step asked outcome.PublishFailed h none asks ended so = absurd (true≢false (sym so))
once_so script k client step asked outcome.Closed h none asks ended so = absurd (true≢false (sym so))

once_word : (script : Script) (k : Course) (client step at : ℕ) (timeout : Option ℕ) (asked : Ack) (w : Word) → IsLapsedSoFar script k.book.batches k.lapses
    → AllByRecursion (λ (n : NodeCourse). n.left ≡ []) k.nodes → asked_ack (step_at script client step) ≡ Some asked → IsWordLawful script k.book.batches k.waiting client step at timeout w
    → is_over w ≡ true → is_success (outcome_of script k.book.batches client step) ≡ true → length (ack_reply_so client step (acked_word (ack_end_in script k client step) w) (Some asked)) ≡ 1
once_word script k client step at timeout asked word.Vacant h none asks lawful over so = absurd (true≢false (sym over))
once_word script k client step at timeout asked (word.Queued seen deadline) h none asks lawful over so = absurd (true≢false (sym over))
once_word script k client step at timeout asked (word.Taken seen batch) h none asks lawful over so = absurd (true≢false (sym over))
once_word script k client step at timeout asked (word.Ended code) h none asks lawful over so =
    once_so script k client step asked code.outcome h none asks lawful.outcome (ap is_success (sym lawful.outcome) ∙ so)
once_word script k client step at timeout asked (word.Timed reading) h none asks lawful over so = absurd (true≢false (sym so ∙ ap is_success lawful.outcome))

once_asked : (script : Script) (k : Course) (client number : ℕ) (step : Step) (asked : Option Ack) → IsLawfulSoFar script k → IsAtRest script k → step_at script client number ≡ Some step
    → asked_ack (step_at script client number) ≡ asked → (does_ask asked && is_success (outcome_of script k.book.batches client number)) ≡ true
    → length (ack_reply_so client number (acked_word (ack_end_in script k client number) (word_of k.tasks client number)) asked) ≡ 1
once_asked script k client number step None h rests e asks so = absurd (true≢false (sym so))
once_asked script k client number step (Some asked) h rests e asks so =
    let own = sym (ap is_submit_at e) ∙ asks_submit (step_at script client number) asked asks in
    once_word script k client number (moment_at k.ats client number) (task_timeout_of (step_at script client number)) asked (word_of k.tasks client number) h.lapsed rests.applied asks
    (h.ended.words client number) (submits_over script k client number step h rests e own) so

told_one : (script : Script) (k : Course) (s : NumberedStep) → IsLawfulSoFar script k → IsAtRest script k → step_at script s.client s.number ≡ Some s.step
    → is_acked_step script k.book.batches s.client s.number ≡ true → length (ack_reply_at script k s) ≡ 1
told_one script k s h rests e so =
    ap (λ (o : Option Step). length (ack_reply_so s.client s.number (acked_word (ack_end_in script k s.client s.number) (word_of k.tasks s.client s.number)) (asked_ack o))) (sym e)
    ∙ once_asked script k s.client s.number s.step (asked_ack (step_at script s.client s.number)) h rests e refl so

-- ---- the whole

carries_by : (s : NumberedStep) (told : Option AckEnd) (asked : Option Ack) → AllByRecursion (λ (a : AckReply). (a.client ≡ s.client) × (a.step ≡ s.number)) (ack_reply_so s.client s.number told asked)
carries_by s told None = tt
carries_by s None (Some asked) = tt
carries_by s (Some told) (Some asked) = ((refl, refl), tt)

carries : (script : Script) (k : Course) (s : NumberedStep) → AllByRecursion (λ (a : AckReply). (a.client ≡ s.client) × (a.step ≡ s.number)) (ack_reply_at script k s)
carries script k s = carries_by s (acked_word (ack_end_in script k s.client s.number) (word_of k.tasks s.client s.number)) (asked_ack (Some s.step))

rises_by : (s : NumberedStep) (told : Option AckEnd) (asked : Option Ack) → is_rising is_ack_before (ack_reply_so s.client s.number told asked) ≡ true
rises_by s told None = refl
rises_by s None (Some asked) = refl
rises_by s (Some told) (Some asked) = refl

pub is_acknowledged : (script : Script) (k : Course) → IsLawfulSoFar script k → IsAtRest script k → IsAcknowledged script k.book.batches (ack_replies_of script k)
is_acknowledged script k h rests = record {
  answered = collected_all script (ack_reply_at script k) (IsReply script k)
      (λ s e.
      let told = acked_word (ack_end_in script k s.client s.number) (word_of k.tasks s.client s.number) in
      subst (λ (o : Option Step). AllByRecursion (IsReply script k) (ack_reply_so s.client s.number told (asked_ack o))) e
      (replies_so script k s.client s.number (asked_ack (step_at script s.client s.number)) told h refl refl));
  once =
      let acks = ack_replies_of script k in
      all_by (λ s. (step_at script s.client s.number ≡ Some s.step) × (count_by (λ a. is_at s.client s.number a.client a.step) acks ≡ length (ack_reply_at script k s)))
      (λ s. is_acked_step script k.book.batches s.client s.number ≡ true → count_by (λ a. is_at s.client s.number a.client a.step) acks ≡ 1)
      (λ s both so. both.1 ∙ told_one script k s h rests both.0 so) (numbered_steps script)
      (all_both (λ s. step_at script s.client s.number ≡ Some s.step) (λ s. count_by (λ a. is_at s.client s.number a.client a.step) acks ≡ length (ack_reply_at script k s)) (numbered_steps script)
      (numbered_at script) (collected_count script (λ (a : AckReply). a.client) (λ (a : AckReply). a.step) (ack_reply_at script k) (carries script k)));
}

pub acks_rise : (script : Script) (k : Course) → is_rising is_ack_before (ack_replies_of script k) ≡ true
acks_rise script k =
    collected_rise script (λ (a : AckReply). a.client) (λ (a : AckReply). a.step) (ack_reply_at script k) is_ack_before (carries script k) (λ a b less. less)
    (λ s. rises_by s (acked_word (ack_end_in script k s.client s.number) (word_of k.tasks s.client s.number)) (asked_ack (Some s.step)))
