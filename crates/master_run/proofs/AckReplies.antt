-- The replies to acknowledgements that the code collects, by its words, are those that the course tells, where the script
-- has no faults.
use Rattle.std.specs.Prelude.{◌≡◌, ℕ, ◌==◌, ◌||◌, Bool, true, false, not, List, [], ◌∷◌, ◌++◌, flat_map, Option, Some, None, is_some, refl, if◌then◌else◌}
use Rattle.std.proofs.Common.{sym, ◌∙◌, ap, subst}
use Rattle.std.proofs.Math.Bool.{true≢false}
use Rattle.std.proofs.lemmas.Bool.{cond-true}
use Rattle.std.specs.List.{AllByRecursion}
use Rattle.ack_words.specs.declared.answers.AckPoll.{AckPoll}
use Rattle.ack_words.specs.declared.words.AckWord.{AckWord}
use Rattle.ack_words.specs.Acks.{word_at, word_poll}
use Rattle.ack_words.specs.Countdowns.{Countdown, told_of}
use Rattle.ack_words.specs.Masks.{is_without_nodes}
use Rattle.scripts.specs.declared.whole_script.Script.{Script}
use Rattle.scripts.specs.declared.steps.Ack.{Ack}
use Rattle.session_law.specs.declared.batches.Batch.{Batch}
use Rattle.session_law.specs.declared.replies.AckEnd.{AckEnd}
use Rattle.session_law.specs.declared.replies.AckEnd.TheVariants as ack
use Rattle.session_law.specs.Acknowledgements.{asked_ack, missing_of}
use Rattle.session_law.specs.Endings.{task_timeout_of}
use Rattle.session_law.specs.Histories.{commit_of, step_at}
use Rattle.session_law.specs.ScriptSteps.{NumberedStep, numbered_steps}
use Rattle.session_law.proofs.Collecting.{numbered_at}
use Rattle.task_words.specs.declared.end_codes.Outcome.{Outcome}
use Rattle.task_words.specs.declared.end_codes.Outcome.TheVariants as outcome
use Rattle.task_words.specs.declared.words.Word.{Word}
use Rattle.task_words.specs.declared.words.Word.TheVariants as word
use Rattle.master_run.specs.AckBooks.{AckBook, ack_number, is_in_lane, lapses_of, reading_at}
use Rattle.master_run.specs.AckCounts.{AreCounted, IsCountdown, IsWordOf}
use Rattle.master_run.specs.AckCourses.{Acked, ack_end, answered_end, awaits_some, commit_in, due_in, end_by_time, is_late, timed_end}
use Rattle.master_run.specs.AckTellings.{ack_replies_by, batch_at, counted_end, polled_end, told_at, told_end, told_reply}
use Rattle.master_run.specs.Courses.{Course, moment_at, word_of}
use Rattle.master_run.specs.Endings.{end_by}
use Rattle.master_run.specs.Sessions.{ack_replies_of, ack_reply_at, ack_reply_by, ack_reply_so, acked_end, acked_word}
use Rattle.master_run.specs.SoFar.{IsEndedIn, IsLapsed, IsLawfulSoFar, IsWordLawful}
use Rattle.master_run.specs.Steps.{ack_end_in}
use Rattle.master_run.proofs.AckEnds.{none_fails, stepped_commit, stepped_number}
use Rattle.master_run.proofs.AckLanes.{in_lane}
use Rattle.master_run.proofs.AckMissing.{missing_awaits}
use Rattle.master_run.proofs.AckOver.{acked_so}
use Rattle.master_run.proofs.Alls.{all_by}
use Rattle.master_run.proofs.Keeping.{some_same}

-- ---- what agrees at each item is the same of all

same_flat : {A B : Type 0} (f g : A → List B) (xs : List A) → AllByRecursion (λ x. f x ≡ g x) xs → flat_map f xs ≡ flat_map g xs
same_flat f g [] all = refl
same_flat f g (x ∷ xs) all = let rest = same_flat f g xs all.1 in λ i. all.0 i ++ rest i

-- ---- what its word tells of one that counts

abbrev poll_so : Bool → Bool → ℕ → AckPoll
poll_so timed none failures = if timed then AckPoll.TimedOut else if none then told_of failures else AckPoll.NotYet

-- none was late that timed out after its commit
never_late : (a : Acked) (reading : ℕ) → is_late a ≡ true → IsLapsed (Some a) reading → ⊥
never_late a reading late h = true≢false (sym late ∙ ap is_late (some_same a h.of h.found) ∙ h.early)

abbrev polled_by : Acked → Option ℕ → AckPoll → Option AckEnd
polled_by a lapse poll = polled_end a.asked.timeout lapse (Some a.stepped.batch) poll

answered_same : (a : Acked) (waits : Bool) (failures missing : ℕ) → failures ≡ 0 → missing ≡ 0 → polled_by a None (poll_so false (not waits) failures) ≡ answered_end waits missing
answered_same a true failures missing e f = refl
answered_same a false failures missing e f =
    ap (λ (n : ℕ). polled_by a None (told_of n)) e ∙ ap (λ (n : ℕ). Some (if n == 0 then ack.All else ack.Failed n)) (sym f)

polled_same : (a : Acked) (lapse : Option ℕ) (countdown : Countdown) (waits : Bool) (missing : ℕ) (late : Bool) → is_late a ≡ late → commit_of a.stepped.batch.result ≡ commit_in a
    → countdown.failures ≡ 0 → missing ≡ 0 → countdown.timed ≡ (late || is_some lapse) → (countdown.timed ≡ false → is_without_nodes countdown.missing ≡ not waits)
    → ((reading : ℕ) → lapse ≡ Some reading → IsLapsed (Some a) reading)
    → polled_by a lapse (poll_so countdown.timed (is_without_nodes countdown.missing) countdown.failures) ≡ end_by_time late (commit_in a) (due_in a) lapse waits missing
polled_same a (Some reading) countdown waits missing true is same none zero timed rest lapsed = absurd (never_late a reading is (lapsed reading refl))
polled_same a None countdown waits missing true is same none zero timed rest lapsed =
    ap (λ (t : Bool). polled_by a None (poll_so t (is_without_nodes countdown.missing) countdown.failures)) timed ∙ ap (timed_end (due_in a)) same
polled_same a (Some reading) countdown waits missing false is same none zero timed rest lapsed =
    ap (λ (t : Bool). polled_by a (Some reading) (poll_so t (is_without_nodes countdown.missing) countdown.failures)) timed
polled_same a None countdown waits missing false is same none zero timed rest lapsed =
    (λ i. polled_by a None (poll_so (timed i) (rest timed i) countdown.failures)) ∙ answered_same a waits countdown.failures missing none zero

-- by the word of one that counts
word_tells : (script : Script) (k : Course) (a : Acked) (lapse : Option ℕ) (w : AckWord) → IsCountdown script.nodes k.nodes a lapse w → commit_of a.stepped.batch.result ≡ commit_in a
    → missing_of script k.book.batches a.asked a.version ≡ 0 → ((reading : ℕ) → lapse ≡ Some reading → IsLapsed (Some a) reading)
    → polled_by a lapse (word_poll w) ≡ ack_end script k.book.batches k.nodes lapse (Some a)
word_tells script k a lapse w h same zero lapsed =
    ap (λ (w : AckWord). polled_by a lapse (word_poll w)) h.is
    ∙ polled_same a lapse h.countdown (awaits_some a script.nodes k.nodes) (missing_of script k.book.batches a.asked a.version) (is_late a) refl same h.failures zero h.timed
    (λ waits. missing_awaits a script.nodes k.nodes h.countdown (h.missing waits)) lapsed

-- ---- at one step

-- the reading that the code keeps of a step is the course's
lapse_same : (k : Course) (b : AckBook) (client step : ℕ) → k.lapses ≡ lapses_of b → is_in_lane b.lanes client step ≡ true → k.lapses client step ≡ reading_at b (ack_number b.lanes client step)
lapse_same k b client step lapses inside =
    ap (λ (l : ℕ → ℕ → Option ℕ). l client step) lapses ∙ cond-true (is_in_lane b.lanes client step) (reading_at b (ack_number b.lanes client step)) None inside

counted_same : (script : Script) (k : Course) (b : AckBook) (client step batch version : ℕ) (asked : Ack) → IsLawfulSoFar script k → AreCounted script k.book.batches k.nodes b → script.faults ≡ []
    → k.lapses ≡ lapses_of b → is_in_lane b.lanes client step ≡ true → asked_ack (step_at script client step) ≡ Some asked
    → IsEndedIn script k.book.batches client step batch (end_by (outcome.Ok version))
    → counted_end b k.book.batches client step asked.timeout batch ≡ ack_end_in script k client step
counted_same script k b client step batch version asked h counted none lapses inside asks ended =
    let batches = k.book.batches in
    let so = acked_so script batches client step version asked asks ended.outcome in
    let a : Acked = record { asked = asked; version = version; stepped = so.stepped } in
    let number = ack_number b.lanes client step in
    let lapse = reading_at b number in
    let same = lapse_same k b client step lapses inside in
    let is_batch = ap (λ (n : ℕ). batch_at batches n) ended.number ∙ stepped_number script batches client step so.stepped so.found in
    let of_word = subst (λ (o : Option Acked). IsWordOf script.nodes k.nodes o lapse (word_at b.words number)) so.is (counted.words client step inside) in
    ap (λ (found : Option Batch). polled_end asked.timeout lapse found (word_poll (word_at b.words number))) is_batch
    ∙ word_tells script k a lapse (word_at b.words number) of_word (stepped_commit script batches client step so.stepped h.ordered.kept.serial so.found)
    (none_fails script batches k.book.world client step a none h.ordered.kept so.is)
    (λ reading e. subst (λ (o : Option Acked). IsLapsed o reading) so.is (h.lapsed client step reading (same ∙ e)))
    ∙ (λ i. ack_end script batches k.nodes (sym same i) (sym so.is i))

code_same : (script : Script) (k : Course) (b : AckBook) (client step batch : ℕ) (asked : Ack) (o : Outcome) → IsLawfulSoFar script k → AreCounted script k.book.batches k.nodes b → script.faults ≡ []
    → k.lapses ≡ lapses_of b → is_in_lane b.lanes client step ≡ true → asked_ack (step_at script client step) ≡ Some asked → IsEndedIn script k.book.batches client step batch (end_by o)
    → acked_end (counted_end b k.book.batches client step asked.timeout batch) o ≡ acked_end (ack_end_in script k client step) o
code_same script k b client step batch asked (outcome.Ok version) h counted none lapses inside asks ended = counted_same script k b client step batch version asked h counted none lapses inside asks ended
code_same script k b client step batch asked (outcome.Unchanged version) h counted none lapses inside asks ended = refl
code_same script k b client step batch asked (outcome.Refused refusal) h counted none lapses inside asks ended = refl
code_same script k b client step batch asked (outcome.BatchFailed position refusal) h counted none lapses inside asks ended = refl
code_same script k b client step batch asked outcome.NotMaster h counted none lapses inside asks ended = refl
code_same script k b client step batch asked outcome.PublishFailed h counted none lapses inside asks ended = refl
code_same script k b client step batch asked outcome.Closed h counted none lapses inside asks ended = refl

end_same : (script : Script) (k : Course) (b : AckBook) (client step at : ℕ) (timeout : Option ℕ) (asked : Ack) (w : Word) → IsLawfulSoFar script k → AreCounted script k.book.batches k.nodes b
    → script.faults ≡ [] → k.lapses ≡ lapses_of b → is_in_lane b.lanes client step ≡ true → asked_ack (step_at script client step) ≡ Some asked
    → IsWordLawful script k.book.batches k.waiting client step at timeout w
    → told_end b k.book.batches client step asked.timeout w ≡ acked_word (ack_end_in script k client step) w
end_same script k b client step at timeout asked word.Vacant h counted none lapses inside asks lawful = refl
end_same script k b client step at timeout asked (word.Queued seen deadline) h counted none lapses inside asks lawful = refl
end_same script k b client step at timeout asked (word.Taken seen batch) h counted none lapses inside asks lawful = refl
end_same script k b client step at timeout asked (word.Ended code) h counted none lapses inside asks lawful =
    code_same script k b client step code.batch asked code.outcome h counted none lapses inside asks lawful
end_same script k b client step at timeout asked (word.Timed reading) h counted none lapses inside asks lawful = refl

reply_same : (script : Script) (k : Course) (b : AckBook) (client step : ℕ) (asked : Option Ack) → IsLawfulSoFar script k → AreCounted script k.book.batches k.nodes b → script.faults ≡ []
    → k.lapses ≡ lapses_of b → is_in_lane b.lanes client step ≡ true → asked_ack (step_at script client step) ≡ asked
    → told_reply b k.book.batches client step (word_of k.tasks client step) asked ≡ ack_reply_so client step (acked_word (ack_end_in script k client step) (word_of k.tasks client step)) asked
reply_same script k b client step None h counted none lapses inside asks = refl
reply_same script k b client step (Some asked) h counted none lapses inside asks =
    ap (ack_reply_by client step)
    (end_same script k b client step (moment_at k.ats client step) (task_timeout_of (step_at script client step)) asked (word_of k.tasks client step) h counted none lapses inside asks
    (h.ended.words client step))

-- ---- the whole

step_same : (script : Script) (k : Course) (b : AckBook) (s : NumberedStep) → IsLawfulSoFar script k → AreCounted script k.book.batches k.nodes b → script.faults ≡ [] → k.lapses ≡ lapses_of b
    → step_at script s.client s.number ≡ Some s.step → told_at k.tasks b k.book.batches s ≡ ack_reply_at script k s
step_same script k b s h counted none lapses e =
    let inside = ap (λ (lanes : List ℕ). is_in_lane lanes s.client s.number) counted.lanes ∙ in_lane script s.client s.number s.step e in
    reply_same script k b s.client s.number (asked_ack (Some s.step)) h counted none lapses inside (ap asked_ack e)

pub told_replies : (script : Script) (k : Course) (b : AckBook) → IsLawfulSoFar script k → AreCounted script k.book.batches k.nodes b → script.faults ≡ [] → k.lapses ≡ lapses_of b
    → ack_replies_by script k.tasks b k.book.batches ≡ ack_replies_of script k
told_replies script k b h counted none lapses =
    same_flat (told_at k.tasks b k.book.batches) (ack_reply_at script k) (numbered_steps script)
    (all_by (λ s. step_at script s.client s.number ≡ Some s.step) (λ s. told_at k.tasks b k.book.batches s ≡ ack_reply_at script k s)
    (λ s e. step_same script k b s h counted none lapses e) (numbered_steps script) (numbered_at script))
