-- A client that performs a step leaves a course lawful so far: a submit, an await, a sleep.
use Rattle.std.specs.Prelude.{◌≡◌, ◌≢◌, ℕ, ◌+◌, ◌<◌, ◌⊎◌, Bool, true, false, not, ◌&&◌, ◌==◌, max, List, length, Option, Some, None, slice_set, refl}
use Rattle.std.proofs.Common.{sym, ◌∙◌, ap, subst, arith, inl, inr}
use Rattle.std.proofs.Math.Bool.{true≢false}
use Rattle.std.proofs.lemmas.List.{get_or-set_other, get_or-set_same, length-set}
use Rattle.std.specs.Cmp.{unsigned_Decides}
use Rattle.scripts.specs.declared.whole_script.Script.{Script}
use Rattle.scripts.specs.declared.steps.Goal.TheVariants as goal
use Rattle.scripts.specs.declared.steps.Step.{Step}
use Rattle.scripts.specs.declared.steps.Step.TheVariants.{Await, Sleep}
use Rattle.scripts.specs.Scripts.{is_submit}
use Rattle.session_law.specs.declared.batches.Batch.{Batch}
use Rattle.session_law.specs.declared.replies.AckEnd.{AckEnd}
use Rattle.session_law.specs.Endings.{does_await_task, task_timeout_of}
use Rattle.session_law.specs.Histories.{Queued, queued_of, step_at}
use Rattle.session_law.specs.ScriptSteps.{is_at}
use Rattle.session_law.specs.Outcomes.{batch_number_of}
use Rattle.session_law.specs.SerialHistories.{awaited_batch, seen_of}
use Rattle.session_law.proofs.Growth.{seen_next}
use Rattle.task_words.specs.declared.end_codes.Outcome.{Outcome}
use Rattle.task_words.specs.declared.end_codes.Outcome.TheVariants as outcome
use Rattle.task_words.specs.declared.words.Word.{Word}
use Rattle.task_words.specs.declared.words.Word.TheVariants as word
use Rattle.task_words.specs.Words.{TaskTable}
use Rattle.plain_data.proofs.Cells.{same_or_not}
use Rattle.master_intake.specs.declared.entries.Waiting.{Waiting}
use Rattle.master_run.specs.Books.{Chronicle}
use Rattle.master_run.specs.Courses.{Course, moment_at, next_at, seen_at, word_of}
use Rattle.master_run.specs.SoFar.{IsLawfulSoFar, IsOrderedSoFar, IsPassed, IsPassedSoFar, IsPerformed, IsSeenSoFar, IsWaiting, IsWordLawful, is_over, is_passed, is_submit_at, is_vacant}
use Rattle.master_run.specs.Steps.{ack_told, batch_told, code_told, moved_on, slept_by}
use Rattle.master_run.proofs.Alls.{all_by}
use Rattle.master_run.proofs.Keeping.{no_some, some_same}
use Rattle.master_run.proofs.Positions.{client_within, next_other, next_rises, next_same, not_passed, passed_now, passed_or_now, passed_other}
use Rattle.master_run.proofs.Wordwise.{at_back}

-- ---- a step that isn't a submit: which words there are stays

performed_by : (script : Script) (positions : List ℕ) (tasks : TaskTable) (ats : List (List ℕ)) (client c s : ℕ) (step : Step) (b : Bool) → is_at client (next_at positions client) c s ≡ b
    → IsPerformed script positions tasks ats → step_at script client (next_at positions client) ≡ Some step → is_submit step ≡ false → client < length positions
    → not (is_vacant (word_of tasks c s)) ≡ (is_passed (moved_on positions client) c s && is_submit_at (step_at script c s))
performed_by script positions tasks ats client c s step true e h at none within =
    let n = next_at positions client in
    at_back (λ (x y : ℕ). not (is_vacant (word_of tasks x y)) ≡ (is_passed (moved_on positions client) x y && is_submit_at (step_at script x y))) client n c s e
    (h.cells client n ∙ (λ i. not_passed positions client i && is_submit_at (step_at script client n))
    ∙ sym ((λ i. passed_now positions client within i && is_submit_at (at i)) ∙ none))
performed_by script positions tasks ats client c s step false e h at none within =
    h.cells c s ∙ (λ i. sym (passed_other positions client c s within e) i && is_submit_at (step_at script c s))

pub performed_on : (script : Script) (positions : List ℕ) (tasks : TaskTable) (ats : List (List ℕ)) (client : ℕ) (step : Step) → IsPerformed script positions tasks ats
    → step_at script client (next_at positions client) ≡ Some step → is_submit step ≡ false → client < length positions → IsPerformed script (moved_on positions client) tasks ats
performed_on script positions tasks ats client step h at none within = record {
  places = length-set positions client (next_at positions client + 1) ∙ h.places;
  lanes = h.lanes;
  rows = h.rows;
  cells = λ c s. performed_by script positions tasks ats client c s step (is_at client (next_at positions client) c s) refl h at none within;
}

-- ---- any step: what is passed stays so

still_passed : (positions : List ℕ) (client : ℕ) (placed : Queued) → IsPassed positions placed → IsPassed (moved_on positions client) placed
still_passed positions client placed h = let more = next_rises positions client placed.entry.client in omega arith

waits_on : (script : Script) (positions : List ℕ) (client : ℕ) (w : Waiting) → IsWaiting script positions w → IsWaiting script (moved_on positions client) w
waits_on script positions client w h = record {
  queue = h.queue;
  of_queue = h.of_queue;
  own = h.own;
  passed = let more = next_rises positions client w.entry.id.client in let less = h.passed in omega arith;
}

pub ordered_on : (script : Script) (book : Chronicle) (waiting : List Waiting) (positions : List ℕ) (client : ℕ) → IsOrderedSoFar script book waiting positions
    → IsOrderedSoFar script book waiting (moved_on positions client)
ordered_on script book waiting positions client h = record {
  kept = h.kept;
  passed = all_by (IsPassed positions) (IsPassed (moved_on positions client)) (still_passed positions client) (queued_of book.batches) h.passed;
  waits = all_by (IsWaiting script positions) (IsWaiting script (moved_on positions client)) (waits_on script positions client) waiting h.waits;
  apart = h.apart;
  among = h.among;
}

-- what the clients have seen, where the one that moves has seen what its step teaches
seen_by : (script : Script) (batches : List Batch) (positions awaited now : List ℕ) (client c : ℕ) (step : Step) → (c ≡ client) ⊎ (c ≢ client) → client < length positions
    → step_at script client (next_at positions client) ≡ Some step → ((x : ℕ) → seen_at awaited x ≡ seen_of script batches x (next_at positions x))
    → seen_at now client ≡ max (seen_at awaited client) (awaited_batch batches client step) → ((x : ℕ) → x ≢ client → seen_at now x ≡ seen_at awaited x)
    → seen_at now c ≡ seen_of script batches c (next_at (moved_on positions client) c)
seen_by script batches positions awaited now client c step (inl same) within at clients here others =
    subst (λ (x : ℕ). seen_at now x ≡ seen_of script batches x (next_at (moved_on positions client) x)) (sym same)
    (here ∙ ap (λ (n : ℕ). max n (awaited_batch batches client step)) (clients client) ∙ sym (seen_next script batches client (next_at positions client) step at)
    ∙ ap (seen_of script batches client) (sym (next_same positions client within)))
seen_by script batches positions awaited now client c step (inr differs) within at clients here others =
    others c differs ∙ clients c ∙ ap (seen_of script batches c) (sym (next_other positions client c differs))

pub seen_on : (script : Script) (batches : List Batch) (tasks : TaskTable) (positions awaited now : List ℕ) (client : ℕ) (step : Step) → IsSeenSoFar script batches tasks positions awaited
    → client < length positions → step_at script client (next_at positions client) ≡ Some step → length now ≡ length awaited
    → seen_at now client ≡ max (seen_at awaited client) (awaited_batch batches client step) → ((x : ℕ) → x ≢ client → seen_at now x ≡ seen_at awaited x)
    → IsSeenSoFar script batches tasks (moved_on positions client) now
seen_on script batches tasks positions awaited now client step h within at long here others = record {
  places = long ∙ h.places;
  in_book = h.in_book;
  waiting = h.waiting;
  clients = λ c. seen_by script batches positions awaited now client c step (same_or_not c client) within at h.clients here others;
}

same_or_more : (n : ℕ) → n ≡ max n 0
same_or_more n = omega arith

-- of a step that awaits no task
pub seen_as_before : (script : Script) (batches : List Batch) (tasks : TaskTable) (positions awaited : List ℕ) (client : ℕ) (step : Step) → IsSeenSoFar script batches tasks positions awaited
    → client < length positions → step_at script client (next_at positions client) ≡ Some step → awaited_batch batches client step ≡ 0
    → IsSeenSoFar script batches tasks (moved_on positions client) awaited
seen_as_before script batches tasks positions awaited client step h within at none =
    seen_on script batches tasks positions awaited awaited client step h within at refl
    (same_or_more (seen_at awaited client) ∙ ap (λ (n : ℕ). max (seen_at awaited client) n) (sym none)) (λ x differs. refl)

-- what is awaited is over, where that is so of the step that is performed
passed_from : (script : Script) (positions : List ℕ) (tasks : TaskTable) (client c n e : ℕ) (step s : Step) → (n < next_at positions c) ⊎ ((c ≡ client) × (n ≡ next_at positions client))
    → IsPassedSoFar script positions tasks → step_at script client (next_at positions client) ≡ Some step
    → ((earlier : ℕ) → does_await_task earlier step ≡ true → is_over (word_of tasks client earlier) ≡ true) → step_at script c n ≡ Some s → does_await_task e s ≡ true → is_over (word_of tasks c e) ≡ true
passed_from script positions tasks client c n e step s (inl less) h at over f awaits = h c n e s less f awaits
passed_from script positions tasks client c n e step s (inr same) h at over f awaits =
    let here : step_at script client (next_at positions client) ≡ Some s =
    subst (λ (x : ℕ). step_at script client x ≡ Some s) same.1 (subst (λ (x : ℕ). step_at script x n ≡ Some s) same.0 f) in
    subst (λ (x : ℕ). is_over (word_of tasks x e) ≡ true) (sym same.0) (over e (ap (does_await_task e) (some_same step s (sym at ∙ here)) ∙ awaits))

pub passed_on : (script : Script) (positions : List ℕ) (tasks : TaskTable) (client : ℕ) (step : Step) → IsPassedSoFar script positions tasks → client < length positions
    → step_at script client (next_at positions client) ≡ Some step → ((earlier : ℕ) → does_await_task earlier step ≡ true → is_over (word_of tasks client earlier) ≡ true)
    → IsPassedSoFar script (moved_on positions client) tasks
passed_on script positions tasks client step h within at over c n e s less f awaits =
    passed_from script positions tasks client c n e step s (passed_or_now positions client c n within less) h at over f awaits

-- ---- a sleep

pub sleep_keeps : (script : Script) (k : Course) (client ms : ℕ) → IsLawfulSoFar script k → step_at script client (next_at k.positions client) ≡ Some (Sleep ms)
    → IsLawfulSoFar script (slept_by k client)
sleep_keeps script k client ms h at =
    let within = client_within script k.positions client (next_at k.positions client) (Sleep ms) h.performed.places at in
    record {
      performed = performed_on script k.positions k.tasks k.ats client (Sleep ms) h.performed at refl within;
      ordered = ordered_on script k.book k.waiting k.positions client h.ordered;
      seen = seen_as_before script k.book.batches k.tasks k.positions k.awaited client (Sleep ms) h.seen within at refl;
      passed = passed_on script k.positions k.tasks client (Sleep ms) h.passed within at (λ earlier e. absurd (true≢false (sym e)));
      ended = h.ended;
      told = h.told;
      recorded = h.recorded;
      lapsed = h.lapsed;
    }

-- ---- an await

-- the batch that a word tells is the task's
told_batch : (script : Script) (batches : List Batch) (waiting : List Waiting) (client step at : ℕ) (timeout : Option ℕ) (w : Word) (batch : ℕ)
    → IsWordLawful script batches waiting client step at timeout w → batch_told w ≡ Some batch → batch ≡ batch_number_of batches client step
told_batch script batches waiting client step at timeout word.Vacant batch h e = absurd (no_some batch e)
told_batch script batches waiting client step at timeout (word.Queued seen deadline) batch h e = absurd (no_some batch e)
told_batch script batches waiting client step at timeout (word.Taken seen before) batch h e = absurd (no_some batch e)
told_batch script batches waiting client step at timeout (word.Ended code) batch h e = sym (some_same code.batch batch e) ∙ h.number
told_batch script batches waiting client step at timeout (word.Timed reading) batch h e = sym (some_same 0 batch e) ∙ sym h.number

told_over : (w : Word) (batch : ℕ) → batch_told w ≡ Some batch → is_over w ≡ true
told_over word.Vacant batch e = absurd (no_some batch e)
told_over (word.Queued seen deadline) batch e = absurd (no_some batch e)
told_over (word.Taken seen before) batch e = absurd (no_some batch e)
told_over (word.Ended code) batch e = refl
told_over (word.Timed reading) batch e = refl

-- so it is of an await for an acknowledgement, whatever the end of that is
code_batch : (before batch : ℕ) (end : Option AckEnd) (o : Outcome) → code_told before end o ≡ Some batch → before ≡ batch
code_batch before batch None (outcome.Ok version) e = absurd (no_some batch e)
code_batch before batch (Some end) (outcome.Ok version) e = some_same before batch e
code_batch before batch end (outcome.Unchanged version) e = some_same before batch e
code_batch before batch end (outcome.Refused refusal) e = some_same before batch e
code_batch before batch end (outcome.BatchFailed position refusal) e = some_same before batch e
code_batch before batch end outcome.NotMaster e = some_same before batch e
code_batch before batch end outcome.PublishFailed e = some_same before batch e
code_batch before batch end outcome.Closed e = some_same before batch e

ack_batch : (script : Script) (batches : List Batch) (waiting : List Waiting) (client step at : ℕ) (timeout : Option ℕ) (end : Option AckEnd) (w : Word) (batch : ℕ)
    → IsWordLawful script batches waiting client step at timeout w → ack_told end w ≡ Some batch → batch ≡ batch_number_of batches client step
ack_batch script batches waiting client step at timeout end word.Vacant batch h e = absurd (no_some batch e)
ack_batch script batches waiting client step at timeout end (word.Queued seen deadline) batch h e = absurd (no_some batch e)
ack_batch script batches waiting client step at timeout end (word.Taken seen before) batch h e = absurd (no_some batch e)
ack_batch script batches waiting client step at timeout end (word.Ended code) batch h e = sym (code_batch code.batch batch end code.outcome e) ∙ h.number
ack_batch script batches waiting client step at timeout end (word.Timed reading) batch h e = sym (some_same 0 batch e) ∙ sym h.number

ack_over : (end : Option AckEnd) (w : Word) (batch : ℕ) → ack_told end w ≡ Some batch → is_over w ≡ true
ack_over end word.Vacant batch e = absurd (no_some batch e)
ack_over end (word.Queued seen deadline) batch e = absurd (no_some batch e)
ack_over end (word.Taken seen before) batch e = absurd (no_some batch e)
ack_over end (word.Ended code) batch e = refl
ack_over end (word.Timed reading) batch e = refl

one_awaited : (earlier other : ℕ) (tasks : TaskTable) (client : ℕ) → (earlier == other) ≡ true → is_over (word_of tasks client earlier) ≡ true → is_over (word_of tasks client other) ≡ true
one_awaited earlier other tasks client e h = subst (λ (x : ℕ). is_over (word_of tasks client x) ≡ true) ((unsigned_Decides earlier other).0 e) h

-- a step that awaits a task or its acknowledgement, where the task is over
await_by : (script : Script) (k : Course) (client earlier batch : ℕ) (step : Step) → IsLawfulSoFar script k → step_at script client (next_at k.positions client) ≡ Some step → is_submit step ≡ false
    → awaited_batch k.book.batches client step ≡ batch_number_of k.book.batches client earlier → ((other : ℕ) → does_await_task other step ≡ (earlier == other))
    → batch ≡ batch_number_of k.book.batches client earlier → is_over (word_of k.tasks client earlier) ≡ true
    → IsLawfulSoFar script (record k { positions = moved_on k.positions client; awaited = slice_set k.awaited client (max (seen_at k.awaited client) batch) })
await_by script k client earlier batch step h at none names awaits number over =
    let within = client_within script k.positions client (next_at k.positions client) step h.performed.places at in
    let greatest = max (seen_at k.awaited client) batch in
    let place : client < length k.awaited = let places = h.seen.places in let same = h.performed.places in omega arith in
    record {
      performed = performed_on script k.positions k.tasks k.ats client step h.performed at none within;
      ordered = ordered_on script k.book k.waiting k.positions client h.ordered;
      seen = seen_on script k.book.batches k.tasks k.positions k.awaited (slice_set k.awaited client greatest) client step h.seen within at
          (length-set k.awaited client greatest)
          (get_or-set_same k.awaited client greatest 0 place ∙ ap (λ (n : ℕ). max (seen_at k.awaited client) n) (number ∙ sym names))
          (λ x differs. get_or-set_other k.awaited client x greatest 0 differs);
      passed = passed_on script k.positions k.tasks client step h.passed within at (λ other e. one_awaited earlier other k.tasks client (sym (awaits other) ∙ e) over);
      ended = h.ended;
      told = h.told;
      recorded = h.recorded;
      lapsed = h.lapsed;
    }

pub await_keeps : (script : Script) (k : Course) (client earlier batch : ℕ) → IsLawfulSoFar script k → step_at script client (next_at k.positions client) ≡ Some (Await earlier goal.Task)
    → batch_told (word_of k.tasks client earlier) ≡ Some batch
    → IsLawfulSoFar script (record k { positions = moved_on k.positions client; awaited = slice_set k.awaited client (max (seen_at k.awaited client) batch) })
await_keeps script k client earlier batch h at told =
    await_by script k client earlier batch (Await earlier goal.Task) h at refl refl (λ other. refl)
    (told_batch script k.book.batches k.waiting client earlier (moment_at k.ats client earlier) (task_timeout_of (step_at script client earlier)) (word_of k.tasks client earlier) batch (h.ended.words client earlier) told)
    (told_over (word_of k.tasks client earlier) batch told)

pub await_ack_keeps : (script : Script) (k : Course) (client earlier batch : ℕ) (end : Option AckEnd) → IsLawfulSoFar script k → step_at script client (next_at k.positions client) ≡ Some (Await earlier goal.Ack)
    → ack_told end (word_of k.tasks client earlier) ≡ Some batch
    → IsLawfulSoFar script (record k { positions = moved_on k.positions client; awaited = slice_set k.awaited client (max (seen_at k.awaited client) batch) })
await_ack_keeps script k client earlier batch end h at told =
    await_by script k client earlier batch (Await earlier goal.Ack) h at refl refl (λ other. refl)
    (ack_batch script k.book.batches k.waiting client earlier (moment_at k.ats client earlier) (task_timeout_of (step_at script client earlier)) end (word_of k.tasks client earlier) batch (h.ended.words client earlier) told)
    (ack_over end (word_of k.tasks client earlier) batch told)
