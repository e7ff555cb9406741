-- A client that submits a task leaves a course lawful so far: the task stands after all that its client submitted before.
use Rattle.std.specs.Prelude.{◌≡◌, ◌≢◌, ℕ, ◌+◌, ◌<◌, ◌⊎◌, Bool, true, false, not, ◌&&◌, ◌||◌, cond, List, [], ◌∷◌, ◌++◌, length, filter, Option, Some, slice_get, refl}
use Rattle.std.proofs.Common.{sym, ◌∙◌, ap, subst, arith, inl, inr}
use Rattle.std.proofs.Math.Bool.{true≢false}
use Rattle.std.proofs.lemmas.List.{get_or-set_other, get_or-set_same, length-set}
use Rattle.std.proofs.lemmas.Option.{slice_get_within}
use Rattle.std.specs.Cmp.{unsigned_Decides}
use Rattle.std.specs.List.{AllByRecursion, list_any}
use Rattle.executors.specs.declared.tasks.Task.{Task}
use Rattle.scripts.specs.declared.queues.QueueSpec.{QueueSpec}
use Rattle.scripts.specs.declared.whole_script.Script.{Script}
use Rattle.scripts.specs.declared.steps.Ack.{Ack}
use Rattle.scripts.specs.declared.steps.Step.TheVariants.{Submit}
use Rattle.scripts.specs.Scripts.{IsScript}
use Rattle.session_law.specs.declared.batches.Batch.{Batch}
use Rattle.session_law.specs.Endings.{task_timeout_of}
use Rattle.session_law.specs.Histories.{IsApart, Queued, queued_of, step_at}
use Rattle.session_law.specs.ScriptSteps.{is_at}
use Rattle.task_words.specs.declared.words.Word.{Word}
use Rattle.task_words.specs.declared.words.Word.TheVariants as word
use Rattle.plain_data.specs.Cells.{IsInside, with_cell}
use Rattle.task_words.specs.Words.{IsWithin, TaskTable, size_of, with_size, with_word}
use Rattle.plain_data.proofs.Cells.{cell_at-with_cell_other, cell_at-with_cell_same, same_or_not}
use Rattle.master_intake.specs.declared.entries.Waiting.{Waiting}
use Rattle.master_intake.specs.Waitings.{is_in, taken_from}
use Rattle.master_run.specs.Courses.{Course, id_at, moment_at, next_at, seen_at, word_of}
use Rattle.master_run.specs.Endings.{deadline_of}
use Rattle.master_run.specs.SoFar.{AreApartAmong, HasSeenSoFar, IsEndedSoFar, IsLawfulSoFar, IsOrderedSoFar, IsPassed, IsPassedSoFar, IsPerformed, IsSeenSoFar, IsTold, IsWaiting, IsWordLawful, is_entry_of, is_over, is_passed, is_submit_at, is_submit_to, is_vacant, may_wait, queued_at}
use Rattle.master_run.specs.Steps.{moved_on, submitted_by, waiting_of}
use Rattle.master_run.proofs.Alls.{all_by, all_push}
use Rattle.master_run.proofs.Gathering.{waits_there}
use Rattle.master_run.proofs.Keeping.{false_from, or_left, or_right, same_number}
use Rattle.master_run.proofs.Performing.{ordered_on, passed_on, seen_as_before}
use Rattle.master_run.proofs.Positions.{client_within, lane_inside, next_same, not_passed, passed_now, passed_other, rows_keep}
use Rattle.master_run.proofs.Taken.{queued, some_queue}
use Rattle.master_run.proofs.Wordwise.{at_back, at_itself, other_step, same_client, same_step, word_by, word_other, word_same}

-- ---- the new entry is apart from all before it

not_same : (positions : List ℕ) (a b c : ℕ) → b < next_at positions a → is_at c (next_at positions c) a b ≡ true → ⊥
not_same positions a b c less h =
    let client = same_client c (next_at positions c) a b h in
    let step = same_step c (next_at positions c) a b h in
    let next = ap (next_at positions) client in
    omega (arith, less, step, next)

apart_next : (positions : List ℕ) (before : Queued) (name : List ℕ) (client : ℕ) → IsPassed positions before
    → IsApart before (record { queue = name; entry = record { client = client; step = next_at positions client; seen = 0 } })
apart_next positions before name client passed = record {
  other = false_from _ (not_same positions before.entry.client before.entry.step client passed);
  rises = λ q same. let next = ap (next_at positions) same in omega (arith, passed, next);
}

among_push : (queues : List QueueSpec) (all : List Waiting) (w : Waiting) → AreApartAmong queues all → AllByRecursion (λ v. IsApart (queued_at queues v) (queued_at queues w)) all
    → AreApartAmong queues (all ++ w ∷ [])
among_push queues [] w among h = (tt, tt)
among_push queues (v ∷ all) w among h = (all_push (λ w. IsApart (queued_at queues v) (queued_at queues w)) all w among.0 h.0, among_push queues all w among.1 h.1)

-- ---- lists with one more at the end

any_more : (b : Bool) (p : Waiting → Bool) (all : List Waiting) (w : Waiting) → (b || list_any p all) ≡ true → (list_any p all ≡ true → list_any p (all ++ w ∷ []) ≡ true)
    → (b || list_any p (all ++ w ∷ [])) ≡ true
any_more true p all w h rest = refl
any_more false p all w h rest = rest h

any_push : (p : Waiting → Bool) (all : List Waiting) (w : Waiting) → list_any p all ≡ true → list_any p (all ++ w ∷ []) ≡ true
any_push p [] w h = absurd (true≢false (sym h))
any_push p (v ∷ all) w h = any_more (p v) p all w h (any_push p all w)

any_last : (p : Waiting → Bool) (all : List Waiting) (w : Waiting) → p w ≡ true → list_any p (all ++ w ∷ []) ≡ true
any_last p [] w h = or_left (p w) false h
any_last p (v ∷ all) w h = or_right (p v) (list_any p (all ++ w ∷ [])) (any_last p all w h)

count_last : (p : Waiting → Bool) (w : Waiting) (b : Bool) → p w ≡ b → length (filter p (w ∷ [])) ≡ cond b 1 0
count_last p w true e = ap (λ (b : Bool). length (cond b (w ∷ []) [])) e
count_last p w false e = ap (λ (b : Bool). length (cond b (w ∷ []) [])) e

longer_by : (b : Bool) (v : Waiting) (more all : List Waiting) (n : ℕ) → length more ≡ length all + n → length (cond b (v ∷ more) more) ≡ length (cond b (v ∷ all) all) + n
longer_by true v more all n e = omega arith
longer_by false v more all n e = e

filter_push : (p : Waiting → Bool) (all : List Waiting) (w : Waiting) → length (filter p (all ++ w ∷ [])) ≡ length (filter p all) + cond (p w) 1 0
filter_push p [] w = let one = count_last p w (p w) refl in omega arith
filter_push p (v ∷ all) w = longer_by (p v) v (filter p (all ++ w ∷ [])) (filter p all) (cond (p w) 1 0) (filter_push p all w)

-- ---- what the step is

-- a client's next step submits a task to a queue of the script
pub record IsSubmitted (script : Script) (k : Course) (client queue : ℕ) (task : Task) (timeout : Option ℕ) : Type 0 where
  pub ack : Option Ack
  pub step : step_at script client (next_at k.positions client) ≡ Some (Submit queue task timeout ack)
  pub of : QueueSpec
  pub of_queue : slice_get script.queues queue ≡ Some of
  pub within : client < length k.positions
  pub lane : IsWithin k.tasks (id_at client (next_at k.positions client))
  pub row : IsInside k.ats client (next_at k.positions client)
  pub vacant : word_of k.tasks client (next_at k.positions client) ≡ word.Vacant

none_is : (w : Word) → not (is_vacant w) ≡ false → w ≡ word.Vacant
none_is word.Vacant e = refl
none_is (word.Queued seen deadline) e = absurd (true≢false e)
none_is (word.Taken seen before) e = absurd (true≢false e)
none_is (word.Ended code) e = absurd (true≢false e)
none_is (word.Timed reading) e = absurd (true≢false e)

pub is_submitted : (script : Script) (k : Course) (client queue : ℕ) (task : Task) (timeout : Option ℕ) (ack : Option Ack) → IsScript script → IsLawfulSoFar script k
    → step_at script client (next_at k.positions client) ≡ Some (Submit queue task timeout ack) → IsSubmitted script k client queue task timeout
is_submitted script k client queue task timeout ack valid h at =
    let n = next_at k.positions client in
    let step = Submit queue task timeout ack in
    let of = some_queue script task (slice_get script.queues queue) (queued script client n step valid at) in
    let inside = lane_inside script k.tasks.words client n step h.performed.lanes at in
    record {
      ack = ack;
      step = at;
      of = of.0;
      of_queue = of.1;
      within = client_within script k.positions client n step h.performed.places at;
      lane = record { client = inside.row; step = inside.cell };
      row = lane_inside script k.ats client n step h.performed.rows at;
      vacant = none_is (word_of k.tasks client n) (h.performed.cells client n ∙ (λ i. not_passed k.positions client i && is_submit_at (step_at script client n)));
    }

-- ---- the rules

abbrev words_after : Course → ℕ → ℕ → Option ℕ → TaskTable
words_after k client at timeout = with_word (id_at client (next_at k.positions client)) (word.Queued (seen_at k.awaited client) (deadline_of at timeout)) k.tasks

performed_submit : (script : Script) (k : Course) (client at queue : ℕ) (task : Task) (timeout : Option ℕ) → IsPerformed script k.positions k.tasks k.ats
    → IsSubmitted script k client queue task timeout → let after = submitted_by k client at queue task timeout in IsPerformed script after.positions after.tasks after.ats
performed_submit script k client at queue task timeout h is =
    let n = next_at k.positions client in
    record {
      places = length-set k.positions client (n + 1) ∙ h.places;
      lanes = rows_keep k.tasks.words client n (word.Queued (seen_at k.awaited client) (deadline_of at timeout)) ∙ h.lanes;
      rows = rows_keep k.ats client n at ∙ h.rows;
      cells = λ c s.
          word_by (λ (x y : ℕ) (w : Word). not (is_vacant w) ≡ (is_passed (moved_on k.positions client) x y && is_submit_at (step_at script x y)))
          k.tasks client n (word.Queued (seen_at k.awaited client) (deadline_of at timeout)) is.lane
          (sym (λ i. passed_now k.positions client is.within i && is_submit_at (is.step i))) c s
          (λ apart. h.cells c s ∙ (λ i. sym (passed_other k.positions client c s is.within apart) i && is_submit_at (step_at script c s)));
    }

ordered_submit : (script : Script) (k : Course) (client at queue : ℕ) (task : Task) (timeout : Option ℕ) → IsOrderedSoFar script k.book k.waiting k.positions
    → IsSubmitted script k client queue task timeout → let after = submitted_by k client at queue task timeout in IsOrderedSoFar script after.book after.waiting after.positions
ordered_submit script k client at queue task timeout h is =
    let n = next_at k.positions client in
    let w = waiting_of client n queue task in
    let moved = ordered_on script k.book k.waiting k.positions client h in
    let mine = next_same k.positions client is.within in
    record {
      kept = h.kept;
      passed = moved.passed;
      waits = all_push (IsWaiting script (moved_on k.positions client)) k.waiting w moved.waits
          (record { queue = is.of; of_queue = is.of_queue; own = ap (is_submit_to queue) is.step ∙ same_number queue; passed = omega (arith, mine) });
      apart = all_push (λ w. AllByRecursion (λ before. IsApart before (queued_at script.queues w)) (queued_of k.book.batches)) k.waiting w h.apart
          (all_by (IsPassed k.positions) (λ before. IsApart before (queued_at script.queues w)) (λ before p. apart_next k.positions before (queued_at script.queues w).queue client p)
          (queued_of k.book.batches) h.passed);
      among = among_push script.queues k.waiting w h.among
          (all_by (IsWaiting script k.positions) (λ v. IsApart (queued_at script.queues v) (queued_at script.queues w))
          (λ v p. apart_next k.positions (queued_at script.queues v) (queued_at script.queues w).queue client p.passed) k.waiting h.waits);
    }

seen_submit : (script : Script) (k : Course) (client at queue : ℕ) (task : Task) (timeout : Option ℕ) → IsSeenSoFar script k.book.batches k.tasks k.positions k.awaited
    → IsSubmitted script k client queue task timeout → let after = submitted_by k client at queue task timeout in
    IsSeenSoFar script after.book.batches after.tasks after.positions after.awaited
seen_submit script k client at queue task timeout h is =
    let n = next_at k.positions client in
    let moved = seen_as_before script k.book.batches k.tasks k.positions k.awaited client (Submit queue task timeout is.ack) h is.within is.step refl in
    record {
      places = moved.places;
      in_book = moved.in_book;
      waiting = λ c s. word_by (HasSeenSoFar script k.book.batches) k.tasks client n (word.Queued (seen_at k.awaited client) (deadline_of at timeout)) is.lane (h.clients client) c s (λ apart. h.waiting c s);
      clients = moved.clients;
    }

-- a word that isn't vacant isn't the new one
not_new : (script : Script) (k : Course) (client queue : ℕ) (task : Task) (timeout : Option ℕ) (c s : ℕ) → IsSubmitted script k client queue task timeout
    → is_vacant (word_of k.tasks c s) ≡ false → is_at client (next_at k.positions client) c s ≡ false
not_new script k client queue task timeout c s is some =
    let n = next_at k.positions client in
    false_from (is_at client n c s) (λ same. true≢false (sym (ap is_vacant (at_back (λ (x y : ℕ). word_of k.tasks x y ≡ word.Vacant) client n c s same is.vacant)) ∙ some))

over_there : (w : Word) → is_over w ≡ true → is_vacant w ≡ false
over_there word.Vacant h = absurd (true≢false (sym h))
over_there (word.Queued seen deadline) h = refl
over_there (word.Taken seen before) h = refl
over_there (word.Ended code) h = refl
over_there (word.Timed reading) h = refl

passed_submit : (script : Script) (k : Course) (client at queue : ℕ) (task : Task) (timeout : Option ℕ) → IsPassedSoFar script k.positions k.tasks
    → IsSubmitted script k client queue task timeout → let after = submitted_by k client at queue task timeout in IsPassedSoFar script after.positions after.tasks
passed_submit script k client at queue task timeout h is =
    let n = next_at k.positions client in
    let now = words_after k client at timeout in
    passed_on script k.positions now client (Submit queue task timeout is.ack)
    (λ c s e step less f awaits.
    let over = h c s e step less f awaits in
    ap is_over (word_other k.tasks client n (word.Queued (seen_at k.awaited client) (deadline_of at timeout)) c e is.lane
    (not_new script k client queue task timeout c e is (over_there (word_of k.tasks c e) over))) ∙ over)
    is.within is.step (λ earlier e. absurd (true≢false (sym e)))

grown : (script : Script) (batches : List Batch) (waiting : List Waiting) (w : Waiting) (c s at : ℕ) (timeout : Option ℕ) (v : Word) → IsWordLawful script batches waiting c s at timeout v
    → IsWordLawful script batches (waiting ++ w ∷ []) c s at timeout v
grown script batches waiting w c s at timeout word.Vacant h = h
grown script batches waiting w c s at timeout (word.Queued seen deadline) h = record { waits = any_push (is_entry_of c s) waiting w h.waits; due = h.due }
grown script batches waiting w c s at timeout (word.Taken seen before) h = h
grown script batches waiting w c s at timeout (word.Ended code) h = h
grown script batches waiting w c s at timeout (word.Timed reading) h = h

ended_submit : (script : Script) (k : Course) (client at queue : ℕ) (task : Task) (timeout : Option ℕ) → IsEndedSoFar script k.book.batches k.waiting k.tasks k.ats
    → IsSubmitted script k client queue task timeout → let after = submitted_by k client at queue task timeout in
    IsEndedSoFar script after.book.batches after.waiting after.tasks after.ats
ended_submit script k client at queue task timeout h is =
    let n = next_at k.positions client in
    let w = waiting_of client n queue task in
    let batches = k.book.batches in
    let more = k.waiting ++ w ∷ [] in
    let ats = with_cell client n at k.ats in
    let queued = word.Queued (seen_at k.awaited client) (deadline_of at timeout) in
    let now = words_after k client at timeout in
    record {
      words = λ c s.
          word_by (λ (x y : ℕ) (v : Word). IsWordLawful script batches more x y (moment_at ats x y) (task_timeout_of (step_at script x y)) v) k.tasks client n queued is.lane
          (record {
            waits = any_last (is_entry_of client n) k.waiting w (at_itself client n);
            due = sym (λ i. deadline_of (cell_at-with_cell_same 0 client n at k.ats is.row i) (task_timeout_of (is.step i)));
          }) c s
          (λ apart.
          subst (λ (m : ℕ). IsWordLawful script batches more c s m (task_timeout_of (step_at script c s)) (word_of k.tasks c s))
          (sym (cell_at-with_cell_other 0 client n at k.ats c s is.row (other_step client n c s apart)))
          (grown script batches k.waiting w c s (moment_at k.ats c s) (task_timeout_of (step_at script c s)) (word_of k.tasks c s) (h.words c s)));
      waits = all_push (λ v. may_wait (word_of now v.entry.id.client v.entry.id.step) ≡ true) k.waiting w
          (all_by (λ v. may_wait (word_of k.tasks v.entry.id.client v.entry.id.step) ≡ true) (λ v. may_wait (word_of now v.entry.id.client v.entry.id.step) ≡ true)
          (λ v p. ap may_wait (word_other k.tasks client n queued v.entry.id.client v.entry.id.step is.lane
          (not_new script k client queue task timeout v.entry.id.client v.entry.id.step is (waits_there (word_of k.tasks v.entry.id.client v.entry.id.step) p))) ∙ p) k.waiting h.waits)
          (ap may_wait (word_same k.tasks client n queued is.lane));
    }

one_more : (size before after new : ℕ) → size ≡ before → after ≡ before + new → new ≡ 1 → size + 1 ≡ after
one_more size before after new e f one = omega arith

none_more : (size before after new : ℕ) → size ≡ before → after ≡ before + new → new ≡ 0 → size ≡ after
none_more size before after new e f none = omega arith

size_submit : (tasks : TaskTable) (waiting : List Waiting) (w : Waiting) (queue : ℕ) → w.queue < length tasks.sizes → ((q : ℕ) → size_of tasks q ≡ length (taken_from q waiting))
    → (queue ≡ w.queue) ⊎ (queue ≢ w.queue) → size_of (with_size w.queue (size_of tasks w.queue + 1) tasks) queue ≡ length (taken_from queue (waiting ++ w ∷ []))
size_submit tasks waiting w queue there sizes (inl same) =
    subst (λ (q : ℕ). size_of (with_size w.queue (size_of tasks w.queue + 1) tasks) q ≡ length (taken_from q (waiting ++ w ∷ []))) (sym same)
    (get_or-set_same tasks.sizes w.queue (size_of tasks w.queue + 1) 0 there
    ∙ one_more (size_of tasks w.queue) (length (taken_from w.queue waiting)) (length (taken_from w.queue (waiting ++ w ∷ []))) (cond (is_in w.queue w) 1 0) (sizes w.queue)
    (filter_push (is_in w.queue) waiting w) (ap (λ (b : Bool). cond b 1 0) (same_number w.queue)))
size_submit tasks waiting w queue there sizes (inr differs) =
    get_or-set_other tasks.sizes w.queue queue (size_of tasks w.queue + 1) 0 differs
    ∙ none_more (size_of tasks queue) (length (taken_from queue waiting)) (length (taken_from queue (waiting ++ w ∷ []))) (cond (is_in queue w) 1 0) (sizes queue)
    (filter_push (is_in queue) waiting w) (ap (λ (b : Bool). cond b 1 0) (false_from (is_in queue w) (λ e. differs (sym ((unsigned_Decides w.queue queue).0 e)))))

told_submit : (script : Script) (k : Course) (client at queue : ℕ) (task : Task) (timeout : Option ℕ) → IsTold script k.waiting k.tasks
    → IsSubmitted script k client queue task timeout → let after = submitted_by k client at queue task timeout in IsTold script after.waiting after.tasks
told_submit script k client at queue task timeout h is =
    let w = waiting_of client (next_at k.positions client) queue task in
    let there : queue < length k.tasks.sizes = let within = slice_get_within script.queues queue is.of is.of_queue in let same = h.queues in omega arith in
    record {
      queues = length-set k.tasks.sizes queue (size_of k.tasks queue + 1) ∙ h.queues;
      sizes = λ q. size_submit k.tasks k.waiting w q there h.sizes (same_or_not q queue);
      stopped = h.stopped;
    }

pub submit_keeps : (script : Script) (k : Course) (client at queue : ℕ) (task : Task) (timeout : Option ℕ) (ack : Option Ack) → IsScript script → IsLawfulSoFar script k
    → step_at script client (next_at k.positions client) ≡ Some (Submit queue task timeout ack) → IsLawfulSoFar script (submitted_by k client at queue task timeout)
submit_keeps script k client at queue task timeout ack valid h step =
    let is = is_submitted script k client queue task timeout ack valid h step in
    record {
      performed = performed_submit script k client at queue task timeout h.performed is;
      ordered = ordered_submit script k client at queue task timeout h.ordered is;
      seen = seen_submit script k client at queue task timeout h.seen is;
      passed = passed_submit script k client at queue task timeout h.passed is;
      ended = ended_submit script k client at queue task timeout h.ended is;
      told = told_submit script k client at queue task timeout h.told is;
      recorded = h.recorded;
      lapsed = h.lapsed;
    }
