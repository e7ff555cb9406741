-- The master that serves a queue leaves a course lawful so far: what it takes may join the book, and what is left waits on.
use Rattle.std.specs.Prelude.{◌≡◌, ◌≢◌, ℕ, zero, suc, ◌+◌, ◌<◌, ◌≤◌, ◌⊎◌, Bool, true, false, not, cond, ◌&&◌, ◌||◌, List, [], ◌∷◌, ◌++◌, length, filter, map, get_or, set, Option, Some, find, slice_get, is_some, refl}
use Rattle.std.proofs.Common.{sym, ◌∙◌, ap, subst, arith, inl, inr}
use Rattle.std.proofs.Math.Bool.{true≢false}
use Rattle.std.proofs.lemmas.Bool.{ltb-true}
use Rattle.std.proofs.lemmas.List.{get_or-set_other, length-append, length-set}
use Rattle.std.specs.Cmp.{unsigned_Decides}
use Rattle.std.specs.List.{AllByRecursion, list_any, zip}
use Rattle.std.specs.Option.{option_map}
use Rattle.scripts.specs.declared.queues.QueueSpec.{QueueSpec}
use Rattle.scripts.specs.declared.whole_script.Script.{Script}
use Rattle.scripts.specs.Scripts.{IsScript}
use Rattle.session_law.specs.declared.batches.Batch.{Batch}
use Rattle.session_law.specs.declared.batches.Entry.{Entry}
use Rattle.session_law.specs.declared.task_ends.TaskEnd.{TaskEnd}
use Rattle.session_law.specs.declared.task_ends.TaskEnd.TheVariants as ends
use Rattle.session_law.specs.Endings.{is_batch_end, task_timeout_of}
use Rattle.session_law.specs.Histories.{AreApart, IsApart, IsOwn, Queued, queued_in, queued_of, step_at}
use Rattle.session_law.specs.Outcomes.{holds, is_task}
use Rattle.session_law.specs.Publications.{cut_by}
use Rattle.session_law.specs.SerialHistories.{HasSeen, seen_of}
use Rattle.session_law.proofs.BatchEnds.{ends_of_batches}
use Rattle.session_law.proofs.Growth.{free_from, number_kept, number_new, outcome_kept, outcome_new, seen_kept, seen_most}
use Rattle.task_words.specs.declared.words.Word.{Word}
use Rattle.task_words.specs.declared.words.Word.TheVariants as word
use Rattle.task_words.specs.Words.{TaskTable, acquired_by, size_of, taken_by, with_size, with_word, word_at}
use Rattle.plain_data.proofs.Cells.{same_or_not}
use Rattle.master_intake.specs.declared.entries.Waiting.{Waiting}
use Rattle.master_intake.specs.declared.entries.WaitingTask.{WaitingTask}
use Rattle.master_intake.specs.Waitings.{entries_of, is_in, left_by, taken_from}
use Rattle.master_run.specs.Books.{CanJoin, Chronicle, added, added_to, input_at, last_stepped, noted, placed_in, ran_at}
use Rattle.master_run.specs.Courses.{Course, id_at, moment_at, next_at, word_of}
use Rattle.master_run.specs.Endings.{code_of, end_by, outcome_by}
use Rattle.master_run.specs.Nodes.{handed_each}
use Rattle.master_run.specs.Servings.{Gathered, ended_all, gathered, gathered_with, got_from, has_some_in, ran, served}
use Rattle.master_run.specs.SoFar.{HasSeenSoFar, IsEndedSoFar, IsLawfulSoFar, IsOrderedSoFar, IsPassed, IsPassedSoFar, IsPerformed, IsSeenSoFar, IsTold, IsWaiting, IsWordLawful, is_entry_of, is_over, is_passed, is_submit_at, is_vacant, may_wait, queued_at}
use Rattle.master_run.proofs.AckKeeping.{lapsed_push}
use Rattle.master_run.proofs.Alls.{all_append, all_both, all_by, all_filter}
use Rattle.master_run.proofs.Ending.{ends_count}
use Rattle.master_run.proofs.EndingAll.{AreBatchs, AreOnce, IsAmongEnds, IsNoMore, ended_among, ended_other}
use Rattle.master_run.proofs.Gathering.{AreOthers, IsGot, all_waited, entries_in, gathered_entries, gathered_other, gathered_taken, got_any, is_queued}
use Rattle.master_run.proofs.Joining.{IsTaken, among_filter, any_parted, any_trial, crossed, got_apart, others_among, placed_got, served_queue, taken_all, waiting_own}
use Rattle.master_run.proofs.Keeping.{apart_append, batch_of, both_first, false_from, kept_join, placed_push, stepped_again}
use Rattle.master_run.proofs.Positions.{rows_keep}
use Rattle.master_run.proofs.Recording.{recorded_served}
use Rattle.master_run.proofs.Wordwise.{at_same, at_turned}

-- ---- what is tried, and what is got

abbrev pub covered : ℕ → Course → TaskTable
covered queue k = with_size queue 0 k.tasks

abbrev pub tried_in : ℕ → Course → List WaitingTask
tried_in queue k = entries_of (taken_from queue k.waiting)

abbrev pub got_in : ℕ → Course → List Entry
got_in queue k = entries_in (covered queue k) (tried_in queue k)

others_in : (script : Script) (k : Course) (queue : ℕ) → IsLawfulSoFar script k → AreOthers (tried_in queue k)
others_in script k queue h = others_among script.queues (taken_from queue k.waiting) (among_filter script.queues (is_in queue) k.waiting h.ordered.among)

pub got_is : (script : Script) (k : Course) (queue : ℕ) → IsLawfulSoFar script k → (got_from queue k).entries ≡ got_in queue k
got_is script k queue h = gathered_entries (length k.book.batches + 1) (tried_in queue k) (record { entries = []; tasks = covered queue k }) (others_in script k queue h)

waits_each : (tasks : TaskTable) (all : List Waiting) → AllByRecursion (λ w. may_wait (word_of tasks w.entry.id.client w.entry.id.step) ≡ true) all
    → AllByRecursion (λ v. may_wait (word_of tasks v.id.client v.id.step) ≡ true) (entries_of all)
waits_each tasks [] all = tt
waits_each tasks (w ∷ more) all = (all.0, waits_each tasks more all.1)

pub tried_wait : (script : Script) (k : Course) (queue : ℕ) → IsLawfulSoFar script k → AllByRecursion (λ v. may_wait (word_of (covered queue k) v.id.client v.id.step) ≡ true) (tried_in queue k)
tried_wait script k queue h =
    waits_each (covered queue k) (taken_from queue k.waiting)
    (all_filter (λ w. may_wait (word_of k.tasks w.entry.id.client w.entry.id.step) ≡ true) (is_in queue) k.waiting h.ended.waits)

pub tried_others : (script : Script) (k : Course) (queue : ℕ) → IsLawfulSoFar script k → AreOthers (tried_in queue k)
tried_others script k queue h = others_in script k queue h

-- what holds of each entry holds of a task that is among them
one_has : (P : ℕ → ℕ → Type 0) (entry : Entry) (more : List Entry) (client step : ℕ) (b : Bool) → is_task client step entry ≡ b → P entry.client entry.step
    → (b || list_any (is_task client step) more) ≡ true → (list_any (is_task client step) more ≡ true → P client step) → P client step
one_has P entry more client step true e p h rest = at_same P client step entry.client entry.step e p
one_has P entry more client step false e p h rest = rest h

pub any_has : (P : ℕ → ℕ → Type 0) (entries : List Entry) (client step : ℕ) → AllByRecursion (λ e. P e.client e.step) entries → list_any (is_task client step) entries ≡ true → P client step
any_has P [] client step all h = absurd (true≢false (sym h))
any_has P (entry ∷ more) client step all h = one_has P entry more client step (is_task client step entry) refl all.0 h (any_has P more client step all.1)

-- what waits and isn't got stays away
none_has : (entries : List Entry) (client step : ℕ) → AllByRecursion (λ e. is_task client step e ≡ false) entries → list_any (is_task client step) entries ≡ false
none_has [] client step all = refl
none_has (entry ∷ more) client step all = λ i. all.0 i || none_has more client step all.1 i

placed_each : (P : Queued → Type 0) (name : List ℕ) (entries : List Entry) → AllByRecursion P (placed_in name entries) → AllByRecursion (λ e. P (record { queue = name; entry = e })) entries
placed_each P name [] all = tt
placed_each P name (entry ∷ more) all = (all.0, placed_each P name more all.1)

once_each : (name : List ℕ) (entry : Entry) (more : List Entry) → AllByRecursion (IsApart (record { queue = name; entry = entry })) (placed_in name more) → AllByRecursion (IsNoMore entry) more
once_each name entry [] apart = tt
once_each name entry (next ∷ more) apart = (at_turned next.client next.step entry.client entry.step apart.0.other, once_each name entry more apart.1)

pub once_from : (name : List ℕ) (entries : List Entry) → AreApart (placed_in name entries) → AreOnce entries
once_from name [] apart = tt
once_from name (entry ∷ more) apart = (once_each name entry more apart.0, once_from name more apart.1)

got_waited : (k : Course) (queue : ℕ) → AllByRecursion (IsGot (covered queue k)) (got_in queue k)
got_waited k queue = all_waited (covered queue k) (tried_in queue k)

-- the word of a task that is got
pub record WasQueued (tasks : TaskTable) (client step : ℕ) : Type 0 where
  pub seen : ℕ
  pub deadline : ℕ
  pub was : word_of tasks client step ≡ word.Queued seen deadline

got_was : (k : Course) (queue client step : ℕ) → list_any (is_task client step) (got_in queue k) ≡ true → WasQueued k.tasks client step
got_was k queue client step h =
    any_has (WasQueued k.tasks) (got_in queue k) client step
    (all_by (IsGot (covered queue k)) (λ e. WasQueued k.tasks e.client e.step) (λ e g. record { seen = e.seen; deadline = g.deadline; was = g.was }) (got_in queue k) (got_waited k queue)) h

not_got : (k : Course) (queue client step : ℕ) → is_queued (word_of k.tasks client step) ≡ false → list_any (is_task client step) (got_in queue k) ≡ false
not_got k queue client step none = false_from (list_any (is_task client step) (got_in queue k)) (λ h.
    let was = got_was k queue client step h in true≢false (sym (ap is_queued was.was) ∙ none))

over_not_queued : (w : Word) → is_over w ≡ true → is_queued w ≡ false
over_not_queued word.Vacant h = refl
over_not_queued (word.Queued seen deadline) h = absurd (true≢false (sym h))
over_not_queued (word.Taken seen batch) h = refl
over_not_queued (word.Ended code) h = refl
over_not_queued (word.Timed reading) h = refl

-- ---- lanes, sizes and the stop word, which no batch changes

pub record HasSame (before after : TaskTable) : Type 0 where
  pub lanes : map (λ (row : List Word). length row) after.words ≡ map (λ (row : List Word). length row) before.words
  pub sizes : after.sizes ≡ before.sizes
  pub stopped : after.stopped ≡ before.stopped

same_tables : (a b c : TaskTable) → HasSame a b → HasSame b c → HasSame a c
same_tables a b c f g = record { lanes = g.lanes ∙ f.lanes; sizes = g.sizes ∙ f.sizes; stopped = g.stopped ∙ f.stopped }

pub word_has_same : (client step : ℕ) (w : Word) (tasks : TaskTable) → HasSame tasks (with_word (id_at client step) w tasks)
word_has_same client step w tasks = record { lanes = rows_keep tasks.words client step w; sizes = refl; stopped = refl }

try_has_same : (batch client step : ℕ) (w : Word) (tasks : TaskTable) → HasSame tasks (taken_by batch (id_at client step) (acquired_by w) tasks)
try_has_same batch client step word.Vacant tasks = record { lanes = refl; sizes = refl; stopped = refl }
try_has_same batch client step (word.Queued seen deadline) tasks = word_has_same client step (word.Taken seen batch) tasks
try_has_same batch client step (word.Taken seen before) tasks = record { lanes = refl; sizes = refl; stopped = refl }
try_has_same batch client step (word.Ended code) tasks = record { lanes = refl; sizes = refl; stopped = refl }
try_has_same batch client step (word.Timed reading) tasks = record { lanes = refl; sizes = refl; stopped = refl }

gathered_same : (batch : ℕ) (waiting : List WaitingTask) (all : Gathered) → HasSame all.tasks (gathered batch waiting all).tasks
gathered_same batch [] all = record { lanes = refl; sizes = refl; stopped = refl }
gathered_same batch (first ∷ more) all =
    let next = gathered_with batch first.id (acquired_by (word_at all.tasks first.id)) all in
    same_tables all.tasks next.tasks (gathered batch more next).tasks (try_has_same batch first.id.client first.id.step (word_at all.tasks first.id) all.tasks) (gathered_same batch more next)

ended_same : (batch : ℕ) (entries : List Entry) (ends : List TaskEnd) (tasks : TaskTable) → HasSame tasks (ended_all batch entries ends tasks)
ended_same batch [] ends tasks = record { lanes = refl; sizes = refl; stopped = refl }
ended_same batch (entry ∷ entries) [] tasks = record { lanes = refl; sizes = refl; stopped = refl }
ended_same batch (entry ∷ entries) (end ∷ ends) tasks =
    let next = with_word (id_at entry.client entry.step) (word.Ended (code_of batch end)) tasks in
    same_tables tasks next (ended_all batch entries ends next) (word_has_same entry.client entry.step (word.Ended (code_of batch end)) tasks) (ended_same batch entries ends next)

-- ---- the sizes afterwards

covered_none : (sizes : List ℕ) (queue : ℕ) → get_or (set sizes queue 0) queue 0 ≡ 0
covered_none [] queue = refl
covered_none (n ∷ sizes) zero = refl
covered_none (n ∷ sizes) (suc queue) = covered_none sizes queue

none_left_by : (number : ℕ) (w : Waiting) (all : List Waiting) (b : Bool) → is_in number w ≡ b → length (filter (is_in number) all) ≡ 0
    → length (filter (is_in number) (cond (not b) (w ∷ all) all)) ≡ 0
none_left_by number w all true e none = none
none_left_by number w all false e none = (λ i. length (cond (e i) (w ∷ filter (is_in number) all) (filter (is_in number) all))) ∙ none

none_left : (number : ℕ) (all : List Waiting) → length (taken_from number (left_by number all)) ≡ 0
none_left number [] = refl
none_left number (w ∷ all) = none_left_by number w (left_by number all) (is_in number w) refl (none_left number all)

-- of another queue as much waits as before
elsewhere : (number queue : ℕ) (w : Waiting) → queue ≢ number → is_in number w ≡ true → is_in queue w ≡ false
elsewhere number queue w differs e =
    false_from (is_in queue w) (λ f. differs (sym ((unsigned_Decides w.queue queue).0 f) ∙ (unsigned_Decides w.queue number).0 e))

one_more : (b : Bool) (w : Waiting) (xs ys : List Waiting) → length xs ≡ length ys → length (cond b (w ∷ xs) xs) ≡ length (cond b (w ∷ ys) ys)
one_more true w xs ys e = omega arith
one_more false w xs ys e = e

same_left_by : (number queue : ℕ) (w : Waiting) (all : List Waiting) (b : Bool) → is_in number w ≡ b → queue ≢ number
    → length (filter (is_in queue) (left_by number all)) ≡ length (filter (is_in queue) all)
    → length (filter (is_in queue) (cond (not b) (w ∷ left_by number all) (left_by number all))) ≡ length (cond (is_in queue w) (w ∷ filter (is_in queue) all) (filter (is_in queue) all))
same_left_by number queue w all true e differs same =
    same ∙ sym (λ i. length (cond (elsewhere number queue w differs e i) (w ∷ filter (is_in queue) all) (filter (is_in queue) all)))
same_left_by number queue w all false e differs same = one_more (is_in queue w) w (filter (is_in queue) (left_by number all)) (filter (is_in queue) all) same

same_left : (number queue : ℕ) (all : List Waiting) → queue ≢ number → length (taken_from queue (left_by number all)) ≡ length (taken_from queue all)
same_left number queue [] differs = refl
same_left number queue (w ∷ all) differs = same_left_by number queue w all (is_in number w) refl differs (same_left number queue all differs)

size_served : (tasks now : TaskTable) (waiting : List Waiting) (number queue : ℕ) → now.sizes ≡ set tasks.sizes number 0 → ((q : ℕ) → size_of tasks q ≡ length (taken_from q waiting))
    → (queue ≡ number) ⊎ (queue ≢ number) → size_of now queue ≡ length (taken_from queue (left_by number waiting))
size_served tasks now waiting number queue e sizes (inl same) =
    subst (λ (q : ℕ). size_of now q ≡ length (taken_from q (left_by number waiting))) (sym same)
    (ap (λ (all : List ℕ). get_or all number 0) e ∙ covered_none tasks.sizes number ∙ sym (none_left number waiting))
size_served tasks now waiting number queue e sizes (inr differs) =
    ap (λ (all : List ℕ). get_or all queue 0) e ∙ get_or-set_other tasks.sizes number queue 0 0 differs ∙ sizes queue ∙ sym (same_left number queue waiting differs)

told_served : (script : Script) (k : Course) (queue : ℕ) (now : TaskTable) → IsTold script k.waiting k.tasks → HasSame (covered queue k) now → IsTold script (left_by queue k.waiting) now
told_served script k queue now h same = record {
  queues = ap (λ (all : List ℕ). length all) same.sizes ∙ length-set k.tasks.sizes queue 0 ∙ h.queues;
  sizes = λ q. size_served k.tasks now k.waiting queue q same.sizes h.sizes (same_or_not q queue);
  stopped = same.stopped ∙ h.stopped;
}

-- ---- a batch that may join

pub got_joins : (script : Script) (k : Course) (number : ℕ) (queue : QueueSpec) → IsLawfulSoFar script k → slice_get script.queues number ≡ Some queue → 0 < length (got_in number k)
    → CanJoin script k.book queue (got_in number k)
got_joins script k number queue h e some =
    let batches = k.book.batches in
    let taken = taken_from number k.waiting in
    let placed = queued_of batches in
    let are_taken = taken_all script k.positions number k.waiting h.ordered.waits in
    let own = all_by (IsTaken script k.positions number) (λ w. IsOwn script (queued_at script.queues w)) (λ w t. waiting_own script k.positions w t.0) taken are_taken in
    let from : Queued → Type 0 = λ later. AllByRecursion (λ before. IsApart before later) placed in
    record {
      some = some;
      own = placed_got script k.positions number queue (covered number k) (IsOwn script) taken e (λ name client step seen p. p) are_taken own;
      seen = all_by (IsGot (covered number k)) (λ e. e.seen ≤ length batches)
          (λ entry g.
          let is : entry.seen ≡ seen_of script batches entry.client entry.step = subst (HasSeenSoFar script batches entry.client entry.step) g.was (h.seen.waiting entry.client entry.step) in
          let most = seen_most script batches entry.client entry.step in
          omega arith) (got_in number k) (got_waited k number);
      apart = apart_append placed (placed_in queue.name (got_in number k)) h.ordered.kept.serial.order.apart
          (got_apart script k.positions number queue (covered number k) taken e are_taken (among_filter script.queues (is_in number) k.waiting h.ordered.among))
          (placed_got script k.positions number queue (covered number k) from taken e
          (λ name client step seen all. all_by (λ before. IsApart before (record { queue = name; entry = record { client = client; step = step; seen = 0 } }))
          (λ before. IsApart before (record { queue = name; entry = record { client = client; step = step; seen = seen } })) (λ before p. record { other = p.other; rises = p.rises }) placed all)
          are_taken (all_filter (λ w. from (queued_at script.queues w)) (is_in number) k.waiting h.ordered.apart));
    }

-- no task that is got is in a batch already
got_free : (script : Script) (k : Course) (number : ℕ) (queue : QueueSpec) → IsLawfulSoFar script k → slice_get script.queues number ≡ Some queue
    → AllByRecursion (λ e. list_any (holds e.client e.step) k.book.batches ≡ false) (got_in number k)
got_free script k number queue h e =
    let placed = queued_of k.book.batches in
    let P : Queued → Type 0 = λ later. AllByRecursion (λ before. is_task later.entry.client later.entry.step before.entry ≡ false) placed in
    all_by (λ entry. P (record { queue = queue.name; entry = entry })) (λ entry. list_any (holds entry.client entry.step) k.book.batches ≡ false)
    (λ entry all. free_from k.book.batches entry.client entry.step all) (got_in number k)
    (placed_each P queue.name (got_in number k)
    (placed_got script k.positions number queue (covered number k) P (taken_from number k.waiting) e (λ name client step seen p. p)
    (taken_all script k.positions number k.waiting h.ordered.waits)
    (all_filter (λ w. P (queued_at script.queues w)) (is_in number) k.waiting
    (all_by (λ w. AllByRecursion (λ before. IsApart before (queued_at script.queues w)) placed) (λ w. P (queued_at script.queues w))
    (λ w all. all_by (λ before. IsApart before (queued_at script.queues w)) (λ before. is_task w.entry.id.client w.entry.id.step before.entry ≡ false) (λ before p. p.other) placed all)
    k.waiting h.ordered.apart))))

-- what is left is another task than each that is got
left_apart : (script : Script) (k : Course) (number : ℕ) (queue : QueueSpec) → IsScript script → IsLawfulSoFar script k → slice_get script.queues number ≡ Some queue
    → AllByRecursion (λ w. AllByRecursion (λ before. IsApart before (queued_at script.queues w)) (placed_in queue.name (got_in number k))) (left_by number k.waiting)
left_apart script k number queue valid h e =
    let taken = taken_from number k.waiting in
    all_by (λ l. AllByRecursion (λ t. IsApart (queued_at script.queues t) (queued_at script.queues l)) taken)
    (λ l. AllByRecursion (λ before. IsApart before (queued_at script.queues l)) (placed_in queue.name (got_in number k)))
    (λ l all. placed_got script k.positions number queue (covered number k) (λ before. IsApart before (queued_at script.queues l)) taken e
    (λ name client step seen p. record { other = p.other; rises = p.rises }) (taken_all script k.positions number k.waiting h.ordered.waits) all)
    (left_by number k.waiting) (crossed script k.positions number k.waiting valid h.ordered.waits h.ordered.among)

left_not_got : (script : Script) (k : Course) (number : ℕ) (queue : QueueSpec) → IsScript script → IsLawfulSoFar script k → slice_get script.queues number ≡ Some queue
    → AllByRecursion (λ w. list_any (is_task w.entry.id.client w.entry.id.step) (got_in number k) ≡ false) (left_by number k.waiting)
left_not_got script k number queue valid h e =
    all_by (λ w. AllByRecursion (λ before. IsApart before (queued_at script.queues w)) (placed_in queue.name (got_in number k)))
    (λ w. list_any (is_task w.entry.id.client w.entry.id.step) (got_in number k) ≡ false)
    (λ w all. none_has (got_in number k) w.entry.id.client w.entry.id.step
    (all_by (λ e. IsApart (record { queue = queue.name; entry = e }) (queued_at script.queues w)) (λ e. is_task w.entry.id.client w.entry.id.step e ≡ false) (λ e p. p.other) (got_in number k)
    (placed_each (λ before. IsApart before (queued_at script.queues w)) queue.name (got_in number k) all)))
    (left_by number k.waiting) (left_apart script k number queue valid h e)

-- ---- the words afterwards

pub apart_later : (all more : List Queued) → AreApart (all ++ more) → AreApart more
apart_later [] more apart = apart
apart_later (first ∷ all) more apart = apart_later all more apart.1

placed_from : (P : Queued → Type 0) (name : List ℕ) (entries : List Entry) → AllByRecursion (λ e. P (record { queue = name; entry = e })) entries → AllByRecursion P (placed_in name entries)
placed_from P name [] all = tt
placed_from P name (entry ∷ more) all = (all.0, placed_from P name more all.1)

-- the words after a batch: those of its tasks tell their ends, and all others are as they were
record HasWords (k : Course) (number : ℕ) (ends : List TaskEnd) (after : TaskTable) : Type 0 where
  kept : (client step : ℕ) → list_any (is_task client step) (got_in number k) ≡ false → word_of after client step ≡ word_of k.tasks client step
  ended : (client step : ℕ) → list_any (is_task client step) (got_in number k) ≡ true
      → IsAmongEnds (length k.book.batches + 1) (got_in number k) ends client step (word_of after client step)

words_got : (script : Script) (k : Course) (number client step : ℕ) → IsLawfulSoFar script k → list_any (is_task client step) (got_in number k) ≡ false
    → word_of (got_from number k).tasks client step ≡ word_of k.tasks client step
words_got script k number client step h none =
    gathered_other (length k.book.batches + 1) (tried_in number k) (record { entries = []; tasks = covered number k }) client step (others_in script k number h) none

pub got_batchs : (script : Script) (k : Course) (number : ℕ) → IsLawfulSoFar script k → AreBatchs (length k.book.batches + 1) (got_from number k).tasks (got_in number k)
got_batchs script k number h = gathered_taken (length k.book.batches + 1) (tried_in number k) (record { entries = []; tasks = covered number k }) (others_in script k number h)

has_words : (script : Script) (k : Course) (number : ℕ) (queue : QueueSpec) (ends : List TaskEnd) → IsLawfulSoFar script k → CanJoin script k.book queue (got_in number k)
    → length ends ≡ length (got_in number k) → AllByRecursion (λ e. is_batch_end e ≡ true) ends
    → HasWords k number ends (ended_all (length k.book.batches + 1) (got_in number k) ends (got_from number k).tasks)
has_words script k number queue ends h joins count so =
    let batch = length k.book.batches + 1 in
    let entries = got_in number k in
    let tasks = (got_from number k).tasks in
    let once = once_from queue.name entries (apart_later (queued_of k.book.batches) (placed_in queue.name entries) joins.apart) in
    let has = got_batchs script k number h in
    record {
      kept = λ client step none. ended_other batch entries ends tasks client step once has none ∙ words_got script k number client step h none;
      ended = λ client step some. ended_among batch entries ends tasks client step count once has so some;
    }

-- a fact of each word, by the two cases
by_words : (P : Word → Type 0) (k : Course) (number : ℕ) (ends : List TaskEnd) (after : TaskTable) (client step : ℕ) (b : Bool) → HasWords k number ends after
    → list_any (is_task client step) (got_in number k) ≡ b → (list_any (is_task client step) (got_in number k) ≡ false → P (word_of k.tasks client step))
    → (IsAmongEnds (length k.book.batches + 1) (got_in number k) ends client step (word_of after client step) → list_any (is_task client step) (got_in number k) ≡ true → P (word_of after client step))
    → P (word_of after client step)
by_words P k number ends after client step true has e kept ended = ended (has.ended client step e) e
by_words P k number ends after client step false has e kept ended = subst P (sym (has.kept client step e)) (kept e)

each_word : (P : Word → Type 0) (k : Course) (number : ℕ) (ends : List TaskEnd) (after : TaskTable) (client step : ℕ) → HasWords k number ends after
    → (list_any (is_task client step) (got_in number k) ≡ false → P (word_of k.tasks client step))
    → (IsAmongEnds (length k.book.batches + 1) (got_in number k) ends client step (word_of after client step) → list_any (is_task client step) (got_in number k) ≡ true → P (word_of after client step))
    → P (word_of after client step)
each_word P k number ends after client step has kept ended = by_words P k number ends after client step (list_any (is_task client step) (got_in number k)) has refl kept ended

-- ---- the rules, after a batch

performed_served : (script : Script) (k : Course) (number : ℕ) (ends : List TaskEnd) (after : TaskTable) → IsPerformed script k.positions k.tasks k.ats → HasSame (covered number k) after
    → HasWords k number ends after → IsPerformed script k.positions after k.ats
performed_served script k number ends after h same has = record {
  places = h.places;
  lanes = same.lanes ∙ h.lanes;
  rows = h.rows;
  cells = λ c s.
      each_word (λ w. not (is_vacant w) ≡ (is_passed k.positions c s && is_submit_at (step_at script c s))) k number ends after c s has (λ none. h.cells c s)
      (λ among some. (λ i. not (is_vacant (among.told i))) ∙ sym (ap (λ w. not (is_vacant w)) (got_was k number c s some).was) ∙ h.cells c s);
}

passed_served : (script : Script) (k : Course) (number : ℕ) (ends : List TaskEnd) (after : TaskTable) → IsPassedSoFar script k.positions k.tasks → HasWords k number ends after
    → IsPassedSoFar script k.positions after
passed_served script k number ends after h has = λ c n e s less f awaits.
    let over = h c n e s less f awaits in
    ap is_over (has.kept c e (not_got k number c e (over_not_queued (word_of k.tasks c e) over))) ∙ over

-- what a client has seen so far stays
seen_later : (script : Script) (k : Course) (number : ℕ) (batch : Batch) (client step : ℕ) → IsPassedSoFar script k.positions k.tasks → batch.entries ≡ got_in number k
    → step ≤ next_at k.positions client → seen_of script (k.book.batches ++ batch ∷ []) client step ≡ seen_of script k.book.batches client step
seen_later script k number batch client step h e most =
    seen_kept script k.book.batches batch client step
    (λ n earlier s less f awaits.
    let over = h client n earlier s (let m = most in let l = less in omega arith) f awaits in
    ap (λ (all : List Entry). list_any (is_task client earlier) all) e ∙ not_got k number client earlier (over_not_queued (word_of k.tasks client earlier) over))

-- a step whose task has a word was passed
passed_word : (script : Script) (k : Course) (client step : ℕ) → IsPerformed script k.positions k.tasks k.ats → is_vacant (word_of k.tasks client step) ≡ false → step < next_at k.positions client
passed_word script k client step h some =
    ltb-true step (next_at k.positions client)
    (both_first (is_passed k.positions client step) (is_submit_at (step_at script client step)) (sym (h.cells client step) ∙ ap not some))

seen_word : (script : Script) (k : Course) (number : ℕ) (batch : Batch) (client step : ℕ) (w : Word) → word_of k.tasks client step ≡ w → IsPerformed script k.positions k.tasks k.ats
    → IsPassedSoFar script k.positions k.tasks → batch.entries ≡ got_in number k → HasSeenSoFar script k.book.batches client step w
    → HasSeenSoFar script (k.book.batches ++ batch ∷ []) client step w
seen_word script k number batch client step word.Vacant is performed passed e h = h
seen_word script k number batch client step (word.Queued seen deadline) is performed passed e h =
    let less = passed_word script k client step performed (ap is_vacant is) in
    h ∙ sym (seen_later script k number batch client step passed e (omega arith))
seen_word script k number batch client step (word.Taken seen before) is performed passed e h = h
seen_word script k number batch client step (word.Ended code) is performed passed e h = h
seen_word script k number batch client step (word.Timed reading) is performed passed e h = h

seen_served : (script : Script) (k : Course) (number : ℕ) (name : List ℕ) (batch : Batch) (ends : List TaskEnd) (after : TaskTable) → IsLawfulSoFar script k → HasWords k number ends after
    → batch.entries ≡ got_in number k → IsSeenSoFar script (k.book.batches ++ batch ∷ []) after k.positions k.awaited
seen_served script k number name batch ends after h has e =
    let batches = k.book.batches in
    let later = batches ++ batch ∷ [] in
    record {
      places = h.seen.places;
      in_book = subst (AllByRecursion (HasSeen script later)) (sym (placed_push batches batch))
          (all_append (HasSeen script later) (queued_of batches) (queued_in batch)
          (all_by (λ p. HasSeen script batches p × IsPassed k.positions p) (HasSeen script later)
          (λ p both. both.0 ∙ sym (seen_later script k number batch p.entry.client p.entry.step h.passed e (let less = both.1 in omega arith))) (queued_of batches)
          (all_both (HasSeen script batches) (IsPassed k.positions) (queued_of batches) h.seen.in_book h.ordered.passed))
          (placed_from (HasSeen script later) batch.queue batch.entries
          (subst (λ (all : List Entry). AllByRecursion (λ x. x.seen ≡ seen_of script later x.client x.step) all) (sym e)
          (all_by (IsGot (covered number k)) (λ x. x.seen ≡ seen_of script later x.client x.step)
          (λ x g.
          let less = passed_word script k x.client x.step h.performed (ap is_vacant g.was) in
          let is : x.seen ≡ seen_of script batches x.client x.step = subst (HasSeenSoFar script batches x.client x.step) g.was (h.seen.waiting x.client x.step) in
          is ∙ sym (seen_later script k number batch x.client x.step h.passed e (omega arith))) (got_in number k) (got_waited k number)))));
      waiting = λ c s.
          each_word (HasSeenSoFar script later c s) k number ends after c s has
          (λ none. seen_word script k number batch c s (word_of k.tasks c s) refl h.performed h.passed e (h.seen.waiting c s))
          (λ among some. subst (HasSeenSoFar script later c s) (sym among.told) tt);
      clients = λ c. h.seen.clients c ∙ sym (seen_later script k number batch c (next_at k.positions c) h.passed e (omega arith));
    }

ordered_served : (script : Script) (k : Course) (number : ℕ) (queue : QueueSpec) (at commit : ℕ) → IsScript script → IsLawfulSoFar script k → slice_get script.queues number ≡ Some queue
    → 0 < length (got_in number k) → IsOrderedSoFar script (noted k.book queue (got_in number k) at (ran_at script k.book.world queue (got_in number k) commit)) (left_by number k.waiting) k.positions
ordered_served script k number queue at commit valid h e some =
    let entries = got_in number k in
    let batch = batch_of script k.book queue entries at commit in
    let placed = queued_of k.book.batches in
    let left = left_by number k.waiting in
    let taken = taken_from number k.waiting in
    let pushed = placed_push k.book.batches batch in
    let are_taken = taken_all script k.positions number k.waiting h.ordered.waits in
    let elsewhere : Waiting → Bool = λ w. not (is_in number w) in
    let from : List Queued → Waiting → Type 0 = λ all w. AllByRecursion (λ before. IsApart before (queued_at script.queues w)) all in
    record {
      kept = kept_join script k.book number queue entries at commit valid h.ordered.kept e (got_joins script k number queue h e some);
      passed = subst (AllByRecursion (IsPassed k.positions)) (sym pushed)
          (all_append (IsPassed k.positions) placed (queued_in batch) h.ordered.passed
          (placed_got script k.positions number queue (covered number k) (IsPassed k.positions) taken e (λ name client step seen p. p) are_taken
          (all_by (IsTaken script k.positions number) (λ w. IsPassed k.positions (queued_at script.queues w)) (λ w t. t.0.passed) taken are_taken)));
      waits = all_filter (IsWaiting script k.positions) elsewhere k.waiting h.ordered.waits;
      apart = subst (λ all. AllByRecursion (from all) left) (sym pushed)
          (all_by (λ l. from placed l × from (placed_in queue.name entries) l) (from (placed ++ queued_in batch))
          (λ l both. all_append (λ before. IsApart before (queued_at script.queues l)) placed (queued_in batch) both.0 both.1) left
          (all_both (from placed) (from (placed_in queue.name entries)) left (all_filter (from placed) elsewhere k.waiting h.ordered.apart) (left_apart script k number queue valid h e)));
      among = among_filter script.queues elsewhere k.waiting h.ordered.among;
    }

-- a task that waits and isn't got is in another queue
still_left : (k : Course) (number c s seen deadline : ℕ) → word_of k.tasks c s ≡ word.Queued seen deadline → list_any (is_task c s) (got_in number k) ≡ false
    → (list_any (is_entry_of c s) (taken_from number k.waiting) ≡ true) ⊎ (list_any (is_entry_of c s) (left_by number k.waiting) ≡ true)
    → list_any (is_entry_of c s) (left_by number k.waiting) ≡ true
still_left k number c s seen deadline is none (inl taken) =
    absurd (true≢false (sym (got_any (covered number k) (tried_in number k) c s seen deadline is (any_trial c s (taken_from number k.waiting) taken)) ∙ none))
still_left k number c s seen deadline is none (inr left) = left

-- a word that no batch has touched is lawful still
left_word : (script : Script) (k : Course) (number c s at : ℕ) (timeout : Option ℕ) (w : Word) → word_of k.tasks c s ≡ w
    → list_any (is_task c s) (got_in number k) ≡ false → IsWordLawful script k.book.batches k.waiting c s at timeout w
    → IsWordLawful script k.book.batches (left_by number k.waiting) c s at timeout w
left_word script k number c s at timeout word.Vacant is none h = h
left_word script k number c s at timeout (word.Queued seen deadline) is none h = record {
  waits = still_left k number c s seen deadline is none (any_parted (is_entry_of c s) number k.waiting h.waits);
  due = h.due;
}
left_word script k number c s at timeout (word.Taken seen before) is none h = h
left_word script k number c s at timeout (word.Ended code) is none h = h
left_word script k number c s at timeout (word.Timed reading) is none h = h

kept_word : (script : Script) (k : Course) (number : ℕ) (batch : Batch) (c s at : ℕ) (timeout : Option ℕ) (w : Word) → word_of k.tasks c s ≡ w → batch.entries ≡ got_in number k
    → list_any (is_task c s) (got_in number k) ≡ false → IsWordLawful script k.book.batches k.waiting c s at timeout w
    → IsWordLawful script (k.book.batches ++ batch ∷ []) (left_by number k.waiting) c s at timeout w
kept_word script k number batch c s at timeout word.Vacant is e none h = h
kept_word script k number batch c s at timeout (word.Queued seen deadline) is e none h =
    left_word script k number c s at timeout (word.Queued seen deadline) is none h
kept_word script k number batch c s at timeout (word.Taken seen before) is e none h = h
kept_word script k number batch c s at timeout (word.Ended code) is e none h =
    let free = ap (λ (all : List Entry). list_any (is_task c s) all) e ∙ none in
    record {
      number = h.number ∙ sym (number_kept k.book.batches batch c s free);
      outcome = outcome_kept script k.book.batches batch c s free ∙ h.outcome;
      some = h.some;
    }
kept_word script k number batch c s at timeout (word.Timed reading) is e none h =
    let free = ap (λ (all : List Entry). list_any (is_task c s) all) e ∙ none in
    record {
      number = number_kept k.book.batches batch c s free ∙ h.number;
      outcome = outcome_kept script k.book.batches batch c s free ∙ h.outcome;
      over = h.over;
    }

end_again : (end : TaskEnd) → is_batch_end end ≡ true → end_by (outcome_by end) ≡ Some end
end_again (ends.Ok version) h = refl
end_again (ends.Unchanged version) h = refl
end_again (ends.Refused refusal) h = refl
end_again (ends.BatchFailed position refusal) h = refl
end_again ends.NotMaster h = refl
end_again ends.PublishFailed h = refl
end_again (ends.Timeout deadline reading) h = absurd (true≢false (sym h))
end_again (ends.Closed client step) h = absurd (true≢false (sym h))

-- a task of the batch ended in it, as it says
ended_word : (script : Script) (k : Course) (number : ℕ) (queue : QueueSpec) (at commit c s when : ℕ) (timeout : Option ℕ) (w : Word) → IsScript script → IsLawfulSoFar script k
    → slice_get script.queues number ≡ Some queue → list_any (is_task c s) (got_in number k) ≡ true
    → IsAmongEnds (length k.book.batches + 1) (got_in number k) (ran_at script k.book.world queue (got_in number k) commit).0.ends c s w
    → IsWordLawful script (k.book.batches ++ batch_of script k.book queue (got_in number k) at commit ∷ []) (left_by number k.waiting) c s when timeout w
ended_word script k number queue at commit c s when timeout w valid h e some among =
    let entries = got_in number k in
    let batch = batch_of script k.book queue entries at commit in
    let batches = k.book.batches in
    let free = any_has (λ (x y : ℕ). list_any (holds x y) batches ≡ false) entries c s (got_free script k number queue h e) some in
    let again = stepped_again script k.book number queue entries at commit valid h.ordered.kept e in
    let told = end_again among.end among.so in
    subst (IsWordLawful script (batches ++ batch ∷ []) (left_by number k.waiting) c s when timeout) (sym among.told) (record {
      number = sym (number_new batches batch c s free some);
      outcome = outcome_new script batches batch c s free some
          ∙ (λ i. option_map (λ p. p.1) (find (λ p. is_task c s p.0) (zip entries (sym again i).0.ends)))
          ∙ among.found ∙ sym told;
      some = ap is_some told;
    })

left_open : (script : Script) (k : Course) (number : ℕ) (queue : QueueSpec) (ends : List TaskEnd) (after : TaskTable) → IsScript script → IsLawfulSoFar script k
    → slice_get script.queues number ≡ Some queue → HasWords k number ends after
    → AllByRecursion (λ w. may_wait (word_of after w.entry.id.client w.entry.id.step) ≡ true) (left_by number k.waiting)
left_open script k number queue ends after valid h e has =
    let waits : Waiting → Type 0 = λ w. may_wait (word_of k.tasks w.entry.id.client w.entry.id.step) ≡ true in
    let free : Waiting → Type 0 = λ w. list_any (is_task w.entry.id.client w.entry.id.step) (got_in number k) ≡ false in
    all_by (λ w. waits w × free w) (λ w. may_wait (word_of after w.entry.id.client w.entry.id.step) ≡ true)
    (λ w both. ap may_wait (has.kept w.entry.id.client w.entry.id.step both.1) ∙ both.0) (left_by number k.waiting)
    (all_both waits free (left_by number k.waiting) (all_filter waits (λ w. not (is_in number w)) k.waiting h.ended.waits) (left_not_got script k number queue valid h e))

ended_served : (script : Script) (k : Course) (number : ℕ) (queue : QueueSpec) (at commit : ℕ) (after : TaskTable) → IsScript script → IsLawfulSoFar script k
    → slice_get script.queues number ≡ Some queue → HasWords k number (ran_at script k.book.world queue (got_in number k) commit).0.ends after
    → IsEndedSoFar script (k.book.batches ++ batch_of script k.book queue (got_in number k) at commit ∷ []) (left_by number k.waiting) after k.ats
ended_served script k number queue at commit after valid h e has =
    let entries = got_in number k in
    let batch = batch_of script k.book queue entries at commit in
    let ends = (ran_at script k.book.world queue entries commit).0.ends in
    record {
      words = λ c s.
          each_word (IsWordLawful script (k.book.batches ++ batch ∷ []) (left_by number k.waiting) c s (moment_at k.ats c s) (task_timeout_of (step_at script c s))) k number ends after c s has
          (λ none. kept_word script k number batch c s (moment_at k.ats c s) (task_timeout_of (step_at script c s)) (word_of k.tasks c s) refl refl none (h.ended.words c s))
          (λ among some. ended_word script k number queue at commit c s (moment_at k.ats c s) (task_timeout_of (step_at script c s)) (word_of after c s) valid h e some among);
      waits = left_open script k number queue ends after valid h e has;
    }

-- ---- the rules, where none is got

none_served : (script : Script) (k : Course) (number : ℕ) → IsLawfulSoFar script k → got_in number k ≡ []
    → IsLawfulSoFar script (record k { waiting = left_by number k.waiting; tasks = (got_from number k).tasks })
none_served script k number h none =
    let now = (got_from number k).tasks in
    let same = gathered_same (length k.book.batches + 1) (tried_in number k) (record { entries = []; tasks = covered number k }) in
    let free : (c s : ℕ) → list_any (is_task c s) (got_in number k) ≡ false = λ c s. ap (λ (all : List Entry). list_any (is_task c s) all) none in
    let is : (c s : ℕ) → word_of now c s ≡ word_of k.tasks c s = λ c s. words_got script k number c s h (free c s) in
    let elsewhere : Waiting → Bool = λ w. not (is_in number w) in
    record {
      performed = record {
        places = h.performed.places;
        lanes = same.lanes ∙ h.performed.lanes;
        rows = h.performed.rows;
        cells = λ c s. ap (λ w. not (is_vacant w)) (is c s) ∙ h.performed.cells c s;
      };
      ordered = record {
        kept = h.ordered.kept;
        passed = h.ordered.passed;
        waits = all_filter (IsWaiting script k.positions) elsewhere k.waiting h.ordered.waits;
        apart = all_filter (λ w. AllByRecursion (λ before. IsApart before (queued_at script.queues w)) (queued_of k.book.batches)) elsewhere k.waiting h.ordered.apart;
        among = among_filter script.queues elsewhere k.waiting h.ordered.among;
      };
      seen = record {
        places = h.seen.places;
        in_book = h.seen.in_book;
        waiting = λ c s. subst (HasSeenSoFar script k.book.batches c s) (sym (is c s)) (h.seen.waiting c s);
        clients = h.seen.clients;
      };
      passed = λ c n e s less f awaits. ap is_over (is c e) ∙ h.passed c n e s less f awaits;
      ended = record {
        words = λ c s.
            subst (IsWordLawful script k.book.batches (left_by number k.waiting) c s (moment_at k.ats c s) (task_timeout_of (step_at script c s))) (sym (is c s))
            (left_word script k number c s (moment_at k.ats c s) (task_timeout_of (step_at script c s)) (word_of k.tasks c s) refl (free c s) (h.ended.words c s));
        waits = all_by (λ w. may_wait (word_of k.tasks w.entry.id.client w.entry.id.step) ≡ true) (λ w. may_wait (word_of now w.entry.id.client w.entry.id.step) ≡ true)
            (λ w p. ap may_wait (is w.entry.id.client w.entry.id.step) ∙ p) (left_by number k.waiting)
            (all_filter (λ w. may_wait (word_of k.tasks w.entry.id.client w.entry.id.step) ≡ true) elsewhere k.waiting h.ended.waits);
      };
      told = told_served script k number now h.told same;
      recorded = h.recorded;
      lapsed = h.lapsed;
    }

-- ---- the event

some_served : (script : Script) (k : Course) (number : ℕ) (queue : QueueSpec) (at commit : ℕ) → IsScript script → IsLawfulSoFar script k → slice_get script.queues number ≡ Some queue
    → 0 < length (got_in number k)
    → let book = noted k.book queue (got_in number k) at (ran_at script k.book.world queue (got_in number k) commit) in
    IsLawfulSoFar script (record k {
      book = book;
      waiting = left_by number k.waiting;
      tasks = ended_all (length book.batches) (got_in number k) book.ends (got_from number k).tasks;
      nodes = handed_each script (last_stepped book) script.nodes k.nodes;
    })
some_served script k number queue at commit valid h e some =
    let entries = got_in number k in
    let made = ran_at script k.book.world queue entries commit in
    let batch = batch_of script k.book queue entries at commit in
    let joins = got_joins script k number queue h e some in
    let now = (got_from number k).tasks in
    let count = length-append k.book.batches (batch ∷ []) in
    let after = ended_all (length k.book.batches + 1) entries made.0.ends now in
    let same = same_tables (covered number k) now after (gathered_same (length k.book.batches + 1) (tried_in number k) (record { entries = []; tasks = covered number k }))
    (ended_same (length k.book.batches + 1) entries made.0.ends now) in
    let has = has_words script k number queue made.0.ends h joins (ends_count script k.book.world queue entries commit joins.own) (ends_of_batches (input_at (cut_by script.faults) script queue entries commit) k.book.world) in
    let book = noted k.book queue entries at made in
    subst
    (λ (n : ℕ). IsLawfulSoFar script (record k {
      book = book;
      waiting = left_by number k.waiting;
      tasks = ended_all n entries made.0.ends now;
      nodes = handed_each script (last_stepped book) script.nodes k.nodes;
    }))
    (sym count) (record {
      performed = performed_served script k number made.0.ends after h.performed same has;
      ordered = ordered_served script k number queue at commit valid h e some;
      seen = seen_served script k number queue.name batch made.0.ends after h has refl;
      passed = passed_served script k number made.0.ends after h.passed has;
      ended = ended_served script k number queue at commit after valid h e has;
      told = told_served script k number after h.told same;
      recorded = recorded_served script k.book number queue entries at commit k.nodes valid h.ordered.kept e h.recorded;
      lapsed = lapsed_push script k.book.batches batch k.lapses h.lapsed;
    })

abbrev ran_with : Script → Course → ℕ → Chronicle → List Entry → Course
ran_with script k number book entries =
    record k {
      book = book;
      waiting = left_by number k.waiting;
      tasks = ended_all (length book.batches) entries book.ends (got_from number k).tasks;
      nodes = handed_each script (last_stepped book) script.nodes k.nodes;
    }

ran_keeps : (script : Script) (k : Course) (number : ℕ) (queue : QueueSpec) (at commit : ℕ) (entries : List Entry) → IsScript script → IsLawfulSoFar script k
    → slice_get script.queues number ≡ Some queue → got_in number k ≡ entries
    → IsLawfulSoFar script (ran script number at commit (record k { waiting = left_by number k.waiting; tasks = (got_from number k).tasks }) entries)
ran_keeps script k number queue at commit [] valid h e is = none_served script k number h is
ran_keeps script k number queue at commit (first ∷ more) valid h e is =
    let some : 0 < length (got_in number k) = let long = ap (λ (all : List Entry). length all) is in omega arith in
    subst (λ (all : List Entry). IsLawfulSoFar script (ran_with script k number (added script k.book number all at commit) all)) is
    (subst (λ (found : Option QueueSpec). IsLawfulSoFar script (ran_with script k number (added_to script k.book found (got_in number k) at commit) (got_in number k))) (sym e)
    (some_served script k number queue at commit valid h e some))

pub serve_keeps : (script : Script) (k : Course) (number at commit : ℕ) → IsScript script → IsLawfulSoFar script k → has_some_in number k.waiting ≡ true
    → IsLawfulSoFar script (served script number at commit k)
serve_keeps script k number at commit valid h some =
    let queue = served_queue script k.positions number k.waiting h.ordered.waits some in
    subst (λ (all : List Entry). IsLawfulSoFar script (ran script number at commit (record k { waiting = left_by number k.waiting; tasks = (got_from number k).tasks }) all)) (sym (got_is script k number h))
    (ran_keeps script k number queue.0 at commit (got_in number k) valid h queue.1 refl)
