-- A task that times out leaves a course lawful so far: it waited, so that it is in no batch.
use Rattle.std.specs.Prelude.{◌≡◌, ℕ, ◌-◌, ◌^◌, ◌<◌, ◌≤◌, Bool, true, false, not, ◌||◌, List, [], ◌∷◌, get_or, length, nat_le, Option, Some, None, refl, if◌then◌else◌}
use Rattle.std.proofs.Common.{sym, ◌∙◌, ap, subst, arith}
use Rattle.std.proofs.Math.Bool.{true≢false}
use Rattle.std.proofs.lemmas.Bool.{leb-true}
use Rattle.std.specs.List.{AllByRecursion, list_any}
use Rattle.scripts.specs.declared.whole_script.Script.{Script}
use Rattle.scripts.specs.declared.task_id.TaskId.{TaskId}
use Rattle.scripts.specs.Scripts.{IsScript}
use Rattle.scripts.specs.ValidSteps.{is_if_some, is_positive_time}
use Rattle.session_law.specs.declared.batches.Batch.{Batch}
use Rattle.session_law.specs.Endings.{IsOver, task_timeout_of}
use Rattle.session_law.specs.Histories.{IsApart, queued_of, step_at}
use Rattle.session_law.specs.Outcomes.{holds, is_task}
use Rattle.session_law.proofs.Growth.{free_from, number_none, outcome_none}
use Rattle.task_words.specs.declared.words.Word.{Word}
use Rattle.task_words.specs.declared.words.Word.TheVariants as word
use Rattle.task_words.specs.declared.answers.Expiry.TheVariants.{NotDue, Won}
use Rattle.task_words.specs.Words.{TaskTable, expiry_of, timed_by, word_at}
use Rattle.master_intake.specs.declared.entries.Waiting.{Waiting}
use Rattle.master_run.specs.Courses.{Course, id_at, moment_at, word_of}
use Rattle.master_run.specs.Endings.{deadline_of}
use Rattle.master_run.specs.Events.{all_expired, expired}
use Rattle.master_run.specs.Serials.{timed_at}
use Rattle.master_run.specs.SoFar.{AreApartFrom, HasSeenSoFar, IsLawfulSoFar, IsStillQueued, IsTimed, IsWordLawful, is_entry_of, is_over, is_vacant, may_wait, queued_at}
use Rattle.master_run.proofs.AckKeeping.{lapse_keeps}
use Rattle.master_run.proofs.Alls.{all_by}
use Rattle.master_run.proofs.Expiring.{expired_by, expired_kept}
use Rattle.master_run.proofs.Keeping.{both_first}
use Rattle.master_run.proofs.Serving.{HasSame, word_has_same}
use Rattle.master_run.proofs.Taken.{timeouts_so}
use Rattle.master_run.proofs.Wordwise.{at_same}

-- ---- what waits is in no batch

one_waits : (P : ℕ → ℕ → Type 0) (w : Waiting) (more : List Waiting) (client step : ℕ) (b : Bool) → is_entry_of client step w ≡ b → P w.entry.id.client w.entry.id.step
    → (b || list_any (is_entry_of client step) more) ≡ true → (list_any (is_entry_of client step) more ≡ true → P client step) → P client step
one_waits P w more client step true e p h rest = at_same P client step w.entry.id.client w.entry.id.step e p
one_waits P w more client step false e p h rest = rest h

any_waits : (P : ℕ → ℕ → Type 0) (waiting : List Waiting) (client step : ℕ) → AllByRecursion (λ w. P w.entry.id.client w.entry.id.step) waiting
    → list_any (is_entry_of client step) waiting ≡ true → P client step
any_waits P [] client step all h = absurd (true≢false (sym h))
any_waits P (w ∷ more) client step all h = one_waits P w more client step (is_entry_of client step w) refl all.0 h (any_waits P more client step all.1)

waits_free : (script : Script) (batches : List Batch) (waiting : List Waiting) (client step : ℕ) → AreApartFrom script.queues (queued_of batches) waiting
    → list_any (is_entry_of client step) waiting ≡ true → list_any (holds client step) batches ≡ false
waits_free script batches waiting client step apart h =
    let placed = queued_of batches in
    any_waits (λ (x y : ℕ). list_any (holds x y) batches ≡ false) waiting client step
    (all_by (λ w. AllByRecursion (λ before. IsApart before (queued_at script.queues w)) placed) (λ w. list_any (holds w.entry.id.client w.entry.id.step) batches ≡ false)
    (λ w all. free_from batches w.entry.id.client w.entry.id.step
    (all_by (λ before. IsApart before (queued_at script.queues w)) (λ before. is_task w.entry.id.client w.entry.id.step before.entry ≡ false) (λ before p. p.other) placed all)) waiting apart) h

-- ---- a deadline that is there

-- a task that may wait for ever has no deadline that a reading can reach
over_by : (at reading deadline : ℕ) (timeout : Option ℕ) → is_if_some is_positive_time timeout ≡ true → deadline ≡ deadline_of at timeout → deadline ≤ reading → reading < 2 ^ 43 - 1
    → IsOver at timeout (deadline_of at timeout) reading
over_by at reading deadline None so due less few = absurd (omega arith)
over_by at reading deadline (Some timeout) so due less few =
    (leb-true 1 timeout (both_first (nat_le 1 timeout) (nat_le timeout 4294967295) so), (refl, (let d = due in let l = less in omega arith)))

-- ---- the tables

expired_same_by : (tasks : TaskTable) (c s reading deadline : ℕ) (b : Bool) → HasSame tasks (timed_by reading (id_at c s) (if b then Won else NotDue deadline) tasks)
expired_same_by tasks c s reading deadline true = word_has_same c s (word.Timed reading) tasks
expired_same_by tasks c s reading deadline false = record { lanes = refl; sizes = refl; stopped = refl }

expired_same_from : (tasks : TaskTable) (c s reading : ℕ) (w : Word) → HasSame tasks (timed_by reading (id_at c s) (expiry_of reading w) tasks)
expired_same_from tasks c s reading word.Vacant = record { lanes = refl; sizes = refl; stopped = refl }
expired_same_from tasks c s reading (word.Queued seen deadline) = expired_same_by tasks c s reading deadline (nat_le deadline reading)
expired_same_from tasks c s reading (word.Taken seen batch) = record { lanes = refl; sizes = refl; stopped = refl }
expired_same_from tasks c s reading (word.Ended code) = record { lanes = refl; sizes = refl; stopped = refl }
expired_same_from tasks c s reading (word.Timed at) = record { lanes = refl; sizes = refl; stopped = refl }

expired_same : (tasks : TaskTable) (id : TaskId) (reading : ℕ) → HasSame tasks (expired id reading tasks)
expired_same tasks id reading = expired_same_from tasks id.client id.step reading (word_at tasks id)

-- ---- the rules

timed_word : (script : Script) (k : Course) (c s reading seen deadline : ℕ) → IsScript script → IsLawfulSoFar script k → word_of k.tasks c s ≡ word.Queued seen deadline → deadline ≤ reading
    → reading < 2 ^ 43 - 1 → IsTimed script k.book.batches c s (moment_at k.ats c s) (task_timeout_of (step_at script c s)) reading
timed_word script k c s reading seen deadline valid h is less few =
    let at = moment_at k.ats c s in
    let timeout = task_timeout_of (step_at script c s) in
    let queued : IsStillQueued k.waiting c s at timeout deadline = subst (IsWordLawful script k.book.batches k.waiting c s at timeout) is (h.ended.words c s) in
    let free = waits_free script k.book.batches k.waiting c s h.ordered.apart queued.waits in
    record {
      number = number_none k.book.batches c s free;
      outcome = outcome_none script k.book.batches c s free;
      over = over_by at reading deadline timeout (timeouts_so script c s valid) queued.due less few;
    }

pub expire_keeps : (script : Script) (k : Course) (id : TaskId) (reading : ℕ) → IsScript script → IsLawfulSoFar script k → reading < 2 ^ 43 - 1
    → IsLawfulSoFar script (record k { tasks = expired id reading k.tasks })
expire_keeps script k id reading valid h few =
    let now = expired id reading k.tasks in
    let same = expired_same k.tasks id reading in
    record {
      performed = record {
        places = h.performed.places;
        lanes = same.lanes ∙ h.performed.lanes;
        rows = h.performed.rows;
        cells = λ c s. ap not (expired_kept Bool is_vacant k.tasks id reading (λ seen deadline. refl) c s) ∙ h.performed.cells c s;
      };
      ordered = h.ordered;
      seen = record {
        places = h.seen.places;
        in_book = h.seen.in_book;
        waiting = λ c s. expired_by (HasSeenSoFar script k.book.batches) k.tasks id reading (λ seen deadline e less. tt) c s (h.seen.waiting c s);
        clients = h.seen.clients;
      };
      passed = λ c n e s less f awaits.
          expired_by (λ (x y : ℕ) (w : Word). is_over w ≡ true) k.tasks id reading (λ seen deadline is l. refl) c e (h.passed c n e s less f awaits);
      ended = record {
        words = λ c s.
            expired_by (λ (x y : ℕ) (w : Word). IsWordLawful script k.book.batches k.waiting x y (moment_at k.ats x y) (task_timeout_of (step_at script x y)) w) k.tasks id reading
            (λ seen deadline is less. timed_word script k id.client id.step reading seen deadline valid h is less few) c s (h.ended.words c s);
        waits = all_by (λ w. may_wait (word_of k.tasks w.entry.id.client w.entry.id.step) ≡ true) (λ w. may_wait (word_of now w.entry.id.client w.entry.id.step) ≡ true)
            (λ w p. expired_kept Bool may_wait k.tasks id reading (λ seen deadline. refl) w.entry.id.client w.entry.id.step ∙ p) k.waiting h.ended.waits;
      };
      told = record {
        queues = ap (λ (all : List ℕ). length all) same.sizes ∙ h.told.queues;
        sizes = λ q. ap (λ (all : List ℕ). get_or all q 0) same.sizes ∙ h.told.sizes q;
        stopped = same.stopped ∙ h.told.stopped;
      };
      recorded = h.recorded;
      lapsed = h.lapsed;
    }

-- each of what waits
pub all_expire_keep : (script : Script) (k : Course) (all : List Waiting) (reading : ℕ) → IsScript script → IsLawfulSoFar script k → reading < 2 ^ 43 - 1
    → IsLawfulSoFar script (record k { tasks = all_expired reading all k.tasks })
all_expire_keep script k [] reading valid h few = h
all_expire_keep script k (w ∷ more) reading valid h few =
    all_expire_keep script (record k { tasks = expired w.entry.id reading k.tasks }) more reading valid (expire_keeps script k w.entry.id reading valid h few) few

-- and then each open acknowledgement
pub timed_keeps : (script : Script) (k : Course) (reading : ℕ) → IsScript script → IsLawfulSoFar script k → reading < 2 ^ 43 - 1 → IsLawfulSoFar script (timed_at script reading k)
timed_keeps script k reading valid h few =
    lapse_keeps script (record k { tasks = all_expired reading k.waiting k.tasks }) reading (all_expire_keep script k k.waiting reading valid h few)
