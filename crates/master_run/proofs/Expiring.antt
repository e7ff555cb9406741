-- A task that times out: it waited, and its deadline was there. All other words are as they were.
use Rattle.std.specs.Prelude.{◌≡◌, ℕ, ◌≤◌, Bool, true, false, List, [], ◌∷◌, nat_le, refl, if◌then◌else◌}
use Rattle.std.proofs.Common.{sym, ◌∙◌, ap}
use Rattle.std.proofs.lemmas.Bool.{leb-true}
use Rattle.std.specs.List.{AllByRecursion}
use Rattle.scripts.specs.declared.task_id.TaskId.{TaskId}
use Rattle.task_words.specs.declared.words.Word.{Word}
use Rattle.task_words.specs.declared.words.Word.TheVariants as word
use Rattle.task_words.specs.declared.answers.Expiry.TheVariants.{NotDue, Won}
use Rattle.task_words.specs.Words.{IsWithin, TaskTable, expiry_of, timed_by, word_at}
use Rattle.master_intake.specs.declared.entries.Waiting.{Waiting}
use Rattle.master_run.specs.Courses.{id_at, word_of}
use Rattle.master_run.specs.Events.{CanExpire, expired}
use Rattle.master_run.specs.SoFar.{is_vacant, may_wait}
use Rattle.master_run.proofs.Gathering.{waits_there}
use Rattle.master_run.proofs.Wordwise.{within_from, word_by}

-- what holds of each word, and of the reading at a task whose deadline is at most that, holds of each word afterwards
due_or_not : (P : ℕ → ℕ → Word → Type 0) (tasks : TaskTable) (c s reading seen deadline : ℕ) (b : Bool) → nat_le deadline reading ≡ b → IsWithin tasks (id_at c s)
    → (deadline ≤ reading → P c s (word.Timed reading)) → (client step : ℕ) → P client step (word_of tasks client step)
    → P client step (word_of (timed_by reading (id_at c s) (if b then Won else NotDue deadline) tasks) client step)
due_or_not P tasks c s reading seen deadline true e within won client step before =
    word_by P tasks c s (word.Timed reading) within (won (leb-true deadline reading e)) client step (λ apart. before)
due_or_not P tasks c s reading seen deadline false e within won client step before = before

expired_from : (P : ℕ → ℕ → Word → Type 0) (tasks : TaskTable) (c s reading : ℕ) (w : Word) → word_of tasks c s ≡ w
    → ((seen deadline : ℕ) → word_of tasks c s ≡ word.Queued seen deadline → deadline ≤ reading → P c s (word.Timed reading))
    → (client step : ℕ) → P client step (word_of tasks client step) → P client step (word_of (timed_by reading (id_at c s) (expiry_of reading w) tasks) client step)
expired_from P tasks c s reading word.Vacant e won client step before = before
expired_from P tasks c s reading (word.Queued seen deadline) e won client step before =
    due_or_not P tasks c s reading seen deadline (nat_le deadline reading) refl (within_from tasks c s (ap is_vacant e)) (won seen deadline e) client step before
expired_from P tasks c s reading (word.Taken seen batch) e won client step before = before
expired_from P tasks c s reading (word.Ended code) e won client step before = before
expired_from P tasks c s reading (word.Timed at) e won client step before = before

pub expired_by : (P : ℕ → ℕ → Word → Type 0) (tasks : TaskTable) (id : TaskId) (reading : ℕ)
    → ((seen deadline : ℕ) → word_of tasks id.client id.step ≡ word.Queued seen deadline → deadline ≤ reading → P id.client id.step (word.Timed reading))
    → (client step : ℕ) → P client step (word_of tasks client step) → P client step (word_of (expired id reading tasks) client step)
expired_by P tasks id reading won client step before = expired_from P tasks id.client id.step reading (word_at tasks id) refl won client step before

-- what each word that isn't one of a task that waits keeps
pub expired_kept : (A : Type 0) (f : Word → A) (tasks : TaskTable) (id : TaskId) (reading : ℕ) → ((seen deadline : ℕ) → f (word.Timed reading) ≡ f (word.Queued seen deadline))
    → (client step : ℕ) → f (word_of (expired id reading tasks) client step) ≡ f (word_of tasks client step)
expired_kept A f tasks id reading same client step =
    expired_by (λ (c s : ℕ) (w : Word). f w ≡ f (word_of tasks c s)) tasks id reading
    (λ seen deadline e less. same seen deadline ∙ sym (ap f e)) client step refl

-- ---- each may be tried

still_there : (tasks : TaskTable) (id : TaskId) (reading : ℕ) (more : List Waiting) → AllByRecursion (λ w. is_vacant (word_of tasks w.entry.id.client w.entry.id.step) ≡ false) more
    → AllByRecursion (λ w. is_vacant (word_of (expired id reading tasks) w.entry.id.client w.entry.id.step) ≡ false) more
still_there tasks id reading [] all = tt
still_there tasks id reading (next ∷ more) all = (
  expired_kept Bool is_vacant tasks id reading (λ seen deadline. refl) next.entry.id.client next.entry.id.step ∙ all.0,
  still_there tasks id reading more all.1,
)

can_expire : (reading : ℕ) (waiting : List Waiting) (tasks : TaskTable) → AllByRecursion (λ w. is_vacant (word_of tasks w.entry.id.client w.entry.id.step) ≡ false) waiting
    → CanExpire reading waiting tasks
can_expire reading [] tasks all = tt
can_expire reading (first ∷ more) tasks all =
    (within_from tasks first.entry.id.client first.entry.id.step all.0, can_expire reading more (expired first.entry.id reading tasks) (still_there tasks first.entry.id reading more all.1))

all_there : (tasks : TaskTable) (waiting : List Waiting) → AllByRecursion (λ w. may_wait (word_of tasks w.entry.id.client w.entry.id.step) ≡ true) waiting
    → AllByRecursion (λ w. is_vacant (word_of tasks w.entry.id.client w.entry.id.step) ≡ false) waiting
all_there tasks [] all = tt
all_there tasks (first ∷ more) all = (waits_there (word_of tasks first.entry.id.client first.entry.id.step) all.0, all_there tasks more all.1)

pub can_expire_all : (reading : ℕ) (waiting : List Waiting) (tasks : TaskTable) → AllByRecursion (λ w. may_wait (word_of tasks w.entry.id.client w.entry.id.step) ≡ true) waiting
    → CanExpire reading waiting tasks
can_expire_all reading waiting tasks all = can_expire reading waiting tasks (all_there tasks waiting all)
