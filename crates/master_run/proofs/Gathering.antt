-- What a batch gets of the tasks that it tries to take: those that wait. Their words are the batch's afterwards, and all
-- other words are as they were.
use Rattle.std.specs.Prelude.{◌≡◌, ℕ, Bool, true, false, ◌||◌, List, [], ◌∷◌, ◌++◌, refl}
use Rattle.std.proofs.Common.{sym, ◌∙◌, ap, subst, append-nil, append_assoc}
use Rattle.std.proofs.Math.Bool.{true≢false}
use Rattle.std.specs.List.{AllByRecursion, list_any}
use Rattle.scripts.specs.declared.task_id.TaskId.{TaskId}
use Rattle.session_law.specs.declared.batches.Entry.{Entry}
use Rattle.session_law.specs.Outcomes.{is_task}
use Rattle.session_law.specs.ScriptSteps.{is_at}
use Rattle.task_words.specs.declared.words.Word.{Word}
use Rattle.task_words.specs.declared.words.Word.TheVariants as word
use Rattle.task_words.specs.Words.{TaskTable, acquired_by, is_open, taken_by, word_at}
use Rattle.master_intake.specs.declared.entries.WaitingTask.{WaitingTask}
use Rattle.master_run.specs.Courses.{id_at, word_of}
use Rattle.master_run.specs.Servings.{CanGather, Gathered, entry_by, gathered, gathered_with}
use Rattle.master_run.specs.SoFar.{is_vacant, may_wait}
use Rattle.master_run.proofs.Keeping.{false_from, neither, or_left, or_right}
use Rattle.master_run.proofs.Wordwise.{at_back, at_turned, within_from, word_other, word_same}

-- ---- one try

abbrev pub is_queued : Word → Bool
is_queued word.Vacant = false
is_queued (word.Queued seen deadline) = true
is_queued (word.Taken seen batch) = false
is_queued (word.Ended code) = false
is_queued (word.Timed reading) = false

-- the words after a try at a task whose word is known
abbrev tried : ℕ → ℕ → ℕ → Word → TaskTable → TaskTable
tried batch c s w tasks = taken_by batch (id_at c s) (acquired_by w) tasks

-- another task's word stays
tried_other : (batch : ℕ) (tasks : TaskTable) (c s : ℕ) (w : Word) → word_of tasks c s ≡ w → (client step : ℕ) → is_at c s client step ≡ false
    → word_of (tried batch c s w tasks) client step ≡ word_of tasks client step
tried_other batch tasks c s word.Vacant e client step apart = refl
tried_other batch tasks c s (word.Queued seen deadline) e client step apart =
    word_other tasks c s (word.Taken seen batch) client step (within_from tasks c s (ap is_vacant e)) apart
tried_other batch tasks c s (word.Taken seen before) e client step apart = refl
tried_other batch tasks c s (word.Ended code) e client step apart = refl
tried_other batch tasks c s (word.Timed reading) e client step apart = refl

-- a word that doesn't wait stays
tried_kept : (batch : ℕ) (tasks : TaskTable) (c s : ℕ) (w : Word) → word_of tasks c s ≡ w → (client step : ℕ) → is_queued (word_of tasks client step) ≡ false
    → word_of (tried batch c s w tasks) client step ≡ word_of tasks client step
tried_kept batch tasks c s word.Vacant e client step none = refl
tried_kept batch tasks c s (word.Queued seen deadline) e client step none =
    tried_other batch tasks c s (word.Queued seen deadline) e client step (false_from (is_at c s client step) (λ same.
    true≢false (sym (ap is_queued (at_back (λ (x y : ℕ). word_of tasks x y ≡ word.Queued seen deadline) c s client step same e)) ∙ none)))
tried_kept batch tasks c s (word.Taken seen before) e client step none = refl
tried_kept batch tasks c s (word.Ended code) e client step none = refl
tried_kept batch tasks c s (word.Timed reading) e client step none = refl

-- ---- what it gets, by the words before

abbrev pub entries_in : TaskTable → List WaitingTask → List Entry
entries_in tasks [] = []
entries_in tasks (first ∷ more) = entry_by first.id (acquired_by (word_at tasks first.id)) ++ entries_in tasks more

abbrev pub IsOther : WaitingTask → WaitingTask → Type 0
IsOther a b = is_at a.id.client a.id.step b.id.client b.id.step ≡ false

-- no task stands twice
abbrev pub AreOthers : List WaitingTask → Type 0
AreOthers [] = Unit {0}
AreOthers (first ∷ more) = AllByRecursion (IsOther first) more × AreOthers more

entries_again : (batch : ℕ) (tasks : TaskTable) (first : WaitingTask) (more : List WaitingTask) → AllByRecursion (IsOther first) more
    → entries_in (tried batch first.id.client first.id.step (word_at tasks first.id) tasks) more ≡ entries_in tasks more
entries_again batch tasks first [] others = refl
entries_again batch tasks first (next ∷ more) others =
    λ i. entry_by next.id (acquired_by (tried_other batch tasks first.id.client first.id.step (word_at tasks first.id) refl next.id.client next.id.step others.0 i))
    ++ entries_again batch tasks first more others.1 i

pub gathered_entries : (batch : ℕ) (waiting : List WaitingTask) (all : Gathered) → AreOthers waiting → (gathered batch waiting all).entries ≡ all.entries ++ entries_in all.tasks waiting
gathered_entries batch [] all others = sym (append-nil all.entries)
gathered_entries batch (first ∷ more) all others =
    let got = entry_by first.id (acquired_by (word_at all.tasks first.id)) in
    gathered_entries batch more (gathered_with batch first.id (acquired_by (word_at all.tasks first.id)) all) others.1
    ∙ ap (λ (rest : List Entry). (all.entries ++ got) ++ rest) (entries_again batch all.tasks first more others.0)
    ∙ append_assoc all.entries got (entries_in all.tasks more)

-- what holds of each entry
got_one : (P : Entry → Type 0) (id : TaskId) (w : Word) (rest : List Entry) → ((seen deadline : ℕ) → w ≡ word.Queued seen deadline → P (record { client = id.client; step = id.step; seen = seen }))
    → AllByRecursion P rest → AllByRecursion P (entry_by id (acquired_by w) ++ rest)
got_one P id word.Vacant rest f all = all
got_one P id (word.Queued seen deadline) rest f all = (f seen deadline refl, all)
got_one P id (word.Taken seen before) rest f all = all
got_one P id (word.Ended code) rest f all = all
got_one P id (word.Timed reading) rest f all = all

-- of a task that is got, by what holds of it as one that is tried
abbrev Gives : (Entry → Type 0) → TaskTable → WaitingTask → Type 0
Gives P tasks next = (seen deadline : ℕ) → word_of tasks next.id.client next.id.step ≡ word.Queued seen deadline → P (record { client = next.id.client; step = next.id.step; seen = seen })

pub all_got : (P : Entry → Type 0) (tasks : TaskTable) (waiting : List WaitingTask) → AllByRecursion (Gives P tasks) waiting → AllByRecursion P (entries_in tasks waiting)
all_got P tasks [] all = tt
all_got P tasks (first ∷ more) all = got_one P first.id (word_at tasks first.id) (entries_in tasks more) all.0 (all_got P tasks more all.1)

-- each entry's task waited, and its client had seen what it says
pub record IsGot (tasks : TaskTable) (entry : Entry) : Type 0 where
  pub deadline : ℕ
  pub was : word_of tasks entry.client entry.step ≡ word.Queued entry.seen deadline

each_gives : (tasks : TaskTable) (waiting : List WaitingTask) → AllByRecursion (Gives (IsGot tasks) tasks) waiting
each_gives tasks [] = tt
each_gives tasks (first ∷ more) = ((λ seen deadline e. record { deadline = deadline; was = e }), each_gives tasks more)

pub all_waited : (tasks : TaskTable) (waiting : List WaitingTask) → AllByRecursion (IsGot tasks) (entries_in tasks waiting)
all_waited tasks waiting = all_got (IsGot tasks) tasks waiting (each_gives tasks waiting)

-- a task that is tried and waits is got
one_any : (test : Entry → Bool) (id : TaskId) (w : Word) (rest : List Entry) (seen deadline : ℕ) → w ≡ word.Queued seen deadline
    → test (record { client = id.client; step = id.step; seen = seen }) ≡ true → list_any test (entry_by id (acquired_by w) ++ rest) ≡ true
one_any test id w rest seen deadline e h =
    subst (λ (v : Word). list_any test (entry_by id (acquired_by v) ++ rest) ≡ true) (sym e) (or_left (test (record { client = id.client; step = id.step; seen = seen })) (list_any test rest) h)

more_any : (test : Entry → Bool) (id : TaskId) (w : Word) (rest : List Entry) → list_any test rest ≡ true → list_any test (entry_by id (acquired_by w) ++ rest) ≡ true
more_any test id word.Vacant rest h = h
more_any test id (word.Queued seen deadline) rest h = or_right (test (record { client = id.client; step = id.step; seen = seen })) (list_any test rest) h
more_any test id (word.Taken seen before) rest h = h
more_any test id (word.Ended code) rest h = h
more_any test id (word.Timed reading) rest h = h

abbrev pub is_trial : ℕ → ℕ → WaitingTask → Bool
is_trial client step next = is_at client step next.id.client next.id.step

any_by : (tasks : TaskTable) (first : WaitingTask) (more : List WaitingTask) (client step seen deadline : ℕ) (b : Bool) → is_trial client step first ≡ b
    → word_of tasks client step ≡ word.Queued seen deadline → (list_any (is_trial client step) more ≡ true → list_any (is_task client step) (entries_in tasks more) ≡ true)
    → (b || list_any (is_trial client step) more) ≡ true → list_any (is_task client step) (entries_in tasks (first ∷ more)) ≡ true
any_by tasks first more client step seen deadline true e w rest h =
    one_any (is_task client step) first.id (word_at tasks first.id) (entries_in tasks more) seen deadline
    (at_back (λ (x y : ℕ). word_of tasks x y ≡ word.Queued seen deadline) client step first.id.client first.id.step e w) e
any_by tasks first more client step seen deadline false e w rest h = more_any (is_task client step) first.id (word_at tasks first.id) (entries_in tasks more) (rest h)

pub got_any : (tasks : TaskTable) (waiting : List WaitingTask) (client step seen deadline : ℕ) → word_of tasks client step ≡ word.Queued seen deadline
    → list_any (is_trial client step) waiting ≡ true → list_any (is_task client step) (entries_in tasks waiting) ≡ true
got_any tasks [] client step seen deadline w h = absurd (true≢false (sym h))
got_any tasks (first ∷ more) client step seen deadline w h =
    any_by tasks first more client step seen deadline (is_trial client step first) refl w (got_any tasks more client step seen deadline w) h

-- ---- the words afterwards

-- a word that doesn't wait stays
pub gathered_kept : (batch : ℕ) (waiting : List WaitingTask) (all : Gathered) (client step : ℕ) → is_queued (word_of all.tasks client step) ≡ false
    → word_of (gathered batch waiting all).tasks client step ≡ word_of all.tasks client step
gathered_kept batch [] all client step none = refl
gathered_kept batch (first ∷ more) all client step none =
    let one = tried_kept batch all.tasks first.id.client first.id.step (word_at all.tasks first.id) refl client step none in
    gathered_kept batch more (gathered_with batch first.id (acquired_by (word_at all.tasks first.id)) all) client step (ap is_queued one ∙ none) ∙ one

-- so does one that isn't got
not_got : (id : TaskId) (w : Word) (rest : List Entry) (client step : ℕ) → list_any (is_task client step) (entry_by id (acquired_by w) ++ rest) ≡ false
    → (is_queued w ≡ true → is_at client step id.client id.step ≡ false) × (list_any (is_task client step) rest ≡ false)
not_got id word.Vacant rest client step h = ((λ e. absurd (true≢false (sym e))), h)
not_got id (word.Queued seen deadline) rest client step h =
    let both = neither (is_at client step id.client id.step) (list_any (is_task client step) rest) h in ((λ e. both.0), both.1)
not_got id (word.Taken seen before) rest client step h = ((λ e. absurd (true≢false (sym e))), h)
not_got id (word.Ended code) rest client step h = ((λ e. absurd (true≢false (sym e))), h)
not_got id (word.Timed reading) rest client step h = ((λ e. absurd (true≢false (sym e))), h)

tried_not_got : (batch : ℕ) (tasks : TaskTable) (c s : ℕ) (w : Word) → word_of tasks c s ≡ w → (client step : ℕ) → (is_queued w ≡ true → is_at client step c s ≡ false)
    → word_of (tried batch c s w tasks) client step ≡ word_of tasks client step
tried_not_got batch tasks c s word.Vacant e client step apart = refl
tried_not_got batch tasks c s (word.Queued seen deadline) e client step apart =
    tried_other batch tasks c s (word.Queued seen deadline) e client step (at_turned client step c s (apart refl))
tried_not_got batch tasks c s (word.Taken seen before) e client step apart = refl
tried_not_got batch tasks c s (word.Ended code) e client step apart = refl
tried_not_got batch tasks c s (word.Timed reading) e client step apart = refl

pub gathered_other : (batch : ℕ) (waiting : List WaitingTask) (all : Gathered) (client step : ℕ) → AreOthers waiting
    → list_any (is_task client step) (entries_in all.tasks waiting) ≡ false → word_of (gathered batch waiting all).tasks client step ≡ word_of all.tasks client step
gathered_other batch [] all client step others none = refl
gathered_other batch (first ∷ more) all client step others none =
    let w = word_at all.tasks first.id in
    let both = not_got first.id w (entries_in all.tasks more) client step none in
    gathered_other batch more (gathered_with batch first.id (acquired_by w) all) client step others.1
    (ap (λ (rest : List Entry). list_any (is_task client step) rest) (entries_again batch all.tasks first more others.0) ∙ both.1)
    ∙ tried_not_got batch all.tasks first.id.client first.id.step w refl client step both.0

-- those that are got are the batch's
abbrev IsBatchs : ℕ → TaskTable → Entry → Type 0
IsBatchs batch tasks entry = word_of tasks entry.client entry.step ≡ word.Taken entry.seen batch

pub gathered_taken : (batch : ℕ) (waiting : List WaitingTask) (all : Gathered) → AreOthers waiting
    → AllByRecursion (IsBatchs batch (gathered batch waiting all).tasks) (entries_in all.tasks waiting)
gathered_taken batch [] all others = tt
gathered_taken batch (first ∷ more) all others =
    let w = word_at all.tasks first.id in
    let next = gathered_with batch first.id (acquired_by w) all in
    let after = (gathered batch more next).tasks in
    got_one (IsBatchs batch after) first.id w (entries_in all.tasks more)
    (λ seen deadline e.
    let within = within_from all.tasks first.id.client first.id.step (ap is_vacant e) in
    let has : word_of next.tasks first.id.client first.id.step ≡ word.Taken seen batch =
    subst (λ (v : Word). word_of (tried batch first.id.client first.id.step v all.tasks) first.id.client first.id.step ≡ word.Taken seen batch) (sym e)
    (word_same all.tasks first.id.client first.id.step (word.Taken seen batch) within) in
    gathered_kept batch more next first.id.client first.id.step (ap is_queued has) ∙ has)
    (subst (AllByRecursion (IsBatchs batch after)) (entries_again batch all.tasks first more others.0) (gathered_taken batch more next others.1))

-- ---- each may be tried

still_waits : (batch : ℕ) (tasks : TaskTable) (first : WaitingTask) (more : List WaitingTask) → AllByRecursion (IsOther first) more
    → AllByRecursion (λ v. may_wait (word_of tasks v.id.client v.id.step) ≡ true) more
    → AllByRecursion (λ v. may_wait (word_of (tried batch first.id.client first.id.step (word_at tasks first.id) tasks) v.id.client v.id.step) ≡ true) more
still_waits batch tasks first [] others all = tt
still_waits batch tasks first (next ∷ more) others all = (
  ap may_wait (tried_other batch tasks first.id.client first.id.step (word_at tasks first.id) refl next.id.client next.id.step others.0) ∙ all.0,
  still_waits batch tasks first more others.1 all.1,
)

waits_open : (w : Word) → may_wait w ≡ true → is_open w ≡ true
waits_open word.Vacant h = absurd (true≢false (sym h))
waits_open (word.Queued seen deadline) h = refl
waits_open (word.Taken seen before) h = absurd (true≢false (sym h))
waits_open (word.Ended code) h = absurd (true≢false (sym h))
waits_open (word.Timed reading) h = refl

pub waits_there : (w : Word) → may_wait w ≡ true → is_vacant w ≡ false
waits_there word.Vacant h = absurd (true≢false (sym h))
waits_there (word.Queued seen deadline) h = refl
waits_there (word.Taken seen before) h = refl
waits_there (word.Ended code) h = refl
waits_there (word.Timed reading) h = refl

pub can_gather : (batch : ℕ) (waiting : List WaitingTask) (tasks : TaskTable) → AreOthers waiting → AllByRecursion (λ v. may_wait (word_of tasks v.id.client v.id.step) ≡ true) waiting
    → CanGather batch waiting tasks
can_gather batch [] tasks others all = tt
can_gather batch (first ∷ more) tasks others all = (
  record {
    within = within_from tasks first.id.client first.id.step (waits_there (word_at tasks first.id) all.0);
    free = waits_open (word_at tasks first.id) all.0;
  },
  can_gather batch more (tried batch first.id.client first.id.step (word_at tasks first.id) tasks) others.1 (still_waits batch tasks first more others.0 all.1),
)
