-- What waits may join the book: what is taken from a queue, as entries of a batch, and what is left, behind them.
use Rattle.std.specs.Prelude.{◌≡◌, ℕ, ◌⊎◌, Bool, true, false, not, cond, ◌||◌, ◌==◌, List, [], ◌∷◌, ◌++◌, filter, Option, Some, None, slice_get, bytes_eq, refl}
use Rattle.std.proofs.Common.{sym, ◌∙◌, ap, subst, inl, inr}
use Rattle.std.proofs.Math.Bool.{true≢false}
use Rattle.std.specs.Cmp.{unsigned_Decides}
use Rattle.std.specs.Cmp.Lexicographic.{bytes_decides}
use Rattle.std.specs.List.{AllByRecursion, list_any}
use Rattle.scripts.specs.declared.queues.QueueSpec.{QueueSpec}
use Rattle.scripts.specs.declared.whole_script.Script.{Script}
use Rattle.scripts.specs.declared.task_id.TaskId.{TaskId}
use Rattle.scripts.specs.declared.steps.Step.{Step}
use Rattle.scripts.specs.declared.steps.Step.TheVariants.{Submit, Await, Watch, Next, Read, Sleep, Close}
use Rattle.scripts.specs.Scripts.{IsScript}
use Rattle.session_law.specs.declared.batches.Entry.{Entry}
use Rattle.session_law.specs.Histories.{AreApart, IsApart, IsOwn, Queued, is_named, is_own_step, step_at}
use Rattle.task_words.specs.declared.words.Word.{Word}
use Rattle.task_words.specs.declared.words.Word.TheVariants as word
use Rattle.task_words.specs.Words.{TaskTable, acquired_by, word_at}
use Rattle.master_intake.specs.declared.entries.Waiting.{Waiting}
use Rattle.master_intake.specs.Waitings.{entries_of, is_in, left_by, taken_from}
use Rattle.master_run.specs.Books.{placed_in}
use Rattle.master_run.specs.Servings.{entry_by, has_some_in}
use Rattle.master_run.specs.SoFar.{AreApartAmong, IsWaiting, is_entry_of, is_submit_to, name_if, queued_at}
use Rattle.master_run.proofs.Alls.{all_both, all_by, all_filter, all_pass}
use Rattle.master_run.proofs.Gathering.{AreOthers, IsOther, entries_in, is_trial}
use Rattle.master_run.proofs.Keeping.{names_apart, or_left, or_right}
use Rattle.master_run.proofs.Wordwise.{at_turned}

-- ---- what is taken from a queue

abbrev pub IsTaken : Script → List ℕ → ℕ → Waiting → Type 0
IsTaken script positions number w = IsWaiting script positions w × (is_in number w ≡ true)

pub taken_all : (script : Script) (positions : List ℕ) (number : ℕ) (all : List Waiting) → AllByRecursion (IsWaiting script positions) all
    → AllByRecursion (IsTaken script positions number) (taken_from number all)
taken_all script positions number all waiting =
    all_both (IsWaiting script positions) (λ w. is_in number w ≡ true) (taken_from number all)
    (all_filter (IsWaiting script positions) (is_in number) all waiting) (all_pass (is_in number) all)

queue_of : (script : Script) (positions : List ℕ) (number : ℕ) (w : Waiting) (all : List Waiting) (b : Bool) → is_in number w ≡ b → IsWaiting script positions w
    → (b || has_some_in number all) ≡ true → (has_some_in number all ≡ true → (queue : QueueSpec) × (slice_get script.queues number ≡ Some queue))
    → (queue : QueueSpec) × (slice_get script.queues number ≡ Some queue)
queue_of script positions number w all true e is h rest = (is.queue, ap (slice_get script.queues) (sym ((unsigned_Decides w.queue number).0 e)) ∙ is.of_queue)
queue_of script positions number w all false e is h rest = rest h

-- the queue in which something waits
pub served_queue : (script : Script) (positions : List ℕ) (number : ℕ) (all : List Waiting) → AllByRecursion (IsWaiting script positions) all → has_some_in number all ≡ true
    → (queue : QueueSpec) × (slice_get script.queues number ≡ Some queue)
served_queue script positions number [] waiting h = absurd (true≢false (sym h))
served_queue script positions number (w ∷ all) waiting h = queue_of script positions number w all (is_in number w) refl waiting.0 h (served_queue script positions number all waiting.1)

-- with the name of its queue
placed_named : (queues : List QueueSpec) (number : ℕ) (queue : QueueSpec) (w : Waiting) → slice_get queues number ≡ Some queue → is_in number w ≡ true
    → queued_at queues w ≡ record { queue = queue.name; entry = record { client = w.entry.id.client; step = w.entry.id.step; seen = 0 } }
placed_named queues number queue w e h =
    let same = (unsigned_Decides w.queue number).0 h in
    λ i. record { queue = name_if ((ap (slice_get queues) same ∙ e) i); entry = record { client = w.entry.id.client; step = w.entry.id.step; seen = 0 } }

-- ---- the entries of a batch

-- what is said of an entry whatever it has seen
abbrev pub IsBlind : (Queued → Type 0) → Type 0
IsBlind P = (name : List ℕ) (client step seen : ℕ) → P (record { queue = name; entry = record { client = client; step = step; seen = 0 } }) → P (record { queue = name; entry = record { client = client; step = step; seen = seen } })

placed_one : (P : Queued → Type 0) (name : List ℕ) (id : TaskId) (w : Word) (rest : List Entry) → ((seen : ℕ) → P (record { queue = name; entry = record { client = id.client; step = id.step; seen = seen } }))
    → AllByRecursion P (placed_in name rest) → AllByRecursion P (placed_in name (entry_by id (acquired_by w) ++ rest))
placed_one P name id word.Vacant rest f all = all
placed_one P name id (word.Queued seen deadline) rest f all = (f seen, all)
placed_one P name id (word.Taken seen batch) rest f all = all
placed_one P name id (word.Ended code) rest f all = all
placed_one P name id (word.Timed reading) rest f all = all

pub placed_got : (script : Script) (positions : List ℕ) (number : ℕ) (queue : QueueSpec) (tasks : TaskTable) (P : Queued → Type 0) (all : List Waiting) → slice_get script.queues number ≡ Some queue
    → IsBlind P → AllByRecursion (IsTaken script positions number) all → AllByRecursion (λ w. P (queued_at script.queues w)) all
    → AllByRecursion P (placed_in queue.name (entries_in tasks (entries_of all)))
placed_got script positions number queue tasks P [] e blind taken h = tt
placed_got script positions number queue tasks P (w ∷ all) e blind taken h =
    placed_one P queue.name w.entry.id (word_at tasks w.entry.id) (entries_in tasks (entries_of all))
    (λ seen. blind queue.name w.entry.id.client w.entry.id.step seen (subst P (placed_named script.queues number queue w e taken.0.1) h.0))
    (placed_got script positions number queue tasks P all e blind taken.1 h.1)

apart_one : (name : List ℕ) (id : TaskId) (w : Word) (rest : List Entry)
    → ((seen : ℕ) → AllByRecursion (IsApart (record { queue = name; entry = record { client = id.client; step = id.step; seen = seen } })) (placed_in name rest))
    → AreApart (placed_in name rest) → AreApart (placed_in name (entry_by id (acquired_by w) ++ rest))
apart_one name id word.Vacant rest f apart = apart
apart_one name id (word.Queued seen deadline) rest f apart = (f seen, apart)
apart_one name id (word.Taken seen batch) rest f apart = apart
apart_one name id (word.Ended code) rest f apart = apart
apart_one name id (word.Timed reading) rest f apart = apart

pub got_apart : (script : Script) (positions : List ℕ) (number : ℕ) (queue : QueueSpec) (tasks : TaskTable) (all : List Waiting) → slice_get script.queues number ≡ Some queue
    → AllByRecursion (IsTaken script positions number) all → AreApartAmong script.queues all → AreApart (placed_in queue.name (entries_in tasks (entries_of all)))
got_apart script positions number queue tasks [] e taken among = tt
got_apart script positions number queue tasks (w ∷ all) e taken among =
    apart_one queue.name w.entry.id (word_at tasks w.entry.id) (entries_in tasks (entries_of all))
    (λ seen.
    let mine : Queued = record { queue = queue.name; entry = record { client = w.entry.id.client; step = w.entry.id.step; seen = seen } } in
    placed_got script positions number queue tasks (IsApart mine) all e (λ name client step m h. record { other = h.other; rises = h.rises }) taken.1
    (all_by (λ v. IsApart (record { queue = queue.name; entry = record { client = w.entry.id.client; step = w.entry.id.step; seen = 0 } }) (queued_at script.queues v)) (λ v. IsApart mine (queued_at script.queues v))
    (λ v h. record { other = h.other; rises = h.rises }) all
    (subst (λ p. AllByRecursion (λ v. IsApart p (queued_at script.queues v)) all) (placed_named script.queues number queue w e taken.0.1) among.0)))
    (got_apart script positions number queue tasks all e taken.1 among.1)

-- those that are tried are other tasks each
other_each : (queues : List QueueSpec) (w : Waiting) (all : List Waiting) → AllByRecursion (λ v. IsApart (queued_at queues w) (queued_at queues v)) all
    → AllByRecursion (IsOther w.entry) (entries_of all)
other_each queues w [] h = tt
other_each queues w (v ∷ all) h = (at_turned v.entry.id.client v.entry.id.step w.entry.id.client w.entry.id.step h.0.other, other_each queues w all h.1)

pub others_among : (queues : List QueueSpec) (all : List Waiting) → AreApartAmong queues all → AreOthers (entries_of all)
others_among queues [] among = tt
others_among queues (w ∷ all) among = (other_each queues w all among.0, others_among queues all among.1)

-- ---- what is own

own_step : (script : Script) (name : List ℕ) (number : ℕ) (queue : QueueSpec) (found : Option Step) → slice_get script.queues number ≡ Some queue → queue.name ≡ name
    → is_submit_to number found ≡ true → is_own_step script name found ≡ true
own_step script name number queue None e named h = absurd (true≢false (sym h))
own_step script name number queue (Some (Submit at task timeout ack)) e named h =
    let same = (unsigned_Decides at number).0 h in
    ap (is_named name) (ap (slice_get script.queues) same ∙ e) ∙ (bytes_decides queue.name name).1 named
own_step script name number queue (Some (Await _ _)) e named h = absurd (true≢false (sym h))
own_step script name number queue (Some (Watch _ _ _ _)) e named h = absurd (true≢false (sym h))
own_step script name number queue (Some (Next _ _ _ _)) e named h = absurd (true≢false (sym h))
own_step script name number queue (Some (Read _ _)) e named h = absurd (true≢false (sym h))
own_step script name number queue (Some (Sleep _)) e named h = absurd (true≢false (sym h))
own_step script name number queue (Some Close) e named h = absurd (true≢false (sym h))

pub waiting_own : (script : Script) (positions : List ℕ) (w : Waiting) → IsWaiting script positions w → IsOwn script (queued_at script.queues w)
waiting_own script positions w h =
    own_step script (queued_at script.queues w).queue w.queue h.queue (step_at script w.entry.id.client w.entry.id.step) h.of_queue (sym (ap name_if h.of_queue)) h.own

-- ---- apart

among_keep : (queues : List QueueSpec) (b : Bool) (w : Waiting) (all : List Waiting) → AllByRecursion (λ v. IsApart (queued_at queues w) (queued_at queues v)) all
    → AreApartAmong queues all → AreApartAmong queues (cond b (w ∷ all) all)
among_keep queues true w all apart among = (apart, among)
among_keep queues false w all apart among = among

pub among_filter : (queues : List QueueSpec) (p : Waiting → Bool) (all : List Waiting) → AreApartAmong queues all → AreApartAmong queues (filter p all)
among_filter queues p [] among = tt
among_filter queues p (w ∷ all) among =
    among_keep queues (p w) w (filter p all) (all_filter (λ v. IsApart (queued_at queues w) (queued_at queues v)) p all among.0) (among_filter queues p all among.1)

-- what waits in one queue may also come before what waits in another
turned : (script : Script) (positions : List ℕ) (number : ℕ) (w t : Waiting) → IsScript script → IsWaiting script positions w → is_in number w ≡ false
    → IsTaken script positions number t → IsApart (queued_at script.queues w) (queued_at script.queues t) → IsApart (queued_at script.queues t) (queued_at script.queues w)
turned script positions number w t valid waits elsewhere taken apart = record {
  other = at_turned t.entry.id.client t.entry.id.step w.entry.id.client w.entry.id.step apart.other;
  rises = λ q same.
      let named : bytes_eq taken.0.queue.name waits.queue.name ≡ true = (λ i. bytes_eq (name_if (sym taken.0.of_queue i)) (name_if (sym waits.of_queue i))) ∙ q in
      let one = names_apart script.queues t.queue w.queue taken.0.queue waits.queue valid.queues_distinct taken.0.of_queue waits.of_queue named in
      absurd (true≢false (sym (ap (λ n. n == number) (sym one) ∙ taken.1) ∙ elsewhere));
}

abbrev pub AreCrossed : List QueueSpec → List Waiting → List Waiting → Type 0
AreCrossed queues taken left = AllByRecursion (λ l. AllByRecursion (λ t. IsApart (queued_at queues t) (queued_at queues l)) taken) left

crossed_more : (script : Script) (positions : List ℕ) (number : ℕ) (w : Waiting) (taken left : List Waiting) (b : Bool) → IsScript script → is_in number w ≡ b
    → IsWaiting script positions w → AllByRecursion (IsTaken script positions number) taken
    → AllByRecursion (λ v. IsApart (queued_at script.queues w) (queued_at script.queues v)) taken → AllByRecursion (λ v. IsApart (queued_at script.queues w) (queued_at script.queues v)) left
    → AreCrossed script.queues taken left → AreCrossed script.queues (cond b (w ∷ taken) taken) (cond (not b) (w ∷ left) left)
crossed_more script positions number w taken left true valid e waits are_taken from_taken from_left crossed =
    all_both (λ l. IsApart (queued_at script.queues w) (queued_at script.queues l)) (λ l. AllByRecursion (λ t. IsApart (queued_at script.queues t) (queued_at script.queues l)) taken) left from_left crossed
crossed_more script positions number w taken left false valid e waits are_taken from_taken from_left crossed = (
  all_by (λ t. IsTaken script positions number t × IsApart (queued_at script.queues w) (queued_at script.queues t)) (λ t. IsApart (queued_at script.queues t) (queued_at script.queues w))
      (λ t h. turned script positions number w t valid waits e h.0 h.1) taken
      (all_both (IsTaken script positions number) (λ t. IsApart (queued_at script.queues w) (queued_at script.queues t)) taken are_taken from_taken),
  crossed,
)

pub crossed : (script : Script) (positions : List ℕ) (number : ℕ) (all : List Waiting) → IsScript script → AllByRecursion (IsWaiting script positions) all
    → AreApartAmong script.queues all → AreCrossed script.queues (taken_from number all) (left_by number all)
crossed script positions number [] valid waiting among = tt
crossed script positions number (w ∷ all) valid waiting among =
    let from : Waiting → Type 0 = λ v. IsApart (queued_at script.queues w) (queued_at script.queues v) in
    crossed_more script positions number w (taken_from number all) (left_by number all) (is_in number w) valid refl waiting.0
    (taken_all script positions number all waiting.1) (all_filter from (is_in number) all among.0) (all_filter from (λ v. not (is_in number v)) all among.0)
    (crossed script positions number all valid waiting.1 among.1)

-- ---- in which part an entry stands

more_taken : (p : Waiting → Bool) (w : Waiting) (taken left : List Waiting) → (list_any p taken ≡ true) ⊎ (list_any p left ≡ true)
    → (list_any p (w ∷ taken) ≡ true) ⊎ (list_any p left ≡ true)
more_taken p w taken left (inl h) = inl (or_right (p w) (list_any p taken) h)
more_taken p w taken left (inr h) = inr h

more_left : (p : Waiting → Bool) (w : Waiting) (taken left : List Waiting) → (list_any p taken ≡ true) ⊎ (list_any p left ≡ true)
    → (list_any p taken ≡ true) ⊎ (list_any p (w ∷ left) ≡ true)
more_left p w taken left (inl h) = inl h
more_left p w taken left (inr h) = inr (or_right (p w) (list_any p left) h)

parted_by : (p : Waiting → Bool) (number : ℕ) (w : Waiting) (all : List Waiting) (b c : Bool) → is_in number w ≡ b → p w ≡ c → (c || list_any p all) ≡ true
    → (list_any p all ≡ true → (list_any p (taken_from number all) ≡ true) ⊎ (list_any p (left_by number all) ≡ true))
    → (list_any p (cond b (w ∷ taken_from number all) (taken_from number all)) ≡ true) ⊎ (list_any p (cond (not b) (w ∷ left_by number all) (left_by number all)) ≡ true)
parted_by p number w all true true e f h rest = inl (or_left (p w) (list_any p (taken_from number all)) f)
parted_by p number w all false true e f h rest = inr (or_left (p w) (list_any p (left_by number all)) f)
parted_by p number w all true false e f h rest = more_taken p w (taken_from number all) (left_by number all) (rest h)
parted_by p number w all false false e f h rest = more_left p w (taken_from number all) (left_by number all) (rest h)

pub any_parted : (p : Waiting → Bool) (number : ℕ) (all : List Waiting) → list_any p all ≡ true → (list_any p (taken_from number all) ≡ true) ⊎ (list_any p (left_by number all) ≡ true)
any_parted p number [] h = absurd (true≢false (sym h))
any_parted p number (w ∷ all) h = parted_by p number w all (is_in number w) (p w) refl refl h (any_parted p number all)

-- an entry of what waits is one that is tried
any_same : (a b c : Bool) → (a || b) ≡ true → (b ≡ true → c ≡ true) → (a || c) ≡ true
any_same true b c h rest = refl
any_same false b c h rest = rest h

pub any_trial : (client step : ℕ) (all : List Waiting) → list_any (is_entry_of client step) all ≡ true → list_any (is_trial client step) (entries_of all) ≡ true
any_trial client step [] h = h
any_trial client step (w ∷ all) h = any_same (is_entry_of client step w) (list_any (is_entry_of client step) all) (list_any (is_trial client step) (entries_of all)) h (any_trial client step all)
