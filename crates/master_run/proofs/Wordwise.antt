-- The words of tasks, one by one: which are there, and what another word of a task leaves as it was.
use Rattle.std.specs.Prelude.{◌≡◌, ◌≢◌, ℕ, zero, suc, ◌<◌, Bool, true, false, ◌==◌, ◌&&◌, List, [], ◌∷◌, length, get_or, refl}
use Rattle.std.proofs.Common.{sym, ◌∙◌, ap, subst, arith}
use Rattle.std.proofs.Math.Bool.{true≢false}
use Rattle.std.specs.Cmp.{unsigned_Decides}
use Rattle.session_law.specs.ScriptSteps.{is_at}
use Rattle.task_words.specs.declared.words.Word.{Word}
use Rattle.task_words.specs.declared.words.Word.TheVariants as word
use Rattle.plain_data.specs.Cells.{IsInside, cell_at, row_of}
use Rattle.task_words.specs.Words.{IsWithin, TaskTable, with_word}
use Rattle.plain_data.proofs.Cells.{cell_at-with_cell_other, cell_at-with_cell_same}
use Rattle.master_run.specs.Courses.{id_at, word_of}
use Rattle.master_run.specs.SoFar.{is_vacant}
use Rattle.master_run.proofs.Keeping.{both_first, both_second, false_from, same_number}

-- ---- client and step

-- numbers that aren't those of a step are of another client, or of another step
pub other_step : (c s client step : ℕ) → is_at c s client step ≡ false → client ≡ c → step ≢ s
other_step c s client step apart same also =
    let yes : is_at c s client step ≡ true = λ i. (unsigned_Decides client c).1 same i && (unsigned_Decides step s).1 also i in
    true≢false (sym yes ∙ apart)

pub same_client : (c s client step : ℕ) → is_at c s client step ≡ true → client ≡ c
same_client c s client step h = (unsigned_Decides client c).0 (both_first (client == c) (step == s) h)

pub same_step : (c s client step : ℕ) → is_at c s client step ≡ true → step ≡ s
same_step c s client step h = (unsigned_Decides step s).0 (both_second (client == c) (step == s) h)

pub at_itself : (c s : ℕ) → is_at c s c s ≡ true
at_itself c s = λ i. same_number c i && same_number s i

-- what is said of one step is said of it under its other numbers
pub at_same : (P : ℕ → ℕ → Type 0) (c s client step : ℕ) → is_at c s client step ≡ true → P client step → P c s
at_same P c s client step h p = subst (λ (n : ℕ). P c n) (same_step c s client step h) (subst (λ (n : ℕ). P n step) (same_client c s client step h) p)

pub at_back : (P : ℕ → ℕ → Type 0) (c s client step : ℕ) → is_at c s client step ≡ true → P c s → P client step
at_back P c s client step h p = subst (λ (n : ℕ). P client n) (sym (same_step c s client step h)) (subst (λ (n : ℕ). P n s) (sym (same_client c s client step h)) p)

pub at_turned : (c s client step : ℕ) → is_at c s client step ≡ false → is_at client step c s ≡ false
at_turned c s client step apart = false_from (is_at client step c s) (λ e.
    true≢false (sym (at_same (λ (x y : ℕ). is_at c s x y ≡ true) client step c s e (at_itself c s)) ∙ apart))

-- ---- which words there are

beyond : {A : Type 0} (xs : List A) (i : ℕ) (d : A) → (get_or xs i d ≡ d → ⊥) → i < length xs
beyond [] i d other = absurd (other refl)
beyond (x ∷ xs) zero d other = omega arith
beyond (x ∷ xs) (suc i) d other = let rest = beyond xs i d other in omega arith

-- where a cell isn't empty, there is one
pub inside_from : {A : Type 0} (empty : A) (rows : List (List A)) (client step : ℕ) → (cell_at empty rows client step ≡ empty → ⊥) → IsInside rows client step
inside_from {A} empty rows client step other = record {
  row = beyond rows client [] (λ e. other (ap (λ (row : List A). get_or row step empty) e));
  cell = beyond (row_of rows client) step empty other;
}

not_vacant : (w : Word) → is_vacant w ≡ false → w ≡ word.Vacant → ⊥
not_vacant w some e = true≢false (sym (ap is_vacant e) ∙ some)

-- where a word isn't vacant, there is one
pub within_from : (tasks : TaskTable) (client step : ℕ) → is_vacant (word_of tasks client step) ≡ false → IsWithin tasks (id_at client step)
within_from tasks client step some =
    let in_rows = inside_from word.Vacant tasks.words client step (not_vacant (word_of tasks client step) some) in
    record { client = in_rows.row; step = in_rows.cell }

pub inside : (tasks : TaskTable) (client step : ℕ) → IsWithin tasks (id_at client step) → IsInside tasks.words client step
inside tasks client step within = record { row = within.client; cell = within.step }

-- ---- another word of a task

pub word_same : (tasks : TaskTable) (client step : ℕ) (w : Word) → IsWithin tasks (id_at client step) → word_of (with_word (id_at client step) w tasks) client step ≡ w
word_same tasks client step w within = cell_at-with_cell_same word.Vacant client step w tasks.words (inside tasks client step within)

pub word_other : (tasks : TaskTable) (c s : ℕ) (w : Word) (client step : ℕ) → IsWithin tasks (id_at c s) → is_at c s client step ≡ false
    → word_of (with_word (id_at c s) w tasks) client step ≡ word_of tasks client step
word_other tasks c s w client step within apart =
    cell_at-with_cell_other word.Vacant c s w tasks.words client step (inside tasks c s within) (other_step c s client step apart)

-- what holds of the word that is set, and of the word before at each other step, holds of each word afterwards
by_place : (P : ℕ → ℕ → Word → Type 0) (tasks : TaskTable) (c s : ℕ) (w : Word) → IsWithin tasks (id_at c s) → P c s w
    → (client step : ℕ) (b : Bool) → is_at c s client step ≡ b → (is_at c s client step ≡ false → P client step (word_of tasks client step))
    → P client step (word_of (with_word (id_at c s) w tasks) client step)
by_place P tasks c s w within set client step true e others =
    at_back (λ (x y : ℕ). P x y (word_of (with_word (id_at c s) w tasks) x y)) c s client step e (subst (P c s) (sym (word_same tasks c s w within)) set)
by_place P tasks c s w within set client step false e others = subst (P client step) (sym (word_other tasks c s w client step within e)) (others e)

pub word_by : (P : ℕ → ℕ → Word → Type 0) (tasks : TaskTable) (c s : ℕ) (w : Word) → IsWithin tasks (id_at c s) → P c s w
    → (client step : ℕ) → (is_at c s client step ≡ false → P client step (word_of tasks client step)) → P client step (word_of (with_word (id_at c s) w tasks) client step)
word_by P tasks c s w within set client step others = by_place P tasks c s w within set client step (is_at c s client step) refl others
