-- The words after the tasks of a batch ended: each tells how its task ended, by the first entry of it, and all others
-- are as they were.
use Rattle.std.specs.Prelude.{◌≡◌, ℕ, ◌<◌, Bool, true, false, cond, ◌||◌, List, [], ◌∷◌, length, Option, Some, find, refl}
use Rattle.std.proofs.Common.{sym, ◌∙◌, ap, arith}
use Rattle.std.proofs.Math.Bool.{true≢false}
use Rattle.std.specs.List.{AllByRecursion, list_any, zip}
use Rattle.std.specs.Option.{option_map}
use Rattle.session_law.specs.declared.batches.Entry.{Entry}
use Rattle.session_law.specs.declared.task_ends.TaskEnd.{TaskEnd}
use Rattle.session_law.specs.Endings.{is_batch_end}
use Rattle.session_law.specs.Outcomes.{is_task}
use Rattle.task_words.specs.declared.words.Word.{Word}
use Rattle.task_words.specs.declared.words.Word.TheVariants as word
use Rattle.task_words.specs.Words.{TaskTable, is_with, with_word}
use Rattle.master_run.specs.Courses.{id_at, word_of}
use Rattle.master_run.specs.Endings.{code_of}
use Rattle.master_run.specs.Servings.{CanEnd, ended_all}
use Rattle.master_run.specs.SoFar.{is_vacant}
use Rattle.master_run.proofs.Keeping.{neither, same_number}
use Rattle.master_run.proofs.Wordwise.{at_same, at_turned, within_from, word_other, word_same}

-- ---- entries of a batch

abbrev pub IsNoMore : Entry → Entry → Type 0
IsNoMore a b = is_task a.client a.step b ≡ false

-- no task stands twice
abbrev pub AreOnce : List Entry → Type 0
AreOnce [] = Unit {0}
AreOnce (first ∷ more) = AllByRecursion (IsNoMore first) more × AreOnce more

-- the batch has each
abbrev pub AreBatchs : ℕ → TaskTable → List Entry → Type 0
AreBatchs batch tasks entries = AllByRecursion (λ e. word_of tasks e.client e.step ≡ word.Taken e.seen batch) entries

-- the words after one task ended
abbrev after_one : ℕ → Entry → TaskEnd → TaskTable → TaskTable
after_one batch entry end tasks = with_word (id_at entry.client entry.step) (word.Ended (code_of batch end)) tasks

still_batchs : (batch : ℕ) (tasks : TaskTable) (first : Entry) (end : TaskEnd) (more : List Entry) → word_of tasks first.client first.step ≡ word.Taken first.seen batch
    → AllByRecursion (IsNoMore first) more → AreBatchs batch tasks more → AreBatchs batch (after_one batch first end tasks) more
still_batchs batch tasks first end [] has once all = tt
still_batchs batch tasks first end (next ∷ more) has once all = (
  word_other tasks first.client first.step (word.Ended (code_of batch end)) next.client next.step (within_from tasks first.client first.step (ap is_vacant has)) once.0 ∙ all.0,
  still_batchs batch tasks first end more has once.1 all.1,
)

taken_is : (batch seen : ℕ) (w : Word) → w ≡ word.Taken seen batch → is_with batch w ≡ true
taken_is batch seen w e = ap (is_with batch) e ∙ same_number batch

pub can_end : (batch : ℕ) (entries : List Entry) (ends : List TaskEnd) (tasks : TaskTable) → 0 < batch → AreOnce entries → AreBatchs batch tasks entries
    → AllByRecursion (λ e. is_batch_end e ≡ true) ends → CanEnd batch entries ends tasks
can_end batch [] ends tasks some once all so = tt
can_end batch (first ∷ more) [] tasks some once all so = tt
can_end batch (first ∷ more) (end ∷ ends) tasks some once all so = (
  record {
    within = within_from tasks first.client first.step (ap is_vacant all.0);
    taken = taken_is batch first.seen (word_of tasks first.client first.step) all.0;
    so = so.0;
    number = some;
  },
  can_end batch more ends (after_one batch first end tasks) some once.1 (still_batchs batch tasks first end more all.0 once.0 all.1) so.1,
)

-- ---- afterwards

pub ended_other : (batch : ℕ) (entries : List Entry) (ends : List TaskEnd) (tasks : TaskTable) (client step : ℕ) → AreOnce entries → AreBatchs batch tasks entries
    → list_any (is_task client step) entries ≡ false → word_of (ended_all batch entries ends tasks) client step ≡ word_of tasks client step
ended_other batch [] ends tasks client step once all none = refl
ended_other batch (first ∷ more) [] tasks client step once all none = refl
ended_other batch (first ∷ more) (end ∷ ends) tasks client step once all none =
    let both = neither (is_task client step first) (list_any (is_task client step) more) none in
    ended_other batch more ends (after_one batch first end tasks) client step once.1 (still_batchs batch tasks first end more all.0 once.0 all.1) both.1
    ∙ word_other tasks first.client first.step (word.Ended (code_of batch end)) client step (within_from tasks first.client first.step (ap is_vacant all.0))
    (at_turned client step first.client first.step both.0)

-- the end of a task at its place
abbrev pub end_among : ℕ → ℕ → List Entry → List TaskEnd → Option TaskEnd
end_among client step entries ends = option_map (λ p. p.1) (find (λ p. is_task client step p.0) (zip entries ends))

pub record IsAmongEnds (batch : ℕ) (entries : List Entry) (ends : List TaskEnd) (client step : ℕ) (w : Word) : Type 0 where
  pub end : TaskEnd
  pub found : end_among client step entries ends ≡ Some end
  pub so : is_batch_end end ≡ true
  pub told : w ≡ word.Ended (code_of batch end)

none_of : (client step : ℕ) (first : Entry) (more : List Entry) → is_task client step first ≡ true → AllByRecursion (IsNoMore first) more → list_any (is_task client step) more ≡ false
none_of client step first [] same once = refl
none_of client step first (next ∷ more) same once =
    let other = at_same (λ (x y : ℕ). is_task x y next ≡ false) client step first.client first.step same once.0 in
    λ i. other i || none_of client step first more same once.1 i

found_first : (b : Bool) (entry : Entry) (end : TaskEnd) (rest : Option (Entry × TaskEnd)) → b ≡ true → option_map (λ p. p.1) (cond b (Some (entry, end)) rest) ≡ Some end
found_first true entry end rest e = refl
found_first false entry end rest e = absurd (true≢false (sym e))

found_later : (b : Bool) (entry : Entry) (end : TaskEnd) (rest : Option (Entry × TaskEnd)) → b ≡ false → option_map (λ p. p.1) (cond b (Some (entry, end)) rest) ≡ option_map (λ p. p.1) rest
found_later true entry end rest e = absurd (true≢false e)
found_later false entry end rest e = refl

ended_by : (batch : ℕ) (first : Entry) (more : List Entry) (end : TaskEnd) (ends : List TaskEnd) (tasks : TaskTable) (client step : ℕ) (b : Bool) → is_task client step first ≡ b
    → AreOnce (first ∷ more) → AreBatchs batch tasks (first ∷ more) → is_batch_end end ≡ true
    → (list_any (is_task client step) more ≡ true → IsAmongEnds batch more ends client step (word_of (ended_all batch more ends (after_one batch first end tasks)) client step))
    → (b || list_any (is_task client step) more) ≡ true
    → IsAmongEnds batch (first ∷ more) (end ∷ ends) client step (word_of (ended_all batch more ends (after_one batch first end tasks)) client step)
ended_by batch first more end ends tasks client step true e once all so rest h =
    let within = within_from tasks first.client first.step (ap is_vacant all.0) in
    record {
      end = end;
      found = found_first (is_task client step first) first end (find (λ p. is_task client step p.0) (zip more ends)) e;
      so = so;
      told = ended_other batch more ends (after_one batch first end tasks) client step once.1 (still_batchs batch tasks first end more all.0 once.0 all.1) (none_of client step first more e once.0)
          ∙ at_same (λ (x y : ℕ). word_of (after_one batch first end tasks) x y ≡ word.Ended (code_of batch end)) client step first.client first.step e
          (word_same tasks first.client first.step (word.Ended (code_of batch end)) within);
    }
ended_by batch first more end ends tasks client step false e once all so rest h =
    let later = rest h in
    record {
      end = later.end;
      found = found_later (is_task client step first) first end (find (λ p. is_task client step p.0) (zip more ends)) e ∙ later.found;
      so = later.so;
      told = later.told;
    }

pub ended_among : (batch : ℕ) (entries : List Entry) (ends : List TaskEnd) (tasks : TaskTable) (client step : ℕ) → length ends ≡ length entries → AreOnce entries → AreBatchs batch tasks entries
    → AllByRecursion (λ e. is_batch_end e ≡ true) ends → list_any (is_task client step) entries ≡ true
    → IsAmongEnds batch entries ends client step (word_of (ended_all batch entries ends tasks) client step)
ended_among batch [] ends tasks client step count once all so h = absurd (true≢false (sym h))
ended_among batch (first ∷ more) [] tasks client step count once all so h = absurd (omega arith)
ended_among batch (first ∷ more) (end ∷ ends) tasks client step count once all so h =
    ended_by batch first more end ends tasks client step (is_task client step first) refl once all so.0
    (ended_among batch more ends (after_one batch first end tasks) client step (omega arith) once.1 (still_batchs batch tasks first end more all.0 once.0 all.1) so.1) h
