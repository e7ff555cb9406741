-- The end of a task in a batch is told as no end by closing.
use Rattle.std.specs.Prelude.{◌≡◌, ℕ, zero, suc, ◌<◌, true, List, [], ◌∷◌, drop, length, slice_index_or}
use Rattle.std.proofs.Common.{sym, ◌∙◌, ap, subst, arith}
use Rattle.std.proofs.Math.Bool.{true≢false}
use Rattle.session_law.specs.declared.batches.Entry.{Entry}
use Rattle.session_law.specs.declared.task_ends.TaskEnd.{TaskEnd}
use Rattle.session_law.specs.declared.task_ends.TaskEnd.TheVariants.{BatchFailed, Closed, NotMaster, Ok, PublishFailed, Refused, Timeout, Unchanged}
use Rattle.session_law.specs.Endings.{is_batch_end}
use Rattle.task_words.specs.declared.end_codes.EndCode.{EndCode}
use Rattle.task_words.specs.declared.end_codes.Outcome.{Outcome}
use Rattle.task_words.specs.Words.{TaskTable}
use Rattle.master_run.specs.Endings.{code_of, outcome_by}
use Rattle.master_run.specs.Servings.{CanEnd, CanEndOne, ended_all}

never_closed : (end : TaskEnd) → is_batch_end end ≡ true → outcome_by end ≡ Outcome.Closed → ⊥
never_closed (Ok version) h e = cc
never_closed (Unchanged version) h e = cc
never_closed (Refused refusal) h e = cc
never_closed (BatchFailed position refusal) h e = cc
never_closed NotMaster h e = cc
never_closed PublishFailed h e = cc
never_closed (Timeout deadline reading) h e = true≢false (sym h)
never_closed (Closed client step) h e = true≢false (sym h)

pub not_closed : (batch : ℕ) (entry : Entry) (end : TaskEnd) (tasks : TaskTable) (code : EndCode) → CanEndOne batch entry end tasks → code ≡ code_of batch end
    → (code.outcome ≡ Outcome.Closed → code.batch ≡ 0) × (code.batch ≡ 0 → code.outcome ≡ Outcome.Closed)
not_closed batch entry end tasks code can e = (
  (λ closed. absurd (never_closed end can.so (sym (ap (λ (c : EndCode). c.outcome) e) ∙ closed))),
  (λ none. absurd (let same = ap (λ (c : EndCode). c.batch) e in let some = can.number in omega arith)),
)

pub not_stopped : (batch : ℕ) (entry : Entry) (end : TaskEnd) (tasks : TaskTable) (code : EndCode) → CanEndOne batch entry end tasks → code ≡ code_of batch end
    → code.batch ≡ 0 → tasks.stopped ≡ true
not_stopped batch entry end tasks code can e none = absurd (let same = ap (λ (c : EndCode). c.batch) e in let some = can.number in omega arith)

-- where no end is left, nobody is told
pub none_ended : (batch : ℕ) (entries : List Entry) (ends : List TaskEnd) (tasks made : TaskTable) → length ends ≡ 0 → ended_all batch entries ends tasks ≡ made → tasks ≡ made
none_ended batch [] ends tasks made none e = e
none_ended batch (entry ∷ entries) [] tasks made none e = e
none_ended batch (entry ∷ entries) (end ∷ ends) tasks made none e = absurd (omega arith)

-- the first of those that are left
pub first_can : (batch : ℕ) (entries : List Entry) (place : ℕ) (none : Entry) (ends : List TaskEnd) (end : TaskEnd) (more : List TaskEnd) (tasks : TaskTable) → place < length entries → ends ≡ end ∷ more
    → CanEnd batch (drop place entries) ends tasks → CanEndOne batch (slice_index_or entries place none) end tasks
first_can batch [] place none ends end more tasks less e can = absurd (omega arith)
first_can batch (entry ∷ entries) zero none ends end more tasks less e can = (subst (λ (l : List TaskEnd). CanEnd batch (entry ∷ entries) l tasks) e can).0
first_can batch (entry ∷ entries) (suc place) none ends end more tasks less e can = first_can batch entries place none ends end more tasks (omega arith) e can
