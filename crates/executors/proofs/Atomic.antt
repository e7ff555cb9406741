-- The batch that fails as a whole: to stop at the first refused task answers what the fold over all of them does.
use Rattle.std.specs.Prelude.{◌≡◌, ℕ, ◌+◌, ◌-◌, ◌^◌, ◌<◌, ◌≤◌, List, [], ◌∷◌, ◌++◌, Result, Ok, Err, IfOk, IsOkAnd, refl}
use Rattle.std.proofs.Common.{sym, ◌∙◌, ap, subst, arith}
use Rattle.std.specs.List.{AllByRecursion}
use Rattle.plain_data.specs.declared.memory.OutOfMemory.{OutOfMemory}
use Rattle.meta_state.specs.declared.cluster_state.ClusterState.{ClusterState}
use Rattle.meta_state.specs.States.{IsRoomy}
use Rattle.executors.specs.declared.folds.Ran.{Ran}
use Rattle.executors.specs.declared.contexts.Mark.{Mark}
use Rattle.executors.specs.declared.contexts.TaskContext.{TaskContext}
use Rattle.executors.specs.declared.contexts.Verdict.{Verdict}
use Rattle.executors.specs.declared.contexts.Verdict.TheVariants.{Success, Refused}
use Rattle.executors.specs.declared.executions.Executed.{Executed}
use Rattle.executors.specs.declared.executions.Executed.TheVariants.{Made, Failed}
use Rattle.executors.specs.declared.refusals.TaskRefusal.{TaskRefusal}
use Rattle.executors.specs.Contexts.{marked}
use Rattle.executors.specs.Executions.{folded, ran_none, ran_more, made_of, failed_or, failed_by, unless_refused}
use Rattle.executors.specs.Attempts.{attempted, attempted_by, CanGoOn}
use Rattle.executors.specs.TaskRuns.{task_outcome}
use Rattle.executors.proofs.Counts.{IsCountedResult, task_counted}
use Rattle.executors.proofs.Fold.{roomy_counted, low_rises}

-- ---- marks: the first refused one decides

abbrev pub AreSuccesses : List Mark → Type 0
AreSuccesses marks = AllByRecursion (λ m. m.verdict ≡ Success) marks

successes_more : (marks : List Mark) (mark : Mark) → AreSuccesses marks → mark.verdict ≡ Success → AreSuccesses (marks ++ mark ∷ [])
successes_more [] mark all one = (one, tt)
successes_more (m ∷ ms) mark all one = (all.0, successes_more ms mark all.1 one)

successes_stand : (marks : List Mark) (made : Executed) → AreSuccesses marks → failed_or marks made ≡ made
successes_stand [] made all = refl
successes_stand (m ∷ ms) made all = ap (λ v. failed_by v m.position (failed_or ms made)) all.0 ∙ successes_stand ms made all.1

failed_append : (xs ys : List Mark) (made : Executed) → failed_or (xs ++ ys) made ≡ failed_or xs (failed_or ys made)
failed_append [] ys made = refl
failed_append (x ∷ xs) ys made = ap (failed_by x.verdict x.position) (failed_append xs ys made)

-- once a batch failed, later marks don't change its end
abbrev pub FailsWith : ℕ → TaskRefusal → List Mark → Type 0
FailsWith position refusal marks = (made : Executed) → failed_or marks made ≡ Failed position refusal

still_fails : (position : ℕ) (refusal : TaskRefusal) (ran : Ran) (contexts : List TaskContext) → FailsWith position refusal ran.marks
    → FailsWith position refusal (folded ran contexts).marks
unfolding folded
still_fails position refusal ran [] fails = fails
still_fails position refusal ran (context ∷ contexts) fails = still_fails position refusal (ran_more ran context) contexts
    (λ made. failed_append ran.marks (marked context.position (task_outcome ran.state context.task).1 ∷ []) made ∙ fails _)

-- the refusal after successes fails the batch
fails_here : (position : ℕ) (refusal : TaskRefusal) (marks : List Mark) (verdict : Verdict) → AreSuccesses marks → verdict ≡ Refused refusal
    → FailsWith position refusal (marks ++ marked position verdict ∷ [])
fails_here position refusal marks verdict all e = λ made.
    failed_append marks (marked position verdict ∷ []) made
    ∙ successes_stand marks (failed_or (marked position verdict ∷ []) made) all
    ∙ ap (λ v. failed_by v position made) e

-- ---- the loop

abbrev pub going : List Mark → ClusterState → Ran
going marks state = record { state = state; marks = marks }

-- where the tasks that are left lead
abbrev pub carried : Executed → List TaskContext → Executed
carried (Made state marks) left = unless_refused (folded (going marks state) left)
carried (Failed position refusal) left = Failed position refusal

abbrev pub IsUnrefused : Executed → Type 0
IsUnrefused (Made state marks) = AreSuccesses marks
IsUnrefused (Failed position refusal) = Unit {0}

pub record IsAttempt (initial : ClusterState) (all : List TaskContext) (count : ℕ) (left : List TaskContext) (rest : ℕ) (made : Executed) : Type 0 where
  pub leads : carried made left ≡ unless_refused (folded (ran_none initial) all)
  pub unrefused : IsUnrefused made
  pub height : ℕ
  pub counted : IsCountedResult height made
  pub room : height + rest ≤ 2 ^ 63 - 1 + count

pub attempt_first : (initial : ClusterState) (all items : List TaskContext) (count n : ℕ) (r : Result Executed OutOfMemory)
    → IsRoomy initial → items ≡ all → n ≡ count → IfOk r (λ made. made ≡ made_of (ran_none initial)) → IfOk r (IsAttempt initial all count items n)
attempt_first initial all items count n (Ok made) roomy same long e = subst (IsAttempt initial all count items n) (sym e)
    (record { leads = ap (λ l. unless_refused (folded (ran_none initial) l)) same; unrefused = tt; height = 2 ^ 63 - 1; counted = roomy_counted initial roomy; room = omega arith })
attempt_first initial all items count n (Err _) roomy same long e = tt

goes_on : (height : ℕ) (made : Executed) → height + 2 < 2 ^ 64 → IsCountedResult height made → CanGoOn made
goes_on height (Made state marks) low c = low_rises height state low c
goes_on height (Failed position refusal) low c = tt

pub attempt_rises : (initial : ClusterState) (all items : List TaskContext) (count n rest : ℕ) (r : Result Executed OutOfMemory)
    → count < 2 ^ 63 → rest + 1 ≡ n → IfOk r (IsAttempt initial all count items n) → IfOk r CanGoOn
attempt_rises initial all items count n rest (Ok made) low one h = goes_on h.height made (let room = h.room in omega arith) h.counted
attempt_rises initial all items count n rest (Err _) low one h = tt

by_verdict : (initial : ClusterState) (all : List TaskContext) (count : ℕ) (context : TaskContext) (left : List TaskContext) (n rest : ℕ) (state : ClusterState) (marks : List Mark)
    → rest + 1 ≡ n → IsAttempt initial all count (context ∷ left) n (Made state marks)
    → (verdict : Verdict) → (task_outcome state context.task).1 ≡ verdict
    → IsAttempt initial all count left rest (attempted_by verdict context.position (ran_more (going marks state) context))
unfolding folded
by_verdict initial all count context left n rest state marks one h Success e = record {
  leads = h.leads;
  unrefused = successes_more marks (marked context.position (task_outcome state context.task).1) h.unrefused e;
  height = h.height + 1;
  counted = task_counted h.height state context.task h.counted;
  room = let room = h.room in omega arith;
}
by_verdict initial all count context left n rest state marks one h (Refused refusal) e = record {
  leads = sym (still_fails context.position refusal (ran_more (going marks state) context) left (fails_here context.position refusal marks (task_outcome state context.task).1 h.unrefused e) _) ∙ h.leads;
  unrefused = tt;
  height = h.height + 1;
  counted = tt;
  room = let room = h.room in omega arith;
}

attempt_more : (initial : ClusterState) (all : List TaskContext) (count : ℕ) (context : TaskContext) (left : List TaskContext) (n rest : ℕ) (before : Executed)
    → rest + 1 ≡ n → IsAttempt initial all count (context ∷ left) n before → IsAttempt initial all count left rest (attempted before context)
attempt_more initial all count context left n rest (Made state marks) one h = by_verdict initial all count context left n rest state marks one h _ refl
attempt_more initial all count context left n rest (Failed position refusal) one h = record {
  leads = h.leads;
  unrefused = tt;
  height = h.height;
  counted = tt;
  room = let room = h.room in omega arith;
}

pub attempt_next : (initial : ClusterState) (all : List TaskContext) (count : ℕ) (context : TaskContext) (items left : List TaskContext) (n rest : ℕ) (r s : Result Executed OutOfMemory)
    → items ≡ context ∷ left → rest + 1 ≡ n
    → IfOk r (IsAttempt initial all count items n) → IfOk s (λ next. IsOkAnd r (λ before. next ≡ attempted before context))
    → IfOk s (IsAttempt initial all count left rest)
attempt_next initial all count context items left n rest (Ok before) (Ok next) front one h e = subst (IsAttempt initial all count left rest) (sym e)
    (attempt_more initial all count context left n rest before one (subst (λ l. IsAttempt initial all count l n before) front h))
attempt_next initial all count context items left n rest (Err _) (Ok next) front one h e = absurd e
attempt_next initial all count context items left n rest r (Err _) front one h e = tt

stands : (made : Executed) → IsUnrefused made → carried made [] ≡ made
unfolding folded
stands (Made state marks) all = successes_stand marks (Made state marks) all
stands (Failed position refusal) all = refl

pub attempt_last : (initial : ClusterState) (all : List TaskContext) (count : ℕ) (items : List TaskContext) (n : ℕ) (r : Result Executed OutOfMemory)
    → items ≡ [] → IfOk r (IsAttempt initial all count items n) → IfOk r (λ made. made ≡ unless_refused (folded (ran_none initial) all))
attempt_last initial all count items n (Ok made) none h = sym (stands made h.unrefused) ∙ ap (carried made) (sym none) ∙ h.leads
attempt_last initial all count items n (Err _) none h = tt
