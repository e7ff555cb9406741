-- What holds of a batch that failed, and of what was made, holds of what the marks make of it.
use Rattle.std.specs.Prelude.{◌≡◌, ℕ, List, [], ◌∷◌, Result, Ok, Err, IfOk}
use Rattle.std.proofs.Common.{◌∙◌, sym, ap, subst}
use Rattle.plain_data.specs.declared.memory.OutOfMemory.{OutOfMemory}
use Rattle.executors.specs.declared.contexts.Mark.{Mark}
use Rattle.executors.specs.declared.contexts.Verdict.{Verdict}
use Rattle.executors.specs.declared.contexts.Verdict.TheVariants.{Success, Refused}
use Rattle.executors.specs.declared.executions.Executed.{Executed}
use Rattle.executors.specs.declared.executions.Executed.TheVariants.{Failed}
use Rattle.executors.specs.declared.folds.Ran.{Ran}
use Rattle.executors.specs.declared.refusals.TaskRefusal.{TaskRefusal}
use Rattle.executors.specs.Executions.{failed_or, failed_by, made_of, unless_refused}

settled_by : (Holds : Executed → Type 0) → ((position : ℕ) (refusal : TaskRefusal) → Holds (Failed position refusal))
    → (verdict : Verdict) (position : ℕ) (rest : Executed) → Holds rest → Holds (failed_by verdict position rest)
settled_by Holds failed Success position rest h = h
settled_by Holds failed (Refused refusal) position rest h = failed position refusal

pub settled_or : (Holds : Executed → Type 0) → ((position : ℕ) (refusal : TaskRefusal) → Holds (Failed position refusal))
    → (marks : List Mark) (made : Executed) → Holds made → Holds (failed_or marks made)
settled_or Holds failed [] made h = h
settled_or Holds failed (mark ∷ marks) made h = settled_by Holds failed mark.verdict mark.position (failed_or marks made) (settled_or Holds failed marks made h)

-- what a batch leaves whose tasks were all run
pub made_holds : (Holds : Executed → Type 0) (all ran : Ran) (made : Executed) → ran ≡ all → made ≡ made_of ran → Holds (made_of all) → Holds made
made_holds Holds all ran made e f h = subst Holds (sym (f ∙ ap made_of e)) h

-- what a batch leaves that its first refused task fails
pub atomic_holds : (Holds : Executed → Type 0) → ((position : ℕ) (refusal : TaskRefusal) → Holds (Failed position refusal))
    → (all : Ran) (r : Result Executed OutOfMemory) → IfOk r (λ made. made ≡ unless_refused all) → Holds (made_of all) → IfOk r Holds
atomic_holds Holds failed all (Ok made) e h = subst Holds (sym e) (settled_or Holds failed all.marks (made_of all) h)
atomic_holds Holds failed all (Err _) e h = tt
