-- Where a course is at rest, each step is passed, and the task of each submit is over.
use Rattle.std.specs.Prelude.{◌≡◌, ℕ, zero, suc, ◌<◌, ◌≤◌, ◌&&◌, true, false, List, [], ◌∷◌, length, Some, None, option_and_then, slice_get, nat_lt, refl}
use Rattle.std.proofs.Common.{sym, ◌∙◌, ap, arith}
use Rattle.std.proofs.lemmas.Bool.Decides.{nat_tests}
use Rattle.std.proofs.lemmas.Option.{slice_get_within}
use Rattle.scripts.specs.declared.whole_script.Script.{Script}
use Rattle.scripts.specs.declared.steps.Step.{Step}
use Rattle.scripts.specs.Scripts.{is_submit}
use Rattle.session_law.specs.Histories.{step_at}
use Rattle.master_run.specs.Courses.{Course, next_at, word_of}
use Rattle.master_run.specs.Rests.{IsAtRest}
use Rattle.master_run.specs.SoFar.{IsLawfulSoFar, is_over, is_passed, is_submit_at, is_vacant}
use Rattle.master_run.proofs.Bounds.{stood}
use Rattle.master_run.proofs.Keeping.{no_some, not_true}
use Rattle.master_run.proofs.Resting.{over_at_rest}

lt_from : (n m k : ℕ) → n < k → k ≤ m → nat_lt n m ≡ true
lt_from n m k less most = grind (arith, nat_tests)

-- where a client is at its end, each of its steps is passed
beyond : (steps : List Step) (number : ℕ) → slice_get steps number ≡ None → length steps ≤ number
beyond [] number e = omega arith
beyond (step ∷ steps) zero e = absurd (no_some step (sym e))
beyond (step ∷ steps) (suc number) e = let rest = beyond steps number e in omega arith

all_passed : (script : Script) (k : Course) (client number : ℕ) (step : Step) → IsAtRest script k → step_at script client number ≡ Some step → is_passed k.positions client number ≡ true
all_passed script k client number step rests e =
    let at = stood script client number step e in
    let within = slice_get_within at.steps number step at.of_steps in
    let none : slice_get at.steps (next_at k.positions client) ≡ None =
    sym (ap (option_and_then (λ steps. slice_get steps (next_at k.positions client))) at.of_client) ∙ rests.ended client in
    lt_from number (next_at k.positions client) (length at.steps) within (beyond at.steps (next_at k.positions client) none)

pub submits_over : (script : Script) (k : Course) (client number : ℕ) (step : Step) → IsLawfulSoFar script k → IsAtRest script k → step_at script client number ≡ Some step → is_submit step ≡ true
    → is_over (word_of k.tasks client number) ≡ true
submits_over script k client number step h rests e own =
    let w = word_of k.tasks client number in
    let there : is_vacant w ≡ false =
    not_true (is_vacant w) (h.performed.cells client number ∙ (λ i. all_passed script k client number step rests e i && is_submit_at (e i)) ∙ own) in
    over_at_rest script k client number w refl h rests.empty there
