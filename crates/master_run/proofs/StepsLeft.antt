-- Of the steps of a kind that are left, none more is left to a client that has performed one, and one of that kind less.
use Rattle.std.specs.Prelude.{◌≡◌, ℕ, zero, suc, ◌+◌, ◌≤◌, Bool, true, false, cond, List, [], ◌∷◌, length, map, flat_map, count_by, drop, Some, slice_get, refl}
use Rattle.std.proofs.Common.{sym, ◌∙◌, ap, subst, arith}
use Rattle.std.proofs.Math.Bool.{true≢false}
use Rattle.std.proofs.lemmas.List.Sums.{sum_by-append, sum_by-cons}
use Rattle.scripts.specs.declared.steps.Step.{Step}
use Rattle.master_run.specs.Courses.{next_at}
use Rattle.master_run.specs.Steps.{moved_on}
use Rattle.master_run.specs.StepsLeft.{steps_left}
use Rattle.master_run.proofs.Keeping.{no_some, some_same}

counted_first : (kind : Step → Bool) (step : Step) (steps : List Step) → count_by kind (step ∷ steps) ≡ cond (kind step) 1 0 + count_by kind steps
counted_first kind step steps = sum_by-cons (λ (s : Step). cond (kind s) 1 0) step steps

first_falls : (kind : Step → Bool) (step : Step) (steps : List Step) → count_by kind steps ≤ count_by kind (step ∷ steps)
first_falls kind step steps = let counted = counted_first kind step steps in omega arith

suc_one : (n : ℕ) → suc n ≡ n + 1
suc_one n = omega arith

suc_falls : (kind : Step → Bool) (steps : List Step) (position : ℕ) → count_by kind (drop (suc position) steps) ≤ count_by kind (drop position steps)
suc_falls kind [] zero = omega arith
suc_falls kind [] (suc position) = omega arith
suc_falls kind (step ∷ steps) zero = first_falls kind step steps
suc_falls kind (step ∷ steps) (suc position) = suc_falls kind steps position

one_step : (kind : Step → Bool) (steps : List Step) (position : ℕ) → count_by kind (drop (position + 1) steps) ≤ count_by kind (drop position steps)
one_step kind steps position = subst (λ (n : ℕ). count_by kind (drop n steps) ≤ count_by kind (drop position steps)) (suc_one position) (suc_falls kind steps position)

counted_yes : (yes : Bool) (n : ℕ) → yes ≡ true → cond yes 1 0 + n ≡ n + 1
counted_yes true n h = omega arith
counted_yes false n h = absurd (true≢false (sym h))

first_kind : (kind : Step → Bool) (step : Step) (steps : List Step) → kind step ≡ true → count_by kind steps + 1 ≡ count_by kind (step ∷ steps)
first_kind kind step steps own = sym (counted_first kind step steps ∙ counted_yes (kind step) (count_by kind steps) own)

suc_kind : (kind : Step → Bool) (steps : List Step) (position : ℕ) (step : Step) → slice_get steps position ≡ Some step → kind step ≡ true
    → count_by kind (drop (suc position) steps) + 1 ≡ count_by kind (drop position steps)
suc_kind kind [] position step e own = absurd (no_some step e)
suc_kind kind (first ∷ steps) zero step e own = first_kind kind first steps (ap kind (some_same first step e) ∙ own)
suc_kind kind (first ∷ steps) (suc position) step e own = suc_kind kind steps position step e own

kind_step : (kind : Step → Bool) (steps : List Step) (position : ℕ) (step : Step) → slice_get steps position ≡ Some step → kind step ≡ true
    → count_by kind (drop (position + 1) steps) + 1 ≡ count_by kind (drop position steps)
kind_step kind steps position step e own =
    subst (λ (n : ℕ). count_by kind (drop n steps) + 1 ≡ count_by kind (drop position steps)) (suc_one position) (suc_kind kind steps position step e own)

pub left_falls : (kind : Step → Bool) (clients : List (List Step)) (positions : List ℕ) (client : ℕ) → steps_left kind clients (moved_on positions client) ≤ steps_left kind clients positions
unfolding steps_left
left_falls kind [] positions client = omega arith
left_falls kind (steps ∷ more) [] client = omega arith
left_falls kind (steps ∷ more) (p ∷ positions) zero = let one = one_step kind steps p in omega arith
left_falls kind (steps ∷ more) (p ∷ positions) (suc client) = let rest = left_falls kind more positions client in omega arith

pub kind_falls : (kind : Step → Bool) (clients : List (List Step)) (positions : List ℕ) (client : ℕ) (steps : List Step) (step : Step) → length positions ≡ length clients → slice_get clients client ≡ Some steps
    → slice_get steps (next_at positions client) ≡ Some step → kind step ≡ true
    → steps_left kind clients (moved_on positions client) + 1 ≡ steps_left kind clients positions
unfolding steps_left
kind_falls kind [] positions client steps step places e f own = absurd (no_some steps e)
kind_falls kind (first ∷ more) [] client steps step places e f own = absurd (omega arith)
kind_falls kind (first ∷ more) (p ∷ positions) zero steps step places e f own =
    let one = kind_step kind first p step (ap (λ (l : List Step). slice_get l p) (some_same first steps e) ∙ f) own in omega arith
kind_falls kind (first ∷ more) (p ∷ positions) (suc client) steps step places e f own =
    let rest = kind_falls kind more positions client steps step (omega arith) e f own in omega arith

-- at first all are left
pub left_first : (kind : Step → Bool) (clients : List (List Step)) → steps_left kind clients (map (λ (steps : List Step). 0) clients) ≡ count_by kind (flat_map (λ (steps : List Step). steps) clients)
unfolding steps_left
left_first kind [] = refl
left_first kind (steps ∷ more) =
    let rest = left_first kind more in
    let both = sum_by-append (λ (s : Step). cond (kind s) 1 0) steps (flat_map (λ (steps : List Step). steps) more) in
    omega arith
