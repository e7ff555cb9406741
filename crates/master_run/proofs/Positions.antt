-- A client that performs its next step: which steps are passed then, and what the step's cells are.
use Rattle.std.specs.Prelude.{◌≡◌, ◌≢◌, ℕ, zero, suc, ◌+◌, ◌<◌, ◌≤◌, ◌⊎◌, Bool, true, false, List, [], ◌∷◌, drop, length, map, nat_lt, Some, slice_get, slice_index_or, refl}
use Rattle.std.proofs.Common.{sym, ◌∙◌, ap, subst, arith, inl, inr}
use Rattle.std.proofs.lemmas.Bool.{ltb-false, ltb-true}
use Rattle.std.proofs.lemmas.Bool.Decides.{nat_tests}
use Rattle.std.proofs.lemmas.List.{get_or-set_other, get_or-set_same, length-set}
use Rattle.std.proofs.lemmas.Option.{slice_get_within}
use Rattle.scripts.specs.declared.whole_script.Script.{Script}
use Rattle.scripts.specs.declared.steps.Step.{Step}
use Rattle.scripts.specs.Scripts.{IsScript}
use Rattle.session_law.specs.Histories.{step_at}
use Rattle.session_law.specs.ScriptSteps.{is_at}
use Rattle.plain_data.specs.Cells.{IsInside, row_of, with_cell}
use Rattle.plain_data.proofs.Cells.{same_or_not}
use Rattle.master_run.specs.Courses.{lanes_of, next_at}
use Rattle.master_run.specs.SoFar.{is_passed}
use Rattle.master_run.specs.Steps.{moved_on}
use Rattle.master_run.proofs.Bounds.{steps_few, stood}
use Rattle.master_run.proofs.Keeping.{no_some, some_same}
use Rattle.master_run.proofs.Wordwise.{other_step}

-- ---- a step of the script

pub client_within : (script : Script) (positions : List ℕ) (client number : ℕ) (step : Step) → length positions ≡ length script.clients → step_at script client number ≡ Some step
    → client < length positions
client_within script positions client number step places e =
    let at = stood script client number step e in
    let within = slice_get_within script.clients client at.steps at.of_client in
    omega arith

pub position_few : (script : Script) (client number : ℕ) (step : Step) → IsScript script → step_at script client number ≡ Some step → number < 4096
position_few script client number step valid e =
    let at = stood script client number step e in
    let few = steps_few script client at.steps valid at.of_client in
    let within = slice_get_within at.steps number step at.of_steps in
    omega arith

-- ---- positions

pub next_same : (positions : List ℕ) (client : ℕ) → client < length positions → next_at (moved_on positions client) client ≡ next_at positions client + 1
next_same positions client within = get_or-set_same positions client (next_at positions client + 1) 0 within

pub next_other : (positions : List ℕ) (client other : ℕ) → other ≢ client → next_at (moved_on positions client) other ≡ next_at positions other
next_other positions client other apart = get_or-set_other positions client other (next_at positions client + 1) 0 apart

pub next_rises : (positions : List ℕ) (client other : ℕ) → next_at positions other ≤ next_at (moved_on positions client) other
next_rises [] client other = omega arith
next_rises (p ∷ positions) zero zero = omega arith
next_rises (p ∷ positions) zero (suc other) = omega arith
next_rises (p ∷ positions) (suc client) zero = omega arith
next_rises (p ∷ positions) (suc client) (suc other) = next_rises positions client other

-- a step that is passed then was passed before, or is the one that is performed
by_end : (positions : List ℕ) (client c n : ℕ) (b : Bool) → nat_lt n (next_at positions client) ≡ b → c ≡ client → n < next_at positions client + 1
    → (n < next_at positions c) ⊎ ((c ≡ client) × (n ≡ next_at positions client))
by_end positions client c n true e same less =
    inl (subst (λ (x : ℕ). n < next_at positions x) (sym same) (ltb-true n (next_at positions client) e))
by_end positions client c n false e same less = inr (same, (let most = ltb-false n (next_at positions client) e in omega arith))

passed_by : (positions : List ℕ) (client c n : ℕ) → client < length positions → (c ≡ client) ⊎ (c ≢ client) → n < next_at (moved_on positions client) c
    → (n < next_at positions c) ⊎ ((c ≡ client) × (n ≡ next_at positions client))
passed_by positions client c n within (inr differs) less = inl (let same = next_other positions client c differs in omega arith)
passed_by positions client c n within (inl same) less =
    let here : n < next_at (moved_on positions client) client = subst (λ (x : ℕ). n < next_at (moved_on positions client) x) same less in
    let next = next_same positions client within in
    by_end positions client c n (nat_lt n (next_at positions client)) refl same (omega arith)

pub passed_or_now : (positions : List ℕ) (client c n : ℕ) → client < length positions → n < next_at (moved_on positions client) c
    → (n < next_at positions c) ⊎ ((c ≡ client) × (n ≡ next_at positions client))
passed_or_now positions client c n within less = passed_by positions client c n within (same_or_not c client) less

-- of all other steps it is as before whether they are passed
lt_next : (n m : ℕ) → n ≢ m → nat_lt n (m + 1) ≡ nat_lt n m
lt_next n m apart = grind (arith, nat_tests)

other_by : (positions : List ℕ) (client c n : ℕ) → client < length positions → is_at client (next_at positions client) c n ≡ false → (c ≡ client) ⊎ (c ≢ client)
    → is_passed (moved_on positions client) c n ≡ is_passed positions c n
other_by positions client c n within apart (inr differs) = ap (λ (m : ℕ). nat_lt n m) (next_other positions client c differs)
other_by positions client c n within apart (inl same) =
    subst (λ (x : ℕ). is_passed (moved_on positions client) x n ≡ is_passed positions x n) (sym same)
    (ap (λ (m : ℕ). nat_lt n m) (next_same positions client within) ∙ lt_next n (next_at positions client) (other_step client (next_at positions client) c n apart same))

pub passed_other : (positions : List ℕ) (client c n : ℕ) → client < length positions → is_at client (next_at positions client) c n ≡ false
    → is_passed (moved_on positions client) c n ≡ is_passed positions c n
passed_other positions client c n within apart = other_by positions client c n within apart (same_or_not c client)

lt_one : (n : ℕ) → nat_lt n (n + 1) ≡ true
lt_one n = grind (arith, nat_tests)

lt_itself : (n : ℕ) → nat_lt n n ≡ false
lt_itself n = grind (arith, nat_tests)

pub passed_now : (positions : List ℕ) (client : ℕ) → client < length positions → is_passed (moved_on positions client) client (next_at positions client) ≡ true
passed_now positions client within = ap (λ (m : ℕ). nat_lt (next_at positions client) m) (next_same positions client within) ∙ lt_one (next_at positions client)

pub not_passed : (positions : List ℕ) (client : ℕ) → is_passed positions client (next_at positions client) ≡ false
not_passed positions client = lt_itself (next_at positions client)

-- ---- rows that are as long as the script's clients

pub record IsRow {A : Type 0} (rows : List (List A)) (client : ℕ) (steps : List Step) : Type 0 where
  pub there : client < length rows
  pub long : length (row_of rows client) ≡ length steps

pub row_of_client : {A : Type 0} (rows : List (List A)) (clients : List (List Step)) (client : ℕ) (steps : List Step) → map (λ (row : List A). length row) rows ≡ map (λ (row : List Step). length row) clients
    → slice_get clients client ≡ Some steps → IsRow rows client steps
row_of_client [] [] client steps e f = absurd (no_some steps f)
row_of_client [] (first ∷ more) client steps e f = absurd (cc)
row_of_client (row ∷ rows) [] client steps e f = absurd (no_some steps f)
row_of_client (row ∷ rows) (first ∷ more) zero steps e f =
    record { there = omega arith; long = ap (λ (all : List ℕ). slice_index_or all 0 0) e ∙ ap (λ (l : List Step). length l) (some_same first steps f) }
row_of_client (row ∷ rows) (first ∷ more) (suc client) steps e f =
    let rest = row_of_client rows more client steps (ap (λ (all : List ℕ). drop 1 all) e) f in
    record { there = let less = rest.there in omega arith; long = rest.long }

-- a step of the script has a cell
pub lane_inside : {A : Type 0} (script : Script) (rows : List (List A)) (client number : ℕ) (step : Step) → map (λ (row : List A). length row) rows ≡ lanes_of script
    → step_at script client number ≡ Some step → IsInside rows client number
lane_inside script rows client number step e f =
    let at = stood script client number step f in
    let row = row_of_client rows script.clients client at.steps e at.of_client in
    let within = slice_get_within at.steps number step at.of_steps in
    record { row = row.there; cell = let long = row.long in omega arith }

-- each row keeps its length
pub rows_keep : {A : Type 0} (rows : List (List A)) (c s : ℕ) (cell : A) → map (λ (row : List A). length row) (with_cell c s cell rows) ≡ map (λ (row : List A). length row) rows
rows_keep {A} [] c s cell = refl
rows_keep {A} (row ∷ rows) zero s cell = λ i. length-set row s cell i ∷ map (λ (r : List A). length r) rows
rows_keep {A} (row ∷ rows) (suc c) s cell = λ i. length row ∷ rows_keep rows c s cell i
