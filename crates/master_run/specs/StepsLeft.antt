-- How many steps of a kind clients have still to perform.
use Rattle.std.specs.Prelude.{ℕ, ◌+◌, Bool, true, List, [], ◌∷◌, count_by, drop}
use Rattle.scripts.specs.declared.steps.Step.{Step}

abbrev pub always : Step → Bool
always step = true

unfoldable pub steps_left : (Step → Bool) → List (List Step) → List ℕ → ℕ
steps_left kind [] positions = 0
steps_left kind (steps ∷ more) [] = 0
steps_left kind (steps ∷ more) (position ∷ positions) = count_by kind (drop position steps) + steps_left kind more positions
