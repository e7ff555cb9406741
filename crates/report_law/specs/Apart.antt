-- Keys of which no two are equal. It is this project's own.
use Rattle.std.specs.Prelude.{Bool, true, not, ◌&&◌, List, [], ◌∷◌}
use Rattle.std.specs.List.{list_any}

-- each key differs from every later one
abbrev pub are_apart_by : {K : Type 0} → (K → K → Bool) → List K → Bool
are_apart_by eq [] = true
are_apart_by eq (key ∷ keys) = not (list_any (eq key) keys) && are_apart_by eq keys
