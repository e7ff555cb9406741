-- A map that is made to say at some keys what is found there now: a value, or none.
use Rattle.std.specs.Prelude.{ℕ, List, [], ◌∷◌, Option, Some, None}
use Rattle.plain_data.specs.Pairs.{with, without}

abbrev pub updated_at : {V : Type 0} → List ℕ → Option V → List (List ℕ × V) → List (List ℕ × V)
updated_at key None pairs = without key pairs
updated_at key (Some value) pairs = with key value pairs

abbrev pub updated : {V : Type 0} → (List ℕ → Option V) → List (List ℕ × Unit {0}) → List (List ℕ × V) → List (List ℕ × V)
updated find [] pairs = pairs
updated find (key ∷ keys) pairs = updated find keys (updated_at key.0 (find key.0) pairs)
