-- Two maps that agree outside of some names, and what is read off at keys. A change of a map touches few of its keys, and
-- what is to be told of it, as a diff, a list of changed names or whether anything changed, is read off at those alone.
use Rattle.std.specs.Prelude.{◌≡◌, ℕ, List, [], ◌∷◌, Some, None, Option}
use Rattle.plain_data.specs.Pairs.{lookup, with}

-- two maps with the same look-up at every key that isn't among some names
abbrev pub AgreeOutside : {V : Type 0} → List (List ℕ × Unit {0}) → List (List ℕ × V) → List (List ℕ × V) → Type 0
AgreeOutside names m n = (key : List ℕ) → lookup key names ≡ None → lookup key m ≡ lookup key n

-- the pairs of one map put into another, in place of those that may stand there: its keys are those of both
abbrev pub with_all : {V : Type 0} → List (List ℕ × V) → List (List ℕ × V) → List (List ℕ × V)
with_all [] made = made
with_all (pair ∷ pairs) made = with_all pairs (with pair.0 pair.1 made)

-- a key with what was found at it, before other pairs
abbrev pub before : {X : Type 0} → List ℕ → Option X → List (List ℕ × X) → List (List ℕ × X)
before key None pairs = pairs
before key (Some found) pairs = (key, found) ∷ pairs

-- what is found at the keys of a map, in their order, where anything is
abbrev pub read_off : {V X : Type 0} → (List ℕ → Option X) → List (List ℕ × V) → List (List ℕ × X)
read_off find [] = []
read_off find (pair ∷ pairs) = before pair.0 (find pair.0) (read_off find pairs)

-- what a merge of two maps gives: what is made of the two values at each key of either, in byte order of the keys
abbrev pub merged : {V X : Type 0} → (Option V → Option V → Option X) → List (List ℕ × V) → List (List ℕ × V) → List (List ℕ × X)
merged make m n = read_off (λ key. make (lookup key m) (lookup key n)) (with_all m n)
