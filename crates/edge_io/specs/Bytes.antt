-- How many bytes a call took or wrote, over the words of std's `Io.KnownBytes`. Where the bytes aren't told, none of
-- these claims anything of them.
use Rattle.std.specs.Prelude.{◌≡◌, ◌≤◌, ◌<◌, ℕ, List, length, take, Result, IfOk}
use Rattle.std.specs.declared.option.Option.{Option}
use Rattle.std.specs.Io.KnownBytes.{Appends, Consumes}

-- on `Ok(n)`, n is at least 1 and at most the length of the piece
abbrev pub WritesSome : {E : Type 0} → Result ℕ E → List ℕ → Type 0
WritesSome result piece = IfOk result (λ n. (0 < n) × (n ≤ length piece))

-- this many bytes were taken from the front of those that were left
abbrev pub Takes : Option (List ℕ) → Option (List ℕ) → ℕ → Type 0
Takes old new count = (bytes : List ℕ) × Consumes old new bytes × (length bytes ≡ count)

-- no more bytes than this were taken from the front of those that were left
abbrev pub TakesAtMost : Option (List ℕ) → Option (List ℕ) → ℕ → Type 0
TakesAtMost old new limit = (bytes : List ℕ) × Consumes old new bytes × (length bytes ≤ limit)

-- some of the bytes were appended, from the front, and not all
abbrev pub AppendsPart : Option (List ℕ) → Option (List ℕ) → List ℕ → Type 0
AppendsPart old new bytes = (count : ℕ) × (count < length bytes) × Appends old new (take count bytes)
