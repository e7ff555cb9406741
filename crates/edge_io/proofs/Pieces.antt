-- Bytes that are taken or appended piece by piece.
use Rattle.std.proofs.Common.{◌≡◌, ◌≤◌, ℕ, ◌+◌, List, ◌++◌, take, drop, length, Some, None, ◌∙◌, append_assoc, length-append, arith, take-add}
use Rattle.std.specs.declared.option.Option.{Option}
use Rattle.std.specs.Io.KnownBytes.{Appends, Consumes}
use Rattle.edge_io.specs.Bytes.{Takes, TakesAtMost}

-- a piece from the front of what is left goes behind what was appended before
pub appends_more : (old middle new : Option (List ℕ)) (bytes : List ℕ) (done count : ℕ) → Appends old middle (take done bytes) → Appends middle new (take count (drop done bytes)) → Appends old new (take (done + count) bytes)
appends_more None middle new bytes done count h k = tt
appends_more (Some xs) None new bytes done count h k = absurd h
appends_more (Some xs) (Some ys) None bytes done count h k = absurd k
appends_more (Some xs) (Some ys) (Some zs) bytes done count h k = rw (k, h, append_assoc, ← take-add done count bytes)

-- what is taken next stands behind what was taken before
pub consumes_more : (old middle new : Option (List ℕ)) (before piece : List ℕ) → Consumes old middle before → Consumes middle new piece → Consumes old new (before ++ piece)
consumes_more None middle new before piece h k = tt
consumes_more (Some xs) None new before piece h k = absurd h
consumes_more (Some xs) (Some ys) None before piece h k = absurd k
consumes_more (Some xs) (Some ys) (Some zs) before piece h k = rw (h, k, append_assoc)

-- the same, by count
pub takes_more : (old middle new : Option (List ℕ)) (before piece : List ℕ) (count : ℕ) → Consumes old middle before → Consumes middle new piece → length before + length piece ≡ count → Takes old new count
takes_more old middle new before piece count h k e = (before ++ piece, consumes_more old middle new before piece h k, length-append before piece ∙ e)

pub takes_few_more : (old middle new : Option (List ℕ)) (before piece : List ℕ) (limit : ℕ) → Consumes old middle before → Consumes middle new piece → length before + length piece ≤ limit → TakesAtMost old new limit
takes_few_more old middle new before piece limit h k e = (before ++ piece, consumes_more old middle new before piece h k, omega (arith, length-append before piece))
