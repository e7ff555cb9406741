-- The bytes that keys of settings and names of clusters, nodes and queues begin with. The rule is this project's own.
use Rattle.std.specs.Prelude.{ℕ, Bool, false, ◌&&◌, ◌||◌, List, [], ◌∷◌, nat_le}

-- a letter from a to z or a digit
abbrev pub is_letter_or_digit : ℕ → Bool
is_letter_or_digit b = (nat_le 0x61 b && nat_le b 0x7A) || (nat_le 0x30 b && nat_le b 0x39)

-- whether bytes begin with one of them
abbrev pub begins_well : List ℕ → Bool
begins_well [] = false
begins_well (b ∷ _) = is_letter_or_digit b
