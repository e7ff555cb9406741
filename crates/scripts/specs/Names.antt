-- Names of clusters, nodes and queues: 1 to 64 bytes of a to z, 0 to 9, _ and -, beginning with a letter or a digit. The
-- rule is this project's own.
use Rattle.std.specs.Prelude.{ℕ, Bool, true, not, ◌==◌, ◌&&◌, ◌||◌, List, [], ◌∷◌, length, nat_le, bytes_eq}
use Rattle.std.specs.List.{list_all, list_any}
use Rattle.executors.specs.Letters.{begins_well, is_letter_or_digit}

abbrev pub is_name_byte : ℕ → Bool
is_name_byte b = is_letter_or_digit b || ((b == 0x5F) || (b == 0x2D))

abbrev pub is_name : List ℕ → Bool
is_name name = begins_well name && (nat_le (length name) 64 && list_all is_name_byte name)

-- no text stands twice
abbrev pub are_distinct : List (List ℕ) → Bool
are_distinct [] = true
are_distinct (name ∷ names) = not (list_any (bytes_eq name) names) && are_distinct names
