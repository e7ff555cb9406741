-- The words of the commands.
use Rattle.std.specs.Prelude.{Bool, false, ◌==◌, ◌&&◌, List, [], ◌∷◌, String, IsTrue, bytes_eq, codes, length, string_bytes}
use Rattle.std.specs.declared.alloc.Global.{Global}

-- the one word `replay`
abbrev pub is_replay_form : List (String Global) → Bool
is_replay_form [] = false
is_replay_form (word ∷ more) = bytes_eq (string_bytes word) (codes "replay") && (length more == 0)

abbrev pub IsReplay : List (String Global) → Type 0
IsReplay words = IsTrue (is_replay_form words)
