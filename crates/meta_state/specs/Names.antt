-- The names that an index or an alias may have: Elasticsearch's rules of index names (`MetadataCreateIndexService`
-- and `MetadataCreateIndexService.validateIndexOrAliasName`), the last one this project's own.
use Rattle.std.specs.Prelude.{ℕ, Bool, false, ◌==◌, ◌||◌, List, [], ◌∷◌, Some, None, Option, length, codes, nat_lt, nat_le, bytes_eq, if◌then◌else◌, ◌&&◌}
use Rattle.std.specs.List.{list_any}

-- whether it begins with `_`, `-` or `+`
abbrev pub begins_badly : List ℕ → Bool
begins_badly [] = false
begins_badly (b ∷ _) = (b == 0x5F) || ((b == 0x2D) || (b == 0x2B))

-- one of \ / * ? " < > | , # : and space
abbrev pub is_forbidden : ℕ → Bool
is_forbidden b = list_any (λ c. c == b) (codes "\\/*?\"<>|,#: ")

-- a letter from A to Z
abbrev pub is_upper : ℕ → Bool
is_upper b = nat_le 0x41 b && nat_le b 0x5A

-- a byte outside 0x21 to 0x7E
abbrev pub is_outside : ℕ → Bool
is_outside b = nat_lt b 0x21 || nat_lt 0x7E b

-- the number of the first rule that a name breaks
abbrev pub name_fault : List ℕ → Option ℕ
name_fault name =
    if length name == 0 then Some 1 else
    (if nat_lt 255 (length name) then Some 2 else
    (if bytes_eq name (codes ".") || bytes_eq name (codes "..") then Some 3 else
    (if begins_badly name then Some 4 else
    (if list_any is_forbidden name then Some 5 else
    (if list_any is_upper name then Some 6 else
    (if list_any is_outside name then Some 7 else None))))))
