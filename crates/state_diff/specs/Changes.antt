-- The change of a value that is told whole: nothing where the new one is equal, else the new one.
use Rattle.std.specs.Prelude.{Bool, Some, None, Option, if◌then◌else◌}

abbrev pub change_of : {T : Type 0} → (T → T → Bool) → T → T → Option T
change_of eq a b = if eq a b then None else Some b

-- a value after a change
abbrev pub changed : {T : Type 0} → Option T → T → T
changed None value = value
changed (Some new) value = new
