-- Diffs of sets of names, which are maps of the names to nothing.
use Rattle.std.specs.Prelude.{ℕ, List}
use Rattle.plain_data.specs.Pairs.{unit_eq}
use Rattle.state_diff.specs.declared.map_diffs.MapDiff.{MapDiff}
use Rattle.state_diff.specs.MapDiffs.{map_between, map_patched}

-- between nothing and nothing there is nothing
abbrev pub unit_between : Unit {0} → Unit {0} → Unit {0}
unit_between a b = tt

abbrev pub unit_patched : Unit {0} → Unit {0} → Unit {0}
unit_patched diff value = value

abbrev pub names_between : List (List ℕ × Unit {0}) → List (List ℕ × Unit {0}) → MapDiff (Unit {0}) (Unit {0})
names_between = map_between unit_eq unit_between

abbrev pub names_patched : MapDiff (Unit {0}) (Unit {0}) → List (List ℕ × Unit {0}) → List (List ℕ × Unit {0})
names_patched = map_patched unit_patched
