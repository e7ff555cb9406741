-- What leads from one map to another: the keys that are to go, the diffs of the values that changed, and the values that
-- are new; and a map that is patched with it. A diff of a key that isn't there, or the going of one, does nothing.
use Rattle.std.specs.Prelude.{◌≡◌, ℕ, Bool, false, List, [], ◌∷◌, Some, None, Option, if◌then◌else◌}
use Rattle.plain_data.specs.Agreements.{merged, with_all}
use Rattle.plain_data.specs.Pairs.{lookup, with, without}
use Rattle.state_diff.specs.declared.map_diffs.MapDiff.{MapDiff}

-- what a first map alone has at a key counts, not its value
abbrev pub only_first : {V : Type 0} → Option V → Option V → Option (Unit {0})
only_first None found = None
only_first (Some v) None = Some tt
only_first (Some v) (Some w) = None

-- the value that a second map alone has at a key
abbrev pub only_second : {V : Type 0} → Option V → Option V → Option V
only_second None found = found
only_second (Some v) found = None

-- the diff at a key that both maps have with different values
abbrev pub both_differ : {V D : Type 0} → (V → V → Bool) → (V → V → D) → Option V → Option V → Option D
both_differ eq between None found = None
both_differ eq between (Some v) None = None
both_differ eq between (Some v) (Some w) = if eq v w then None else Some (between v w)

-- the diff of two maps whose values a test takes for equal, and whose values' diffs are given
abbrev pub map_between : {V D : Type 0} → (V → V → Bool) → (V → V → D) → List (List ℕ × V) → List (List ℕ × V) → MapDiff V D
map_between eq between m n = record {
  deletes = merged only_first m n;
  diffs = merged (both_differ eq between) m n;
  upserts = merged only_second m n;
}

-- what is at a key after the diff that may be there
abbrev pub patched_option : {V D : Type 0} → (D → V → V) → Option D → Option V → Option V
patched_option patched None found = found
patched_option patched (Some diff) None = None
patched_option patched (Some diff) (Some v) = Some (patched diff v)

-- a map with what was found for a key, where anything was
abbrev pub put_at : {X : Type 0} → List ℕ → Option X → List (List ℕ × X) → List (List ℕ × X)
put_at key None m = m
put_at key (Some found) m = with key found m

-- a map with the value at a key patched, where there is one
abbrev pub patched_at : {V D : Type 0} → (D → V → V) → List ℕ → D → List (List ℕ × V) → List (List ℕ × V)
patched_at patched key diff m = put_at key (patched_option patched (Some diff) (lookup key m)) m

abbrev pub all_patched : {V D : Type 0} → (D → V → V) → List (List ℕ × D) → List (List ℕ × V) → List (List ℕ × V)
all_patched patched [] m = m
all_patched patched (p ∷ ps) m = all_patched patched ps (patched_at patched p.0 p.1 m)

abbrev pub without_all : {V : Type 0} → List (List ℕ × Unit {0}) → List (List ℕ × V) → List (List ℕ × V)
without_all [] m = m
without_all (p ∷ ps) m = without_all ps (without p.0 m)

-- a map after a diff
abbrev pub map_patched : {V D : Type 0} → (D → V → V) → MapDiff V D → List (List ℕ × V) → List (List ℕ × V)
map_patched patched diff m = without_all diff.deletes (all_patched patched diff.diffs (with_all diff.upserts m))

-- the diff of two values, where there are two and they differ, leads from the one to the other
abbrev pub Lead : {V D : Type 0} → (V → V → Bool) → (V → V → D) → (D → V → V) → Option V → Option V → Type 0
Lead eq between patched None found = Unit {0}
Lead eq between patched (Some v) None = Unit {0}
Lead eq between patched (Some v) (Some w) = eq v w ≡ false → patched (between v w) v ≡ w

-- and so at a key of two maps
abbrev pub LeadAt : {V D : Type 0} → (V → V → Bool) → (V → V → D) → (D → V → V) → List (List ℕ × V) → List (List ℕ × V) → List ℕ → Type 0
LeadAt eq between patched m n key = Lead eq between patched (lookup key m) (lookup key n)
