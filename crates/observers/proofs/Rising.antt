-- Numbers that rise strictly: as one goes, as one more comes, and how many they are.
use Rattle.std.proofs.Common.{◌≤◌, ◌<◌, ◌+◌, ℕ, Bool, true, false, List, [], ◌∷◌, ◌++◌, length, arith, if◌then◌else◌}
use Rattle.observers.specs.Registries.{AreRising, kept_with}
use Rattle.observers.specs.Watchings.{Watching}

pub rising_from : (low least bound : ℕ) (numbers : List ℕ) → low ≤ least → AreRising least bound numbers → AreRising low bound numbers
rising_from low least bound [] below h = tt
rising_from low least bound (n ∷ more) below h = (let first : least ≤ n = h.0 in omega arith, h.1)

pub rising_below : (least bound high : ℕ) (numbers : List ℕ) → bound ≤ high → AreRising least bound numbers → AreRising least high numbers
rising_below least bound high [] below h = tt
rising_below least bound high (n ∷ more) below h = (h.0, (let last : n < bound = h.1.0 in omega arith, rising_below (n + 1) bound high more below h.1.1))

-- one goes
pub rising_without : (least bound : ℕ) (numbers : List ℕ) (n : ℕ) (more : List ℕ) → AreRising least bound (numbers ++ n ∷ more) → AreRising least bound (numbers ++ more)
rising_without least bound [] n more h = rising_from least (n + 1) bound more (let first : least ≤ n = h.0 in omega arith) h.1.1
rising_without least bound (m ∷ numbers) n more h = (h.0, (h.1.0, rising_without (m + 1) bound numbers n more h.1.1))

-- the bound itself comes behind them
pub rising_append : (least bound : ℕ) (numbers : List ℕ) → least ≤ bound → AreRising least bound numbers → AreRising least (bound + 1) (numbers ++ bound ∷ [])
rising_append least bound [] below h = (below, (omega arith, tt))
rising_append least bound (n ∷ numbers) below h = (h.0, (let last : n < bound = h.1.0 in omega arith, rising_append (n + 1) bound numbers (let last : n < bound = h.1.0 in omega arith) h.1.1))

rising_if : (over : Bool) (bound : ℕ) (numbers : List ℕ) → AreRising 0 bound numbers → AreRising 0 (bound + 1) (if over then numbers else numbers ++ bound ∷ [])
rising_if true bound numbers h = rising_below 0 bound (bound + 1) numbers (omega arith) h
rising_if false bound numbers h = rising_append 0 bound numbers (omega arith) h

pub rising_kept_with : (bound : ℕ) (w : Watching) (numbers : List ℕ) → AreRising 0 bound numbers → AreRising 0 (bound + 1) (kept_with bound w numbers)
rising_kept_with bound w numbers h = rising_if w.over bound numbers h

count_from : (least bound : ℕ) (numbers : List ℕ) → least ≤ bound → AreRising least bound numbers → least + length numbers ≤ bound
count_from least bound [] below h = omega arith
count_from least bound (n ∷ more) below h =
    let first : least ≤ n = h.0 in
    let last : n < bound = h.1.0 in
    let rest : n + 1 + length more ≤ bound = count_from (n + 1) bound more (omega arith) h.1.1 in
    omega arith

pub rising_count : (bound : ℕ) (numbers : List ℕ) → AreRising 0 bound numbers → length numbers ≤ bound
rising_count bound numbers h = let all : 0 + length numbers ≤ bound = count_from 0 bound numbers (omega arith) h in omega arith
