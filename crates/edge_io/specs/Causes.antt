-- A count of faults, by which an error shows its cause. It goes up by one at a fault, and stands still at 2^64 - 1,
-- where it counts as having risen. A call that tells a fault is believed only where the count of what it calls rose:
-- no caller can raise it, so none can make a fault up.
use Rattle.std.specs.Prelude.{◌≡◌, ◌≤◌, ◌+◌, ◌-◌, ◌^◌, ℕ, min, Result, MatchResult}

-- the count, one higher
abbrev pub counted_up : ℕ → ℕ
counted_up count = min (count + 1) (2 ^ 64 - 1)

-- the count rose, or it stands at its last value
abbrev pub Rose : ℕ → ℕ → Type 0
Rose before now = counted_up before ≤ now

-- the count goes up by one at an `Err`, and stays at an `Ok`
abbrev pub CountsErrors : {A E : Type 0} → Result A E → ℕ → ℕ → Type 0
CountsErrors result before now = MatchResult result (λ _. now ≡ before) (λ _. now ≡ counted_up before)
