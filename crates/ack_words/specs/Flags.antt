-- How a number keeps flags as its bits, and that it gives them back: this project's own.
use Rattle.std.specs.Prelude.{◌≡◌, ℕ, zero, suc, ◌+◌, ◌*◌, ◌/◌, ◌%◌, ◌^◌, ◌<◌, ◌==◌, Bool, true, false, List, [], ◌∷◌, if◌then◌else◌, refl}
use Rattle.std.proofs.Common.{arith}

-- so many bits of a number as flags, the lowest one first
unfoldable pub flags_of : ℕ → ℕ → List Bool
flags_of zero _ = []
flags_of (suc count) number = (number % 2 == 1) ∷ flags_of count (number / 2)

-- the number that has these flags as its bits
unfoldable pub number_of : List Bool → ℕ
number_of [] = 0
number_of (flag ∷ flags) = (if flag then 1 else 0) + 2 * number_of flags

-- ---- back and forth

number_by : (count number : ℕ) (flag : Bool) → (number % 2 == 1) ≡ flag → number_of (flags_of count (number / 2)) ≡ number / 2 → (if flag then 1 else 0) + 2 * number_of (flags_of count (number / 2)) ≡ number
number_by count number true odd rest = search arith
number_by count number false even rest = search arith

pub number_of-flags_of : (count number : ℕ) → number < 2 ^ count → number_of (flags_of count number) ≡ number
unfolding flags_of number_of
number_of-flags_of zero zero fits = refl
number_of-flags_of zero (suc number) fits = absurd (omega arith)
number_of-flags_of (suc count) number fits = number_by count number (number % 2 == 1) refl (number_of-flags_of count (number / 2) (omega arith))
