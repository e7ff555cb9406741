-- A tree that is n nodes deep has fewer than 2 ^ n pairs.
use Rattle.std.proofs.Common.{◌≡◌, ◌≤◌, ◌<◌, ◌+◌, ◌-◌, ◌^◌, ℕ, suc, arith, sym, subst}
use Rattle.std.specs.Prelude.{max, min}
use Rattle.std.proofs.Math.Nat.{pow-suc}
use Rattle.std.proofs.Math.Pow.{pow_mono}

-- The two sides have l and r pairs and are a and b deep, and m is the greater depth. All pairs can be counted, so the depth can.
pub below_power : (l r a b m all depth : ℕ) → l < 2 ^ a → r < 2 ^ b → a ≤ l → b ≤ r → m ≡ max a b → all ≡ l + suc r → all < 2 ^ 64 → depth ≡ min (m + 1) (2 ^ 64 - 1) → all < 2 ^ depth
below_power l r a b m all depth left right la rb greater count fits is =
    let same : depth ≡ suc m = omega arith in
    let am : a ≤ m = omega arith in
    let bm : b ≤ m = omega arith in
    let below : all < 2 ^ suc m = omega (arith, pow-suc 2 m, pow_mono am, pow_mono bm) in
    subst (λ n. all < 2 ^ n) (sym same) below
