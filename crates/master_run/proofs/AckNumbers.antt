-- The numbers of acknowledgements: each step of a lane has one, which is below how many steps there are, and no two have
-- the same.
use Rattle.std.specs.Prelude.{◌≡◌, ℕ, zero, suc, ◌+◌, ◌<◌, List, [], ◌∷◌, sum, take, IsTrue, refl}
use Rattle.std.proofs.Common.{ap, arith}
use Rattle.std.proofs.lemmas.Bool.{ltb-true}
use Rattle.std.proofs.lemmas.List.Sums.{sum_by-cons}
use Rattle.master_run.specs.AckBooks.{ack_number, is_in_lane}

sum_cons : (lane : ℕ) (lanes : List ℕ) → sum (lane ∷ lanes) ≡ lane + sum lanes
sum_cons lane lanes = sum_by-cons (λ (n : ℕ). n) lane lanes

pub number_below : (lanes : List ℕ) (client step : ℕ) → IsTrue (is_in_lane lanes client step) → ack_number lanes client step < sum lanes
number_below [] client step inside = let none : step < 0 = ltb-true step 0 inside in absurd (omega (arith, none))
number_below (lane ∷ lanes) zero step inside =
    let below : step < lane = ltb-true step lane inside in
    let all = sum_cons lane lanes in
    omega (arith, below)
number_below (lane ∷ lanes) (suc client) step inside =
    let rest = number_below lanes client step inside in
    let all = sum_cons lane lanes in
    let first = sum_cons lane (take client lanes) in
    omega (arith, rest)

-- ---- no two steps have the same

pub number_apart : (lanes : List ℕ) (client step other later : ℕ) → IsTrue (is_in_lane lanes client step) → IsTrue (is_in_lane lanes other later)
    → ack_number lanes client step ≡ ack_number lanes other later → (client ≡ other) × (step ≡ later)
number_apart [] client step other later inside also e = let none : step < 0 = ltb-true step 0 inside in absurd (omega (arith, none))
number_apart (lane ∷ lanes) zero step zero later inside also e = let same : 0 + step ≡ 0 + later = e in (refl, omega (arith, same))
number_apart (lane ∷ lanes) zero step (suc other) later inside also e =
    let below : step < lane = ltb-true step lane inside in
    let same : 0 + step ≡ sum (lane ∷ take other lanes) + later = e in
    let all = sum_cons lane (take other lanes) in
    absurd (omega (arith, same))
number_apart (lane ∷ lanes) (suc client) step zero later inside also e =
    let below : later < lane = ltb-true later lane also in
    let same : sum (lane ∷ take client lanes) + step ≡ 0 + later = e in
    let all = sum_cons lane (take client lanes) in
    absurd (omega (arith, same))
number_apart (lane ∷ lanes) (suc client) step (suc other) later inside also e =
    let same : sum (lane ∷ take client lanes) + step ≡ sum (lane ∷ take other lanes) + later = e in
    let one = sum_cons lane (take client lanes) in
    let two = sum_cons lane (take other lanes) in
    let rest = number_apart lanes client step other later inside also (omega (arith, same)) in
    (ap (λ (n : ℕ). suc n) rest.0, rest.1)
