-- A walk over links by their index: the places before the index are done, and the others are as they were.
use Rattle.std.specs.Prelude.{◌≡◌, ◌+◌, ◌<◌, ℕ, zero, suc, List, [], ◌∷◌, length, map}
use Rattle.std.specs.List.{AllByRecursion, AllZip, slice_index_or, slice_set}
use Rattle.std.proofs.Common.{subst, add-one, arith}
use Rattle.publication.specs.Fours.{AllFour}
use Rattle.publication.specs.Threes.{AllThree}

-- the links by what is read off each, before and now, and a value for each, before and now
abbrev pub HasGone : {L M W : Type 0} → (L → M) → (M → M → W → W → Type 0) → ℕ → List L → List L → List W → List W → Type 0
HasGone f R zero olds nows ws zs = (nows ≡ olds) × (zs ≡ ws)
HasGone f R (suc i) (old ∷ olds) (now ∷ nows) (w ∷ ws) (z ∷ zs) = R (f old) (f now) w z × HasGone f R i olds nows ws zs
HasGone f R (suc i) _ _ _ _ = ⊥

-- one place more
gone_next : {L M W : Type 0} (f : L → M) (R : M → M → W → W → Type 0) (i : ℕ) (olds nows : List L) (ws zs : List W) (d now : L) (e z : W)
    → HasGone f R i olds nows ws zs → i < length nows → i < length zs → R (f (slice_index_or nows i d)) (f now) (slice_index_or zs i e) z
    → HasGone f R (suc i) olds (slice_set nows i now) ws (slice_set zs i z)
gone_next f R zero olds [] ws zs d now e z gone lt lz r = absurd (omega arith)
gone_next f R zero olds (y ∷ ys) ws [] d now e z gone lt lz r = absurd (omega arith)
gone_next f R zero [] (y ∷ ys) ws (v ∷ vs) d now e z gone lt lz r = absurd cc
gone_next f R zero (x ∷ xs) (y ∷ ys) [] (v ∷ vs) d now e z gone lt lz r = absurd cc
gone_next f R zero (x ∷ xs) (y ∷ ys) (w ∷ ws) (v ∷ vs) d now e z gone lt lz r =
    let same_link : y ≡ x = cc in
    let same_value : v ≡ w = cc in
    (subst (λ o. R (f o) (f now) w z) same_link (subst (λ o. R (f y) (f now) o z) same_value r), (cc, cc))
gone_next f R (suc i) (x ∷ xs) (y ∷ ys) (w ∷ ws) (v ∷ vs) d now e z gone lt lz r =
    (gone.0, gone_next f R i xs ys ws vs d now e z gone.1 (omega arith) (omega arith) r)
gone_next f R (suc i) [] nows ws zs d now e z gone lt lz r = absurd gone
gone_next f R (suc i) (x ∷ xs) [] ws zs d now e z gone lt lz r = absurd gone
gone_next f R (suc i) (x ∷ xs) (y ∷ ys) [] zs d now e z gone lt lz r = absurd gone
gone_next f R (suc i) (x ∷ xs) (y ∷ ys) (w ∷ ws) [] d now e z gone lt lz r = absurd gone

pub gone_on : {L M W : Type 0} (f : L → M) (R : M → M → W → W → Type 0) (i : ℕ) (olds nows : List L) (ws zs : List W) (d now : L) (e z : W)
    → HasGone f R i olds nows ws zs → i < length nows → i < length zs → R (f (slice_index_or nows i d)) (f now) (slice_index_or zs i e) z
    → HasGone f R (i + 1) olds (slice_set nows i now) ws (slice_set zs i z)
gone_on f R i olds nows ws zs d now e z gone lt lz r = rw add-one (gone_next f R i olds nows ws zs d now e z gone lt lz r)

-- all places
pub gone_through : {L M W : Type 0} (f : L → M) (R : M → M → W → W → Type 0) (i : ℕ) (olds nows : List L) (ws zs : List W) → HasGone f R i olds nows ws zs
    → length nows ≡ i → length zs ≡ i → AllFour R (map f olds) (map f nows) ws zs
gone_through f R zero [] [] [] [] gone ln lz = tt
gone_through f R zero olds (y ∷ ys) ws zs gone ln lz = absurd (omega arith)
gone_through f R zero olds [] ws (v ∷ vs) gone ln lz = absurd (omega arith)
gone_through f R zero (x ∷ xs) [] ws [] gone ln lz = absurd cc
gone_through f R zero [] [] (w ∷ ws) [] gone ln lz = absurd cc
gone_through f R (suc i) (x ∷ xs) (y ∷ ys) (w ∷ ws) (v ∷ vs) gone ln lz = (gone.0, gone_through f R i xs ys ws vs gone.1 (omega arith) (omega arith))
gone_through f R (suc i) [] nows ws zs gone ln lz = absurd gone
gone_through f R (suc i) (x ∷ xs) [] ws zs gone ln lz = absurd gone
gone_through f R (suc i) (x ∷ xs) (y ∷ ys) [] zs gone ln lz = absurd gone
gone_through f R (suc i) (x ∷ xs) (y ∷ ys) (w ∷ ws) [] gone ln lz = absurd gone

-- all places, of which each value before counts for nothing
pub three_of_four : {X Y Z W : Type 0} (R : X → Y → W → Type 0) (xs : List X) (ys : List Y) (zs : List Z) (ws : List W)
    → AllFour (λ x y z w. R x y w) xs ys zs ws → AllThree R xs ys ws
three_of_four R [] [] [] [] all = tt
three_of_four R (x ∷ xs) (y ∷ ys) (z ∷ zs) (w ∷ ws) all = (all.0, three_of_four R xs ys zs ws all.1)
three_of_four R [] [] [] (w ∷ ws) all = absurd all
three_of_four R [] [] (z ∷ zs) ws all = absurd all
three_of_four R [] (y ∷ ys) zs ws all = absurd all
three_of_four R (x ∷ xs) [] zs ws all = absurd all
three_of_four R (x ∷ xs) (y ∷ ys) [] ws all = absurd all
three_of_four R (x ∷ xs) (y ∷ ys) (z ∷ zs) [] all = absurd all

-- what held of a link and its value before the walk holds of those at its index
pub still : {L M W : Type 0} (f : L → M) (R : M → M → W → W → Type 0) (Q : M → W → Type 0) (i : ℕ) (olds nows : List L) (ws zs : List W) (d : L) (e : W)
    → HasGone f R i olds nows ws zs → AllZip Q (map f olds) ws → i < length nows → Q (f (slice_index_or nows i d)) (slice_index_or zs i e)
still f R Q zero olds [] ws zs d e gone all lt = absurd (omega arith)
still f R Q zero [] (y ∷ ys) ws zs d e gone all lt = absurd cc
still f R Q zero (x ∷ xs) (y ∷ ys) [] zs d e gone all lt = absurd all
still f R Q zero (x ∷ xs) (y ∷ ys) (w ∷ ws) [] d e gone all lt = absurd cc
still f R Q zero (x ∷ xs) (y ∷ ys) (w ∷ ws) (v ∷ vs) d e gone all lt =
    let same_link : x ≡ y = cc in
    let same_value : w ≡ v = cc in
    subst (λ o. Q (f o) v) same_link (subst (λ o. Q (f x) o) same_value all.0)
still f R Q (suc i) (x ∷ xs) (y ∷ ys) (w ∷ ws) (v ∷ vs) d e gone all lt = still f R Q i xs ys ws vs d e gone.1 all.1 (omega arith)
still f R Q (suc i) [] nows ws zs d e gone all lt = absurd gone
still f R Q (suc i) (x ∷ xs) [] ws zs d e gone all lt = absurd gone
still f R Q (suc i) (x ∷ xs) (y ∷ ys) [] zs d e gone all lt = absurd gone
still f R Q (suc i) (x ∷ xs) (y ∷ ys) (w ∷ ws) [] d e gone all lt = absurd gone

-- what held of a link
pub still_link : {L M W : Type 0} (f : L → M) (R : M → M → W → W → Type 0) (P : M → Type 0) (i : ℕ) (olds nows : List L) (ws zs : List W) (d : L)
    → HasGone f R i olds nows ws zs → AllByRecursion P (map f olds) → i < length nows → P (f (slice_index_or nows i d))
still_link f R P zero olds [] ws zs d gone all lt = absurd (omega arith)
still_link f R P zero [] (y ∷ ys) ws zs d gone all lt = absurd cc
still_link f R P zero (x ∷ xs) (y ∷ ys) ws zs d gone all lt = let same_link : x ≡ y = cc in subst (λ o. P (f o)) same_link all.0
still_link f R P (suc i) (x ∷ xs) (y ∷ ys) (w ∷ ws) (v ∷ vs) d gone all lt = still_link f R P i xs ys ws vs d gone.1 all.1 (omega arith)
still_link f R P (suc i) [] nows ws zs d gone all lt = absurd gone
still_link f R P (suc i) (x ∷ xs) [] ws zs d gone all lt = absurd gone
still_link f R P (suc i) (x ∷ xs) (y ∷ ys) [] zs d gone all lt = absurd gone
still_link f R P (suc i) (x ∷ xs) (y ∷ ys) (w ∷ ws) [] d gone all lt = absurd gone

pub each_itself : {L M : Type 0} (f : L → M) (S : M → M → Type 0) → ((x : M) → S x x) → (xs ys : List L) → ys ≡ xs → AllZip S (map f xs) (map f ys)
each_itself f S self [] [] e = tt
each_itself f S self [] (y ∷ ys) e = absurd cc
each_itself f S self (x ∷ xs) [] e = absurd cc
each_itself f S self (x ∷ xs) (y ∷ ys) e =
    let same : x ≡ y = cc in
    (subst (λ o. S (f x) (f o)) same (self (f x)), each_itself f S self xs ys cc)

-- a walk that ends at an index, where a link is changed as the walk may change it, though without a value
pub stopped : {L M W : Type 0} (f : L → M) (R : M → M → W → W → Type 0) (S : M → M → Type 0) → ((x : M) → S x x) → ((x y : M) (w z : W) → R x y w z → S x y)
    → (i : ℕ) (olds nows : List L) (ws zs : List W) (d now : L) → HasGone f R i olds nows ws zs → i < length nows → S (f (slice_index_or nows i d)) (f now)
    → AllZip S (map f olds) (map f (slice_set nows i now))
stopped f R S self done zero olds [] ws zs d now gone lt s = absurd (omega arith)
stopped f R S self done zero [] (y ∷ ys) ws zs d now gone lt s = absurd cc
stopped f R S self done zero (x ∷ xs) (y ∷ ys) ws zs d now gone lt s =
    let same : y ≡ x = cc in
    (subst (λ o. S (f o) (f now)) same s, each_itself f S self xs ys cc)
stopped f R S self done (suc i) (x ∷ xs) (y ∷ ys) (w ∷ ws) (v ∷ vs) d now gone lt s =
    (done (f x) (f y) w v gone.0, stopped f R S self done i xs ys ws vs d now gone.1 (omega arith) s)
stopped f R S self done (suc i) [] nows ws zs d now gone lt s = absurd gone
stopped f R S self done (suc i) (x ∷ xs) [] ws zs d now gone lt s = absurd gone
stopped f R S self done (suc i) (x ∷ xs) (y ∷ ys) [] zs d now gone lt s = absurd gone
stopped f R S self done (suc i) (x ∷ xs) (y ∷ ys) (w ∷ ws) [] d now gone lt s = absurd gone
