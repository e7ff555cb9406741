-- A table after one of its cells is set: that one is as it was set, all others are as before, and each row keeps its
-- length.
use Rattle.std.proofs.Common.{◌≡◌, ◌≢◌, ◌<◌, ◌⊎◌, ◌∙◌, ℕ, eqb, true, false, List, [], get_or, set, length, refl, ap, sym, subst, inl, inr}
use Rattle.std.proofs.lemmas.Bool.Decides.{eqb_tells}
use Rattle.std.proofs.lemmas.List.{get_or-set_same, get_or-set_other}
use Rattle.std.proofs.Math.ListN.{length-set}
use Rattle.plain_data.specs.Cells.{IsInside, cell_at, row_of, with_cell}

-- ---- which is meant

either : (a b : ℕ) → ((eqb a b ≡ true) × (a ≡ b)) ⊎ ((eqb a b ≡ false) × (a ≢ b)) → (a ≡ b) ⊎ (a ≢ b)
either a b (inl told) = inl told.1
either a b (inr told) = inr told.1

pub same_or_not : (a b : ℕ) → (a ≡ b) ⊎ (a ≢ b)
same_or_not a b = either a b (eqb_tells a b)

-- ---- rows

row_of-with_cell_same : {A : Type 0} (c s : ℕ) (cell : A) (rows : List (List A)) (client : ℕ) → c < length rows → client ≡ c
    → row_of (with_cell c s cell rows) client ≡ set (row_of rows client) s cell
row_of-with_cell_same {A} c s cell rows client within same =
    subst (λ (n : ℕ). row_of (with_cell c s cell rows) n ≡ set (row_of rows n) s cell) (sym same)
    (get_or-set_same rows c (set (row_of rows c) s cell) [] within)

row_of-with_cell_other : {A : Type 0} (c s : ℕ) (cell : A) (rows : List (List A)) (client : ℕ) → client ≢ c → row_of (with_cell c s cell rows) client ≡ row_of rows client
row_of-with_cell_other {A} c s cell rows client apart = get_or-set_other rows c client (set (row_of rows c) s cell) [] apart

-- ---- cells

pub cell_at-with_cell_same : {A : Type 0} (empty : A) (c s : ℕ) (cell : A) (rows : List (List A)) → IsInside rows c s → cell_at empty (with_cell c s cell rows) c s ≡ cell
cell_at-with_cell_same {A} empty c s cell rows within =
    ap (λ (row : List A). get_or row s empty) (row_of-with_cell_same c s cell rows c within.row refl)
    ∙ get_or-set_same (row_of rows c) s cell empty within.cell

by_client : {A : Type 0} (empty : A) (c s : ℕ) (cell : A) (rows : List (List A)) (client step : ℕ) → IsInside rows c s → (client ≡ c → step ≢ s) → (client ≡ c) ⊎ (client ≢ c)
    → cell_at empty (with_cell c s cell rows) client step ≡ cell_at empty rows client step
by_client {A} empty c s cell rows client step within apart (inl same) =
    ap (λ (row : List A). get_or row step empty) (row_of-with_cell_same c s cell rows client within.row same)
    ∙ get_or-set_other (row_of rows client) s step cell empty (apart same)
by_client {A} empty c s cell rows client step within apart (inr differs) =
    ap (λ (row : List A). get_or row step empty) (row_of-with_cell_other c s cell rows client differs)

-- a step of another client, or another step of the same one
pub cell_at-with_cell_other : {A : Type 0} (empty : A) (c s : ℕ) (cell : A) (rows : List (List A)) (client step : ℕ) → IsInside rows c s → (client ≡ c → step ≢ s)
    → cell_at empty (with_cell c s cell rows) client step ≡ cell_at empty rows client step
cell_at-with_cell_other empty c s cell rows client step within apart = by_client empty c s cell rows client step within apart (same_or_not client c)

-- ---- which steps have cells

row_length : {A : Type 0} (c s : ℕ) (cell : A) (rows : List (List A)) (client : ℕ) → c < length rows → (client ≡ c) ⊎ (client ≢ c)
    → length (row_of (with_cell c s cell rows) client) ≡ length (row_of rows client)
row_length {A} c s cell rows client within (inl same) =
    ap (λ (row : List A). length row) (row_of-with_cell_same c s cell rows client within same) ∙ length-set (row_of rows client) s cell
row_length {A} c s cell rows client within (inr differs) = ap (λ (row : List A). length row) (row_of-with_cell_other c s cell rows client differs)

pub length-row_of-with_cell : {A : Type 0} (c s : ℕ) (cell : A) (rows : List (List A)) (client : ℕ) → c < length rows
    → length (row_of (with_cell c s cell rows) client) ≡ length (row_of rows client)
length-row_of-with_cell c s cell rows client within = row_length c s cell rows client within (same_or_not client c)

pub IsInside-with_cell : {A : Type 0} (c s : ℕ) (cell : A) (rows : List (List A)) (client step : ℕ) → IsInside rows c s → IsInside rows client step
    → IsInside (with_cell c s cell rows) client step
IsInside-with_cell c s cell rows client step within at = record {
  row = subst (λ (n : ℕ). client < n) (sym (length-set rows c (set (row_of rows c) s cell))) at.row;
  cell = subst (λ (n : ℕ). step < n) (sym (length-row_of-with_cell c s cell rows client within.row)) at.cell;
}
