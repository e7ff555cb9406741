-- A table that has a cell for each step of each client: a list of rows, of which each has the steps of one client.
use Rattle.std.specs.Prelude.{◌<◌, ℕ, List, [], length, get_or, set}

-- the row of a client: empty where there is no such client
abbrev pub row_of : {A : Type 0} → List (List A) → ℕ → List A
row_of rows client = get_or rows client []

-- the cell of a step: empty where there is none
abbrev pub cell_at : {A : Type 0} → A → List (List A) → ℕ → ℕ → A
cell_at empty rows client step = get_or (row_of rows client) step empty

-- the table with another cell of a step
abbrev pub with_cell : {A : Type 0} → ℕ → ℕ → A → List (List A) → List (List A)
with_cell client step cell rows = set rows client (set (row_of rows client) step cell)

-- there is a cell for the step
pub record IsInside {A : Type 0} (rows : List (List A)) (client step : ℕ) : Type 0 where
  pub row : client < length rows
  pub cell : step < length (row_of rows client)
