-- A list in a report: the texts of its items joined by commas, and `-` where there is none, or a line for each item. The
-- form is this project's own.
use Rattle.std.specs.Prelude.{ℕ, List, [], ◌∷◌, ◌++◌, codes, decimal}

-- each item behind a comma
abbrev pub more_text : {A : Type 0} → (A → List ℕ) → List A → List ℕ
more_text text_of [] = []
more_text text_of (item ∷ items) = codes "," ++ (text_of item ++ more_text text_of items)

abbrev pub list_text : {A : Type 0} → (A → List ℕ) → List A → List ℕ
list_text text_of [] = codes "-"
list_text text_of (item ∷ items) = text_of item ++ more_text text_of items

abbrev pub numbers_text : List ℕ → List ℕ
numbers_text numbers = list_text decimal numbers

abbrev pub names_text : List (List ℕ) → List ℕ
names_text names = list_text (λ name. name) names

-- a line for each item, one after the other
abbrev pub lines_text : {A : Type 0} → (A → List ℕ) → List A → List ℕ
lines_text line_of [] = []
lines_text line_of (item ∷ items) = line_of item ++ lines_text line_of items
