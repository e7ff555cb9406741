-- Things in a list that have names: each a name by the rule of names, and no name twice.
use Rattle.std.specs.Prelude.{◌≡◌, ℕ, false, List, bytes_eq, map, IsTrue}
use Rattle.std.specs.List.{list_all, list_any}
use Rattle.scripts.specs.Names.{is_name, are_distinct}

pub record AreNamed {A : Type 0} (name : A → List ℕ) (all : List A) : Type 0 where
  pub named : IsTrue (list_all (λ a. is_name (name a)) all)
  pub distinct : IsTrue (are_distinct (map name all))

-- what may stand after others
pub record IsNewTo {A : Type 0} (name : A → List ℕ) (before : List A) (a : A) : Type 0 where
  pub named : IsTrue (is_name (name a))
  pub apart : list_any (λ b. bytes_eq (name a) (name b)) before ≡ false
