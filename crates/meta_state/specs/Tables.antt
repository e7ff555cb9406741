-- The table of aliases that stands beside the indices: for each alias the set of the names of the indices that have it.
-- It says nothing that the indices don't say, so that it is no part of what an `IndexTable` is seen as.
use Rattle.std.specs.Prelude.{◌≡◌, ℕ, Bool, true, false, List, [], ◌∷◌, Some, None, Option, is_some, if◌then◌else◌}
use Rattle.plain_data.specs.Pairs.{lookup, with, without, InOrder}
use Rattle.meta_state.specs.declared.index_metadata.IndexMetadata.{IndexMetadata}

-- a set of names, and whether it has one
abbrev pub Names : Type 0
Names = List (List ℕ × Unit {0})

abbrev pub has : List ℕ → Names → Bool
has name names = is_some (lookup name names)

-- the aliases of the index of a name; where there is none, there are no aliases
abbrev pub aliases_of : Option IndexMetadata → Names
aliases_of None = []
aliases_of (Some index) = index.aliases

abbrev pub aliases_at : List ℕ → List (List ℕ × IndexMetadata) → Names
aliases_at name indices = aliases_of (lookup name indices)

-- the names that a table lists under an alias; one that isn't in the table has none
abbrev pub listed : Option Names → Names
listed None = []
listed (Some names) = names

-- whether a table lists a name under an alias
abbrev pub has_names : Option Names → Bool
has_names None = false
has_names (Some []) = false
has_names (Some (p ∷ ps)) = true

abbrev pub holders : List ℕ → List (List ℕ × Names) → Names
holders alias table = listed (lookup alias table)

-- a table says which indices have which alias, as the indices themselves do
pub record IsTable (table : List (List ℕ × Names)) (indices : List (List ℕ × IndexMetadata)) : Type 0 where
  pub indices_in_order : InOrder indices
  pub aliases_in_order : InOrder table
  pub holders_in_order : (alias : List ℕ) → InOrder (holders alias table)
  pub agrees : (alias name : List ℕ) → has name (holders alias table) ≡ has alias (aliases_at name indices)

-- two sets of names differ at most in one
abbrev pub AgreeBut : List ℕ → Names → Names → Type 0
AgreeBut one names others = (name : List ℕ) → (name ≡ one → ⊥) → has name names ≡ has name others

-- ---- steps of a table

-- a table with an index under an alias
abbrev pub entered : List ℕ → List ℕ → List (List ℕ × Names) → List (List ℕ × Names)
entered name alias table = with alias (with name tt (holders alias table)) table

-- a table with other names under an alias, which goes where it has none
abbrev pub relisted : List ℕ → Names → List (List ℕ × Names) → List (List ℕ × Names)
relisted alias [] table = without alias table
relisted alias (p ∷ ps) table = with alias (p ∷ ps) table

-- a table without an index under an alias
abbrev pub struck : List ℕ → List ℕ → List (List ℕ × Names) → List (List ℕ × Names)
struck name alias table = relisted alias (without name (holders alias table)) table

-- a table that says of an index and one alias what the index's aliases say
abbrev pub retold : List ℕ → List ℕ → Names → List (List ℕ × Names) → List (List ℕ × Names)
retold name alias aliases table = if has alias aliases then entered name alias table else struck name alias table

-- a table with an index under each of some aliases, and without it
abbrev pub all_entered : List ℕ → Names → List (List ℕ × Names) → List (List ℕ × Names)
all_entered name [] table = table
all_entered name (p ∷ ps) table = all_entered name ps (entered name p.0 table)

abbrev pub all_struck : List ℕ → Names → List (List ℕ × Names) → List (List ℕ × Names)
all_struck name [] table = table
all_struck name (p ∷ ps) table = all_struck name ps (struck name p.0 table)
