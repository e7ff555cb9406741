-- The names of the indices that have an alias, as an applier lists them: an alias that no index has isn't listed. And the
-- aliases at which the lists of two states may differ: those that an index of a name that may have changed has in either.
-- That an applier keeps these lists is this project's own.
use Rattle.std.specs.Prelude.{ℕ, List, [], ◌∷◌, Option, Some, None}
use Rattle.std.specs.List.{AllByRecursion}
use Rattle.plain_data.specs.Agreements.{with_all}
use Rattle.plain_data.specs.Pairs.{InOrder}
use Rattle.meta_state.specs.declared.index_metadata.IndexMetadata.{IndexMetadata}
use Rattle.meta_state.specs.Aliases.{names_with}
use Rattle.meta_state.specs.Tables.{aliases_at}

-- some names, or nothing where there is none
abbrev pub some_names : List (List ℕ) → Option (List (List ℕ))
some_names [] = None
some_names (name ∷ names) = Some (name ∷ names)

-- the list of an alias
abbrev pub list_of : List (List ℕ × IndexMetadata) → List ℕ → Option (List (List ℕ))
list_of indices alias = some_names (names_with alias indices)

-- the aliases of the indices of some names, put into others
abbrev pub aliases_among : List (List ℕ × IndexMetadata) → List (List ℕ × Unit {0}) → List (List ℕ × Unit {0}) → List (List ℕ × Unit {0})
aliases_among indices [] aliases = aliases
aliases_among indices (name ∷ names) aliases = aliases_among indices names (with_all (aliases_at name.0 indices) aliases)

-- the aliases of each index stand in byte order, each once
abbrev pub AreSetsInOrder : List (List ℕ × IndexMetadata) → Type 0
AreSetsInOrder indices = AllByRecursion (λ p. InOrder p.1.aliases) indices

-- the same of the indices of some names
abbrev pub AreInOrderAt : List (List ℕ × IndexMetadata) → List (List ℕ × Unit {0}) → Type 0
AreInOrderAt indices names = AllByRecursion (λ p. InOrder (aliases_at p.0 indices)) names
