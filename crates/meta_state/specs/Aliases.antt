-- Which indices have an alias. An alias may stand on several indices.
use Rattle.std.specs.Prelude.{ℕ, Bool, List, map, is_some}
use Rattle.std.specs.List.{filter, list_any}
use Rattle.plain_data.specs.Pairs.{lookup}
use Rattle.meta_state.specs.declared.index_metadata.IndexMetadata.{IndexMetadata}

abbrev pub is_aliased : List ℕ → IndexMetadata → Bool
is_aliased alias index = is_some (lookup alias index.aliases)

-- whether some index has an alias
abbrev pub has_alias : List ℕ → List (List ℕ × IndexMetadata) → Bool
has_alias alias indices = list_any (λ p. is_aliased alias p.1) indices

-- the names of the indices that have an alias, in byte order
abbrev pub names_with : List ℕ → List (List ℕ × IndexMetadata) → List (List ℕ)
names_with alias indices = map (λ p. p.0) (filter (λ p. is_aliased alias p.1) indices)
