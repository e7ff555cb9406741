-- What a node's appliers keep of a state: for each alias the names of the indices that have it, for each index its
-- identifier, and for each setting its value. All in byte order. It is this project's own.
use Rattle.std.specs.Prelude.{ℕ, List, [], ◌∷◌, ◌++◌, map, unwrap_or}
use Rattle.plain_data.specs.Pairs.{lookup, with}
use Rattle.meta_state.specs.declared.index_metadata.IndexMetadata.{IndexMetadata}
use Rattle.meta_state.specs.declared.cluster_state.ClusterState.{ClusterState}
use Rattle.session_law.specs.declared.node_records.View.{View}

-- an index with an alias: its name goes behind those that have the alias already
abbrev pub with_name : List ℕ → List ℕ → List (List ℕ × List (List ℕ)) → List (List ℕ × List (List ℕ))
with_name alias index names = with alias (unwrap_or (lookup alias names) [] ++ index ∷ []) names

-- an index with all its aliases
abbrev pub with_aliases : List ℕ → List (List ℕ × Unit {0}) → List (List ℕ × List (List ℕ)) → List (List ℕ × List (List ℕ))
with_aliases index [] names = names
with_aliases index (alias ∷ aliases) names = with_aliases index aliases (with_name alias.0 index names)

-- the indices one after the other, in byte order
abbrev pub with_aliases_of_all : List (List ℕ × IndexMetadata) → List (List ℕ × List (List ℕ)) → List (List ℕ × List (List ℕ))
with_aliases_of_all [] names = names
with_aliases_of_all (index ∷ indices) names = with_aliases_of_all indices (with_aliases index.0 index.1.aliases names)

unfoldable pub views_of : ClusterState → View
views_of state = record {
  aliases = with_aliases_of_all state.metadata.indices [];
  indices = map (λ p. (p.0, p.1.id)) state.metadata.indices;
  settings = state.metadata.settings;
}
