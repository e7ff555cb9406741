-- What a look at a state finds. The looks are this project's own.
use Rattle.std.specs.Prelude.{ℕ, List, [], ◌∷◌, Option, Some, None}
use Rattle.plain_data.specs.Pairs.{lookup}
use Rattle.meta_state.specs.declared.index_metadata.IndexMetadata.{IndexMetadata}
use Rattle.meta_state.specs.declared.looks.Look.{Look}
use Rattle.meta_state.specs.declared.looks.Look.TheVariants as look
use Rattle.meta_state.specs.declared.looks.Found.{Found}
use Rattle.meta_state.specs.declared.looks.Found.TheVariants as found
use Rattle.meta_state.specs.declared.cluster_state.ClusterState.{ClusterState}
use Rattle.meta_state.specs.Aliases.{names_with}

abbrev pub found_index : Option IndexMetadata → Found
found_index None = found.Missing
found_index (Some index) = found.Index index.id index.opened index.shards index.replicas

-- an alias that no index has is missing
abbrev pub found_names : List (List ℕ) → Found
found_names [] = found.Missing
found_names (name ∷ names) = found.Names (name ∷ names)

abbrev pub found_value : Option (List ℕ) → Found
found_value None = found.Missing
found_value (Some value) = found.Value value

-- what a look finds in a state
unfoldable pub found_at : ClusterState → Look → Found
found_at state (look.Index name) = found_index (lookup name state.metadata.indices)
found_at state (look.Alias alias) = found_names (names_with alias state.metadata.indices)
found_at state (look.Setting key) = found_value (lookup key state.metadata.settings)
