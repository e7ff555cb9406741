-- What the tasks of aliases do to a state. That an alias may not have the name of an index is Elasticsearch's
-- (`org.elasticsearch.cluster.metadata.MetadataIndexAliasesService`); that it meets all rules of index names, the order
-- of the checks, and what a task changes of an index and of its versions are this project's own.
use Rattle.std.specs.Prelude.{ℕ, ◌+◌, Bool, false, not, List, Some, None, Option, is_some, if◌then◌else◌}
use Rattle.plain_data.specs.Pairs.{lookup, with, without}
use Rattle.meta_state.specs.declared.index_metadata.IndexMetadata.{IndexMetadata}
use Rattle.meta_state.specs.declared.cluster_state.ClusterState.{ClusterState}
use Rattle.meta_state.specs.Aliases.{is_aliased}
use Rattle.meta_state.specs.Names.{name_fault}
use Rattle.executors.specs.declared.refusals.TaskRefusal.{TaskRefusal}
use Rattle.executors.specs.declared.refusals.TaskRefusal.TheVariants.{NotFound, InvalidName, AliasClash}
use Rattle.executors.specs.IndexTasks.{has_index, with_index}

-- ---- addition

-- why an alias may not be added to an index, by the first check that fails
abbrev pub add_refusal : ClusterState → List ℕ → List ℕ → Option TaskRefusal
add_refusal state index alias =
    if not (has_index state index) then Some NotFound else
    (if is_some (name_fault alias) then Some InvalidName else
    (if has_index state alias then Some AliasClash else None))

-- an index with one alias more
abbrev pub with_alias : IndexMetadata → List ℕ → IndexMetadata
with_alias index alias = record index {
  version = index.version + 1;
  aliases_version = index.aliases_version + 1;
  aliases = with alias tt index.aliases;
}

abbrev pub added_at : ClusterState → List ℕ → List ℕ → Option IndexMetadata → ClusterState
added_at state name alias None = state
added_at state name alias (Some index) =
    if is_aliased alias index then state else with_index state name (with_alias index alias)

-- the state with an alias added to an index; where the index has it already nothing changes
abbrev pub added_in : ClusterState → List ℕ → List ℕ → ClusterState
added_in state name alias = added_at state name alias (lookup name state.metadata.indices)

-- ---- removal

-- whether an index is there and has an alias
abbrev pub is_aliased_at : List ℕ → Option IndexMetadata → Bool
is_aliased_at alias None = false
is_aliased_at alias (Some index) = is_aliased alias index

abbrev pub remove_refusal : ClusterState → List ℕ → List ℕ → Option TaskRefusal
remove_refusal state index alias = if is_aliased_at alias (lookup index state.metadata.indices) then None else Some NotFound

-- an index with one alias less
abbrev pub without_alias : IndexMetadata → List ℕ → IndexMetadata
without_alias index alias = record index {
  version = index.version + 1;
  aliases_version = index.aliases_version + 1;
  aliases = without alias index.aliases;
}

abbrev pub removed_at : ClusterState → List ℕ → List ℕ → Option IndexMetadata → ClusterState
removed_at state name alias None = state
removed_at state name alias (Some index) = with_index state name (without_alias index alias)

-- the state with an alias taken from an index that has it
abbrev pub removed_in : ClusterState → List ℕ → List ℕ → ClusterState
removed_in state name alias = removed_at state name alias (lookup name state.metadata.indices)
