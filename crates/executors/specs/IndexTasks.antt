-- What the tasks of indices do to a state: to create, to delete, to set the replicas, to open and to close. Of
-- Elasticsearch (`org.elasticsearch.cluster.metadata`) are the tasks and what refuses them: `MetadataCreateIndexService`
-- checks the name of an index and that nothing has it, `MetadataDeleteIndexService` takes its aliases with it,
-- `MetadataUpdateSettingsService` lets the replicas change and the shards not, `MetadataIndexStateService` opens and
-- closes. The order of the checks, what each task changes of an index and of its versions, and the replica maximum of
-- 1,000 are this project's own.
use Rattle.std.specs.Prelude.{ℕ, ◌+◌, ◌==◌, Bool, true, not, ◌||◌, List, [], Some, None, Option, is_some, nat_lt, bytes_eq, codes, if◌then◌else◌}
use Rattle.std.specs.Bool.{beq}
use Rattle.plain_data.specs.Pairs.{lookup, with, without}
use Rattle.meta_state.specs.declared.index_metadata.IndexMetadata.{IndexMetadata}
use Rattle.meta_state.specs.declared.cluster_state.ClusterState.{ClusterState}
use Rattle.meta_state.specs.Aliases.{has_alias}
use Rattle.meta_state.specs.Names.{name_fault}
use Rattle.executors.specs.declared.refusals.TaskRefusal.{TaskRefusal}
use Rattle.executors.specs.declared.refusals.TaskRefusal.TheVariants.{Exists, NotFound, InvalidName, FinalSetting, BadValue, AliasClash}

abbrev pub has_index : ClusterState → List ℕ → Bool
has_index state index = is_some (lookup index state.metadata.indices)

-- a state with other indices
abbrev pub state_with_indices : ClusterState → List (List ℕ × IndexMetadata) → ClusterState
state_with_indices state indices = record state { metadata = record state.metadata { indices = indices } }

-- a state with an index in place of the one that has its name
abbrev pub with_index : ClusterState → List ℕ → IndexMetadata → ClusterState
with_index state name index = state_with_indices state (with name index state.metadata.indices)

-- ---- creation

-- whether an index may not have so many shards and replicas: 1 to 1,024, and 0 to 1,000
abbrev pub is_out_of_range : ℕ → ℕ → Bool
is_out_of_range shards replicas = nat_lt shards 1 || (nat_lt 1024 shards || nat_lt 1000 replicas)

-- why an index may not be created, by the first check that fails
abbrev pub create_refusal : ClusterState → List ℕ → ℕ → ℕ → Option TaskRefusal
create_refusal state index shards replicas =
    if is_some (name_fault index) then Some InvalidName else
    (if has_index state index then Some Exists else
    (if has_alias index state.metadata.indices then Some AliasClash else
    (if is_out_of_range shards replicas then Some BadValue else None)))

-- an index as it is created: open, each of its versions 1, without aliases
abbrev pub new_index : ℕ → ℕ → ℕ → IndexMetadata
new_index id shards replicas = record {
  id = id;
  version = 1;
  settings_version = 1;
  aliases_version = 1;
  opened = true;
  shards = shards;
  replicas = replicas;
  aliases = [];
}

-- the state with a new index, whose identifier is the count of indices created so far
abbrev pub created_in : ClusterState → List ℕ → ℕ → ℕ → ClusterState
created_in state index shards replicas = record state {
  metadata = record state.metadata {
    created = state.metadata.created + 1;
    indices = with index (new_index (state.metadata.created + 1) shards replicas) state.metadata.indices;
  };
}

-- why an index may not be deleted, opened or closed: it isn't there
abbrev pub missing_refusal : ClusterState → List ℕ → Option TaskRefusal
missing_refusal state index = if has_index state index then None else Some NotFound

-- ---- deletion

-- the state without an index, whose aliases go with it
abbrev pub deleted_in : ClusterState → List ℕ → ClusterState
deleted_in state index = state_with_indices state (without index state.metadata.indices)

-- ---- settings of an index

abbrev pub is_shards_key : List ℕ → Bool
is_shards_key key = bytes_eq key (codes "index.number_of_shards")

abbrev pub is_replicas_key : List ℕ → Bool
is_replicas_key key = bytes_eq key (codes "index.number_of_replicas")

-- why a setting of an index may not be changed so, by the first check that fails
abbrev pub index_setting_refusal : ClusterState → List ℕ → List ℕ → ℕ → Option TaskRefusal
index_setting_refusal state index key value =
    if not (has_index state index) then Some NotFound else
    (if not (is_shards_key key || is_replicas_key key) then Some BadValue else
    (if is_shards_key key then Some FinalSetting else
    (if nat_lt 1000 value then Some BadValue else None)))

-- an index with other replicas
abbrev pub with_replicas : IndexMetadata → ℕ → IndexMetadata
with_replicas index replicas = record index {
  version = index.version + 1;
  settings_version = index.settings_version + 1;
  replicas = replicas;
}

abbrev pub replicas_at : ClusterState → List ℕ → ℕ → Option IndexMetadata → ClusterState
replicas_at state name replicas None = state
replicas_at state name replicas (Some index) =
    if index.replicas == replicas then state else with_index state name (with_replicas index replicas)

-- the state with other replicas of an index; where they don't differ nothing changes
abbrev pub replicas_in : ClusterState → List ℕ → ℕ → ClusterState
replicas_in state name replicas = replicas_at state name replicas (lookup name state.metadata.indices)

-- ---- opening and closing

-- an index opened or closed
abbrev pub with_opened : IndexMetadata → Bool → IndexMetadata
with_opened index opened = record index { version = index.version + 1; opened = opened }

abbrev pub opened_at : ClusterState → List ℕ → Bool → Option IndexMetadata → ClusterState
opened_at state name opened None = state
opened_at state name opened (Some index) =
    if beq index.opened opened then state else with_index state name (with_opened index opened)

-- the state with an index opened or closed; where it is so already nothing changes
abbrev pub opened_in : ClusterState → List ℕ → Bool → ClusterState
opened_in state name opened = opened_at state name opened (lookup name state.metadata.indices)
