-- What changed between two states, as listeners are told (Elasticsearch's `ClusterChangedEvent`): lists of names in byte
-- order. An index is the same where its name and its identifier are; which lists there are is this project's own.
use Rattle.std.specs.Prelude.{ℕ, Bool, true, false, not, ◌==◌, ◌&&◌, List, [], ◌∷◌, Option, Some, None, filter, is_some, bytes_eq}
use Rattle.std.specs.Map.{keys_of}
use Rattle.plain_data.specs.Agreements.{with_all}
use Rattle.plain_data.specs.Pairs.{lookup}
use Rattle.meta_state.specs.declared.index_metadata.IndexMetadata.{IndexMetadata}
use Rattle.meta_state.specs.declared.node_info.NodeInfo.{NodeInfo}
use Rattle.meta_state.specs.declared.cluster_state.ClusterState.{ClusterState}
use Rattle.meta_state.specs.Exact.{index_eq}
use Rattle.session_law.specs.declared.node_records.Change.{Change}

-- ---- indices

abbrev pub is_same_index : IndexMetadata → Option IndexMetadata → Bool
is_same_index index None = false
is_same_index index (Some other) = index.id == other.id

abbrev pub is_changed_index : IndexMetadata → Option IndexMetadata → Bool
is_changed_index index None = false
is_changed_index index (Some other) = (index.id == other.id) && not (index_eq index other)

-- the names of the indices whose name and identifier the others lack
abbrev pub lacking : List (List ℕ × IndexMetadata) → List (List ℕ × IndexMetadata) → List (List ℕ)
lacking others indices = keys_of (filter (λ p. not (is_same_index p.1 (lookup p.0 others))) indices)

-- the names of the indices that have other contents under the same name and identifier
abbrev pub changed_since : List (List ℕ × IndexMetadata) → List (List ℕ × IndexMetadata) → List (List ℕ)
changed_since others indices = keys_of (filter (λ p. is_changed_index p.1 (lookup p.0 others)) indices)

-- ---- nodes

abbrev pub unknown_to : List (List ℕ × NodeInfo) → List (List ℕ × NodeInfo) → List (List ℕ)
unknown_to others nodes = keys_of (filter (λ p. not (is_some (lookup p.0 others))) nodes)

-- ---- settings

abbrev pub is_same_value : Option (List ℕ) → Option (List ℕ) → Bool
is_same_value None None = true
is_same_value (Some a) (Some b) = bytes_eq a b
is_same_value _ _ = false

-- the keys that were added, removed or changed
abbrev pub changed_settings : List (List ℕ × List ℕ) → List (List ℕ × List ℕ) → List (List ℕ)
changed_settings old new = filter (λ key. not (is_same_value (lookup key old) (lookup key new))) (keys_of (with_all old new))

unfoldable pub change_between : ClusterState → ClusterState → Change
change_between old new = record {
  created = lacking old.metadata.indices new.metadata.indices;
  deleted = lacking new.metadata.indices old.metadata.indices;
  changed = changed_since old.metadata.indices new.metadata.indices;
  joined = unknown_to old.nodes new.nodes;
  left = unknown_to new.nodes old.nodes;
  settings = changed_settings old.metadata.settings new.metadata.settings;
}
