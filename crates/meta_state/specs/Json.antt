-- The state as JSON: compact, with the members of each object in byte order. The form is this project's own.
use Rattle.std.specs.Prelude.{ℕ, List, [], ◌∷◌, map, codes}
use Rattle.serde_json.specs.Data.{Data, boolean, number, string, array, object, unsigned, Members, no_members, member, put}
use Rattle.serde_json.specs.View.{items_of}
use Rattle.serde_json.specs.Written.{compact_text}
use Rattle.meta_state.specs.declared.node_info.NodeInfo.{NodeInfo}
use Rattle.meta_state.specs.declared.index_metadata.IndexMetadata.{IndexMetadata}
use Rattle.meta_state.specs.declared.cluster_metadata.Metadata.{Metadata}
use Rattle.meta_state.specs.declared.cluster_state.ClusterState.{ClusterState}

abbrev pub count : ℕ → Data
count n = number (unsigned n)

-- a map as an object: each key a member, with the data of its value
abbrev pub with_members : {V : Type 0} → (V → Data) → List (List ℕ × V) → Members → Members
with_members data_of [] members = members
with_members data_of (pair ∷ pairs) members = with_members data_of pairs (put pair.0 (data_of pair.1) members)

-- a set of names as a list in byte order
abbrev pub names_data : List (List ℕ × Unit {0}) → Data
names_data names = array (items_of (map (λ p. string p.0) names))

abbrev pub settings_data : List (List ℕ × List ℕ) → Data
settings_data settings = object (with_members string settings no_members)

unfoldable pub node_data : NodeInfo → Data
node_data node = object (member (codes "eligible") (boolean node.eligible) no_members)

abbrev pub nodes_data : List (List ℕ × NodeInfo) → Data
nodes_data nodes = object (with_members node_data nodes no_members)

unfoldable pub index_data : IndexMetadata → Data
index_data index = object (
    member (codes "aliases") (names_data index.aliases) (
    member (codes "aliases_version") (count index.aliases_version) (
    member (codes "id") (count index.id) (
    member (codes "open") (boolean index.opened) (
    member (codes "replicas") (count index.replicas) (
    member (codes "settings_version") (count index.settings_version) (
    member (codes "shards") (count index.shards) (
    member (codes "version") (count index.version) no_members))))))))

abbrev pub indices_data : List (List ℕ × IndexMetadata) → Data
indices_data indices = object (with_members index_data indices no_members)

unfoldable pub metadata_data : Metadata → Data
metadata_data metadata = object (
    member (codes "created") (count metadata.created) (
    member (codes "indices") (indices_data metadata.indices) (
    member (codes "settings") (settings_data metadata.settings) (
    member (codes "version") (count metadata.version) no_members))))

unfoldable pub state_data : ClusterState → Data
state_data state = object (
    member (codes "cluster") (string state.cluster) (
    member (codes "id") (count state.id) (
    member (codes "master") (string state.master) (
    member (codes "metadata") (metadata_data state.metadata) (
    member (codes "nodes") (nodes_data state.nodes) (
    member (codes "term") (count state.term) (
    member (codes "version") (count state.version) no_members)))))))

-- the text that is written for a state
unfoldable pub state_json : ClusterState → List ℕ
state_json state = compact_text (state_data state)
