-- The cluster state: the one in which a cluster begins, the one of a node that received none, and room to rise.
use Rattle.std.specs.Prelude.{ℕ, ◌<◌, ◌^◌, List, [], ◌∷◌}
use Rattle.std.specs.List.{AllByRecursion}
use Rattle.plain_data.specs.Pairs.{with}
use Rattle.meta_state.specs.declared.node_info.NodeInfo.{NodeInfo}
use Rattle.meta_state.specs.declared.index_metadata.IndexMetadata.{IndexMetadata}
use Rattle.meta_state.specs.declared.cluster_metadata.Metadata.{Metadata}
use Rattle.meta_state.specs.declared.cluster_state.ClusterState.{ClusterState}

-- metadata without indices and settings
abbrev pub no_metadata : ℕ → Metadata
no_metadata v = record { version = v; created = 0; settings = []; indices = [] }

-- the nodes under their names, put in one by one
abbrev pub with_nodes : List NodeInfo → List (List ℕ × NodeInfo) → List (List ℕ × NodeInfo)
with_nodes [] made = made
with_nodes (node ∷ nodes) made = with_nodes nodes (with node.name node made)

abbrev pub first_name : List NodeInfo → List ℕ
first_name [] = []
first_name (node ∷ _) = node.name

-- the state in which a cluster begins: its first node is the master
abbrev pub first_state : List ℕ → List NodeInfo → ClusterState
first_state cluster nodes = record {
  cluster = cluster;
  id = 1;
  term = 1;
  version = 1;
  master = first_name nodes;
  nodes = with_nodes nodes [];
  metadata = no_metadata 1;
}

-- the state of a node that has received none
abbrev pub zero_state : List ℕ → ClusterState
zero_state cluster = record {
  cluster = cluster;
  id = 0;
  term = 0;
  version = 0;
  master = [];
  nodes = [];
  metadata = no_metadata 0;
}

-- every counter of an index is below 2^63
pub record IsRoomyIndex (index : IndexMetadata) : Type 0 where
  pub version : index.version < 2 ^ 63
  pub settings_version : index.settings_version < 2 ^ 63
  pub aliases_version : index.aliases_version < 2 ^ 63

abbrev pub AreRoomy : List (List ℕ × IndexMetadata) → Type 0
AreRoomy indices = AllByRecursion (λ p. IsRoomyIndex p.1) indices

-- every counter of a state is below 2^63, so that it can rise
pub record IsRoomy (state : ClusterState) : Type 0 where
  pub id : state.id < 2 ^ 63
  pub term : state.term < 2 ^ 63
  pub version : state.version < 2 ^ 63
  pub metadata_version : state.metadata.version < 2 ^ 63
  pub created : state.metadata.created < 2 ^ 63
  pub indices : AreRoomy state.metadata.indices
