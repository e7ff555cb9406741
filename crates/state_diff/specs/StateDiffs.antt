-- Diffs of states, part by part, and what comes of one that is applied to a state. Which state it is, its identifier
-- tells, which stands for a UUID (Elasticsearch's `ClusterState.stateUUID`, and `IncompatibleClusterStateVersionException`).
use Rattle.std.specs.Prelude.{◌≡◌, ℕ, List, Some, None, Option, ◌==◌, if◌then◌else◌}
use Rattle.std.specs.Cmp.Lexicographic.{pointwise}
use Rattle.meta_state.specs.declared.cluster_state.ClusterState.{ClusterState}
use Rattle.meta_state.specs.declared.node_info.NodeInfo.{NodeInfo}
use Rattle.meta_state.specs.Exact.{node_eq}
use Rattle.state_diff.specs.declared.map_diffs.MapDiff.{MapDiff}
use Rattle.state_diff.specs.declared.state_diffs.ApplyRefusal.{ApplyRefusal}
use Rattle.state_diff.specs.declared.state_diffs.ApplyRefusal.TheVariants.{Incompatible, OutOfMemory}
use Rattle.state_diff.specs.declared.state_diffs.DiffParts.{DiffParts}
use Rattle.state_diff.specs.Changes.{change_of, changed}
use Rattle.state_diff.specs.IndexDiffs.{indices_between, indices_patched}
use Rattle.state_diff.specs.MapDiffs.{map_between, map_patched}
use Rattle.state_diff.specs.MetadataDiffs.{settings_between, settings_patched}

abbrev pub nodes_between : List (List ℕ × NodeInfo) → List (List ℕ × NodeInfo) → MapDiff NodeInfo (Option NodeInfo)
nodes_between = map_between node_eq (change_of node_eq)

abbrev pub nodes_patched : MapDiff NodeInfo (Option NodeInfo) → List (List ℕ × NodeInfo) → List (List ℕ × NodeInfo)
nodes_patched = map_patched changed

abbrev pub state_between : ClusterState → ClusterState → DiffParts
state_between a b = record {
  from_id = a.id;
  to_id = b.id;
  to_version = b.version;
  cluster = change_of (pointwise ◌==◌) a.cluster b.cluster;
  term = change_of ◌==◌ a.term b.term;
  master = change_of (pointwise ◌==◌) a.master b.master;
  nodes = nodes_between a.nodes b.nodes;
  metadata_version = change_of ◌==◌ a.metadata.version b.metadata.version;
  created = change_of ◌==◌ a.metadata.created b.metadata.created;
  settings = settings_between a.metadata.settings b.metadata.settings;
  indices = indices_between a.metadata.indices b.metadata.indices;
}

abbrev pub state_patched : DiffParts → ClusterState → ClusterState
state_patched diff state = record {
  cluster = changed diff.cluster state.cluster;
  id = diff.to_id;
  term = changed diff.term state.term;
  version = diff.to_version;
  master = changed diff.master state.master;
  nodes = nodes_patched diff.nodes state.nodes;
  metadata = record {
    version = changed diff.metadata_version state.metadata.version;
    created = changed diff.created state.metadata.created;
    settings = settings_patched diff.settings state.metadata.settings;
    indices = indices_patched diff.indices state.metadata.indices;
  };
}

-- what comes of a state that is the one that a diff leads to, or the one that it leads from; of any other nothing does
abbrev pub applied : DiffParts → ClusterState → Option ClusterState
applied diff state =
    if state.id == diff.to_id then Some state
    else if state.id == diff.from_id then Some (state_patched diff state)
    else None

-- why a diff wasn't applied: the state is neither the one that it leads from nor the one that it leads to, or it is the
-- former, and memory was wanting
abbrev pub HasCause : DiffParts → ClusterState → ApplyRefusal → Type 0
HasCause diff state (Incompatible has wants) = (applied diff state ≡ None) × ((has ≡ state.id) × (wants ≡ diff.from_id))
HasCause diff state OutOfMemory = applied diff state ≡ Some (state_patched diff state)

abbrev pub apply_refusal_number : ApplyRefusal → ℕ
apply_refusal_number (Incompatible has wants) = 1
apply_refusal_number OutOfMemory = 2
