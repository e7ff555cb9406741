-- The version rule: only the master raises versions, and a state whose contents didn't change isn't published
-- (Elasticsearch's `MasterService`). That "changed" means that contents differ is this project's own.
use Rattle.std.specs.Prelude.{ℕ, ◌+◌, ◌==◌, ◌&&◌, Bool, if◌then◌else◌}
use Rattle.std.specs.Cmp.Lexicographic.{pointwise}
use Rattle.meta_state.specs.declared.cluster_metadata.Metadata.{Metadata}
use Rattle.meta_state.specs.declared.cluster_state.ClusterState.{ClusterState}
use Rattle.meta_state.specs.declared.versions.Next.{Next}
use Rattle.meta_state.specs.declared.versions.Next.TheVariants.{Same, Changed}
use Rattle.meta_state.specs.Exact.{state_eq, metadata_eq}

-- metadata but for their version
abbrev pub contents_of : Metadata → Metadata
contents_of m = record m { version = 0 }

-- a state but for its identifier, version and metadata version
abbrev pub content_of : ClusterState → ClusterState
content_of s = record s { id = 0; version = 0; metadata = contents_of s.metadata }

-- whether two states have the same names of cluster and master, and the same term: all of their content but nodes and
-- metadata
abbrev pub rest_eq : ClusterState → ClusterState → Bool
rest_eq a b = pointwise ◌==◌ a.cluster b.cluster && ((a.term == b.term) && pointwise ◌==◌ a.master b.master)

-- the metadata version after a change: it rises where the metadata differ
abbrev pub metadata_version : Metadata → Metadata → ℕ
metadata_version prev made = if metadata_eq (contents_of prev) (contents_of made) then prev.version else prev.version + 1

-- a state under an identifier and versions
abbrev pub stamped : ClusterState → ℕ → ℕ → ℕ → ClusterState
stamped made id version metadata_version =
    record made { id = id; version = version; metadata = record made.metadata { version = metadata_version } }

-- what follows `prev` where an executor made `made` of it
abbrev pub next_of : ClusterState → ClusterState → ℕ → Next
next_of prev made id =
    if state_eq (content_of prev) (content_of made) then Same
    else Changed (stamped made id (prev.version + 1) (metadata_version prev.metadata made.metadata))
