-- A record whose parts lead to those of another leads to the other.
use Rattle.std.proofs.Common.{◌≡◌, true, false, Some, sym, ◌∙◌, ap, ◌==◌}
use Rattle.std.specs.Cmp.{unsigned_Decides}
use Rattle.std.proofs.lemmas.Bool.{false_from_ne_true}
use Rattle.meta_state.specs.declared.cluster_metadata.Metadata.{Metadata}
use Rattle.meta_state.specs.declared.cluster_state.ClusterState.{ClusterState}
use Rattle.meta_state.specs.declared.index_metadata.IndexMetadata.{IndexMetadata}
use Rattle.state_diff.specs.declared.index_diffs.IndexDiff.{IndexDiff}
use Rattle.state_diff.specs.declared.metadata_diffs.MetadataDiff.{MetadataDiff}
use Rattle.state_diff.specs.declared.state_diffs.DiffParts.{DiffParts}
use Rattle.state_diff.specs.Changes.{changed}
use Rattle.state_diff.specs.SetDiffs.{names_patched}
use Rattle.state_diff.specs.IndexDiffs.{index_patched, indices_patched}
use Rattle.state_diff.specs.MetadataDiffs.{metadata_patched, settings_patched}
use Rattle.state_diff.specs.StateDiffs.{applied, nodes_patched, state_patched}

pub index_leads : (d : IndexDiff) (a b : IndexMetadata) → changed d.id a.id ≡ b.id → changed d.version a.version ≡ b.version → changed d.settings_version a.settings_version ≡ b.settings_version
    → changed d.aliases_version a.aliases_version ≡ b.aliases_version → changed d.opened a.opened ≡ b.opened → changed d.shards a.shards ≡ b.shards → changed d.replicas a.replicas ≡ b.replicas
    → names_patched d.aliases a.aliases ≡ b.aliases → index_patched d a ≡ b
index_leads d a b id version settings aliases opened shards replicas names =
    λ i. record { id = id i; version = version i; settings_version = settings i; aliases_version = aliases i; opened = opened i; shards = shards i; replicas = replicas i; aliases = names i }

pub metadata_leads : (d : MetadataDiff) (a b : Metadata) → changed d.version a.version ≡ b.version → changed d.created a.created ≡ b.created
    → settings_patched d.settings a.settings ≡ b.settings → indices_patched d.indices a.indices ≡ b.indices → metadata_patched d a ≡ b
metadata_leads d a b version created settings indices = λ i. record { version = version i; created = created i; settings = settings i; indices = indices i }

-- a diff is applied where it leads from the state, and the identifiers differ
applied_from : (d : DiffParts) (a b : ClusterState) → d.from_id ≡ a.id → d.to_id ≡ b.id → (a.id ≡ b.id → ⊥) → state_patched d a ≡ b → applied d a ≡ Some b
applied_from d a b from to differ is =
    let other : (a.id == d.to_id) ≡ false = false_from_ne_true _ (λ e. differ ((unsigned_Decides a.id d.to_id).0 e ∙ to)) in
    let same : (a.id == d.from_id) ≡ true = (unsigned_Decides a.id d.from_id).1 (sym from) in
    rw other (rw same (ap (λ (s : ClusterState). Some s) is))

pub state_leads : (d : DiffParts) (a b : ClusterState) → d.from_id ≡ a.id → d.to_id ≡ b.id → (a.id ≡ b.id → ⊥) → d.to_version ≡ b.version
    → changed d.cluster a.cluster ≡ b.cluster → changed d.term a.term ≡ b.term → changed d.master a.master ≡ b.master → nodes_patched d.nodes a.nodes ≡ b.nodes
    → changed d.metadata_version a.metadata.version ≡ b.metadata.version → changed d.created a.metadata.created ≡ b.metadata.created
    → settings_patched d.settings a.metadata.settings ≡ b.metadata.settings → indices_patched d.indices a.metadata.indices ≡ b.metadata.indices → applied d a ≡ Some b
state_leads d a b from to differ version cluster term master nodes metadata created settings indices =
    applied_from d a b from to differ (λ i. record {
      cluster = cluster i;
      id = to i;
      term = term i;
      version = version i;
      master = master i;
      nodes = nodes i;
      metadata = record { version = metadata i; created = created i; settings = settings i; indices = indices i };
    })
