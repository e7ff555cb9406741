-- Whether two parts of a state are equal, as `==` computes it, and that it decides equality.
use Rattle.std.specs.Prelude.{◌≡◌, Bool, ◌==◌, ◌&&◌}
use Rattle.std.proofs.Common.{ap}
use Rattle.std.specs.Bool.{Decides, beq}
use Rattle.std.specs.Cmp.{IsEquivalence, IsPartialEquivalence, on_equiv, and_equiv, partial_equiv_from_equiv, nat_eq_equiv, bool_eq_equiv, booleans_Decides, unsigned_Decides}
use Rattle.std.specs.Cmp.Lexicographic.{pointwise, bytes_decides}
use Rattle.std.proofs.lemmas.Bool.Decides.{Decides-and, Decides-like}
use Rattle.plain_data.specs.Pairs.{pairs_eq, pairs_decides, pairs_equiv, unit_eq, unit_equiv, unit_decides}
use Rattle.meta_state.specs.declared.node_info.NodeInfo.{NodeInfo}
use Rattle.meta_state.specs.declared.index_metadata.IndexMetadata.{IndexMetadata}
use Rattle.meta_state.specs.declared.cluster_metadata.Metadata.{Metadata}
use Rattle.meta_state.specs.declared.cluster_state.ClusterState.{ClusterState}

abbrev pub node_eq : NodeInfo → NodeInfo → Bool
node_eq a b = (pointwise ◌==◌ a.name b.name) && (beq a.eligible b.eligible)

pub node_decides : (a b : NodeInfo) → Decides (node_eq a b) (a ≡ b)
node_decides a b = Decides-like _ (λ e i. record { name = e.0 i; eligible = e.1 i }) (λ e. (ap (λ (s : NodeInfo). s.name) e, ap (λ (s : NodeInfo). s.eligible) e))
    (Decides-and _ _ (bytes_decides a.name b.name) (booleans_Decides a.eligible b.eligible))

abbrev pub index_eq : IndexMetadata → IndexMetadata → Bool
index_eq a b = (a.id == b.id) && ((a.version == b.version) && ((a.settings_version == b.settings_version) && ((a.aliases_version == b.aliases_version) && ((beq a.opened b.opened) && ((a.shards == b.shards) && ((a.replicas == b.replicas) && (pairs_eq unit_eq a.aliases b.aliases)))))))

pub index_decides : (a b : IndexMetadata) → Decides (index_eq a b) (a ≡ b)
index_decides a b = Decides-like _ (λ e i. record { id = e.0 i; version = e.1.0 i; settings_version = e.1.1.0 i; aliases_version = e.1.1.1.0 i; opened = e.1.1.1.1.0 i; shards = e.1.1.1.1.1.0 i; replicas = e.1.1.1.1.1.1.0 i; aliases = e.1.1.1.1.1.1.1 i }) (λ e. (ap (λ (s : IndexMetadata). s.id) e, (ap (λ (s : IndexMetadata). s.version) e, (ap (λ (s : IndexMetadata). s.settings_version) e, (ap (λ (s : IndexMetadata). s.aliases_version) e, (ap (λ (s : IndexMetadata). s.opened) e, (ap (λ (s : IndexMetadata). s.shards) e, (ap (λ (s : IndexMetadata). s.replicas) e, ap (λ (s : IndexMetadata). s.aliases) e))))))))
    (Decides-and _ _ (unsigned_Decides a.id b.id) (Decides-and _ _ (unsigned_Decides a.version b.version) (Decides-and _ _ (unsigned_Decides a.settings_version b.settings_version) (Decides-and _ _ (unsigned_Decides a.aliases_version b.aliases_version) (Decides-and _ _ (booleans_Decides a.opened b.opened) (Decides-and _ _ (unsigned_Decides a.shards b.shards) (Decides-and _ _ (unsigned_Decides a.replicas b.replicas) (pairs_decides unit_decides a.aliases b.aliases))))))))

pub index_equiv : IsEquivalence index_eq
index_equiv =
    and_equiv (on_equiv (λ i. i.id) nat_eq_equiv) (
    and_equiv (on_equiv (λ i. i.version) nat_eq_equiv) (
    and_equiv (on_equiv (λ i. i.settings_version) nat_eq_equiv) (
    and_equiv (on_equiv (λ i. i.aliases_version) nat_eq_equiv) (
    and_equiv (on_equiv (λ i. i.opened) bool_eq_equiv) (
    and_equiv (on_equiv (λ i. i.shards) nat_eq_equiv) (
    and_equiv (on_equiv (λ i. i.replicas) nat_eq_equiv) (
    on_equiv (λ i. i.aliases) (pairs_equiv unit_equiv))))))))

pub index_per : IsPartialEquivalence index_eq
index_per = partial_equiv_from_equiv index_equiv

abbrev pub metadata_eq : Metadata → Metadata → Bool
metadata_eq a b = (a.version == b.version) && ((a.created == b.created) && ((pairs_eq (pointwise ◌==◌) a.settings b.settings) && (pairs_eq index_eq a.indices b.indices)))

pub metadata_decides : (a b : Metadata) → Decides (metadata_eq a b) (a ≡ b)
metadata_decides a b = Decides-like _ (λ e i. record { version = e.0 i; created = e.1.0 i; settings = e.1.1.0 i; indices = e.1.1.1 i }) (λ e. (ap (λ (s : Metadata). s.version) e, (ap (λ (s : Metadata). s.created) e, (ap (λ (s : Metadata). s.settings) e, ap (λ (s : Metadata). s.indices) e))))
    (Decides-and _ _ (unsigned_Decides a.version b.version) (Decides-and _ _ (unsigned_Decides a.created b.created) (Decides-and _ _ (pairs_decides bytes_decides a.settings b.settings) (pairs_decides index_decides a.indices b.indices))))

abbrev pub state_eq : ClusterState → ClusterState → Bool
state_eq a b = (pointwise ◌==◌ a.cluster b.cluster) && ((a.id == b.id) && ((a.term == b.term) && ((a.version == b.version) && ((pointwise ◌==◌ a.master b.master) && ((pairs_eq node_eq a.nodes b.nodes) && (metadata_eq a.metadata b.metadata))))))

pub state_decides : (a b : ClusterState) → Decides (state_eq a b) (a ≡ b)
state_decides a b = Decides-like _ (λ e i. record { cluster = e.0 i; id = e.1.0 i; term = e.1.1.0 i; version = e.1.1.1.0 i; master = e.1.1.1.1.0 i; nodes = e.1.1.1.1.1.0 i; metadata = e.1.1.1.1.1.1 i }) (λ e. (ap (λ (s : ClusterState). s.cluster) e, (ap (λ (s : ClusterState). s.id) e, (ap (λ (s : ClusterState). s.term) e, (ap (λ (s : ClusterState). s.version) e, (ap (λ (s : ClusterState). s.master) e, (ap (λ (s : ClusterState). s.nodes) e, ap (λ (s : ClusterState). s.metadata) e)))))))
    (Decides-and _ _ (bytes_decides a.cluster b.cluster) (Decides-and _ _ (unsigned_Decides a.id b.id) (Decides-and _ _ (unsigned_Decides a.term b.term) (Decides-and _ _ (unsigned_Decides a.version b.version) (Decides-and _ _ (bytes_decides a.master b.master) (Decides-and _ _ (pairs_decides node_decides a.nodes b.nodes) (metadata_decides a.metadata b.metadata)))))))
