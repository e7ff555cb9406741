-- A state as JSON tells the state.
use Rattle.std.specs.Prelude.{◌≡◌, ◌&&◌, ℕ, List, [], ◌∷◌, IsTrue, codes}
use Rattle.std.proofs.Common.{sym, ◌∙◌}
use Rattle.std.specs.List.{AllByRecursion, list_all}
use Rattle.std.specs.Map.{keys_of}
use Rattle.std.proofs.lemmas.Bool.{and_parts}
use Rattle.std.proofs.lemmas.Slice.Eq.{bytes_eq-Decides}
use Rattle.meta_state.specs.declared.cluster_metadata.Metadata.{Metadata}
use Rattle.meta_state.specs.declared.node_info.NodeInfo.{NodeInfo}
use Rattle.meta_state.specs.declared.cluster_state.ClusterState.{ClusterState}
use Rattle.meta_state.specs.Json.{index_data, metadata_data, node_data, nodes_data, state_data, state_json}
use Rattle.report_law.specs.Bounds.{IsBoundedIndex, IsBoundedMetadata, IsBoundedState}
use Rattle.report_law.specs.GoodForm.{IsNamedState, is_name_before, is_named_node}
use Rattle.session_law.specs.Lawful.{is_rising}
use Rattle.report_law.proofs.JsonData.{DataTells, boolean_tells, count_tells, data_of_part, data_so, member_then, names_tell, none_tell, object_tells, object_text_tells, text_tells}
use Rattle.report_law.proofs.JsonMaps.{IsMapOf, map_of_any, map_tells, values_tell}
use Rattle.report_law.proofs.Telling.{Any, Same, Tells, so}

-- ---- nodes

-- a node's JSON lacks its name, which is its key
node_data_tells : DataTells (λ node. Unit {0}) node_data (λ a b. a.eligible ≡ b.eligible)
unfolding node_data
node_data_tells =
    data_so (object_tells (member_then (codes "eligible") (data_of_part (λ n. n.eligible) boolean_tells (λ _ _. tt)) none_tell)) (λ a b _ _ k. k.0)

abbrev IsUnderItsName : List ℕ × NodeInfo → Type 0
IsUnderItsName p = p.0 ≡ p.1.name

nodes_tell : DataTells (IsMapOf IsUnderItsName) nodes_data Same
nodes_tell =
    map_tells node_data (data_of_part (λ p. p.1) node_data_tells (λ _ _. tt))
    (λ p q good fine key eligible i. (key i, record { name = (sym good ∙ (key ∙ fine)) i; eligible = eligible i }))

-- ---- indices

index_tells : DataTells IsBoundedIndex index_data Same
unfolding index_data
index_tells =
    data_so (object_tells (
    member_then (codes "aliases") (data_of_part (λ x. x.aliases) (names_tell (λ p. p.0) (λ a b e i. (e i, tt))) (λ _ _. tt)) (
    member_then (codes "aliases_version") (data_of_part (λ x. x.aliases_version) count_tells (λ x good. good.aliases_version)) (
    member_then (codes "id") (data_of_part (λ x. x.id) count_tells (λ x good. good.id)) (
    member_then (codes "open") (data_of_part (λ x. x.opened) boolean_tells (λ _ _. tt)) (
    member_then (codes "replicas") (data_of_part (λ x. x.replicas) count_tells (λ x good. good.replicas)) (
    member_then (codes "settings_version") (data_of_part (λ x. x.settings_version) count_tells (λ x good. good.settings_version)) (
    member_then (codes "shards") (data_of_part (λ x. x.shards) count_tells (λ x good. good.shards)) (
    member_then (codes "version") (data_of_part (λ x. x.version) count_tells (λ x good. good.version)) none_tell)))))))))
    (λ a b _ _ k i. record {
      aliases = k.0 i;
      aliases_version = k.1.0 i;
      id = k.1.1.0 i;
      opened = k.1.1.1.0 i;
      replicas = k.1.1.1.1.0 i;
      settings_version = k.1.1.1.1.1.0 i;
      shards = k.1.1.1.1.1.1.0 i;
      version = k.1.1.1.1.1.1.1.0 i;
    })

-- ---- metadata

record IsToldMetadata (metadata : Metadata) : Type 0 where
  bounded : IsBoundedMetadata metadata
  indices : IsTrue (is_rising is_name_before (keys_of metadata.indices))
  settings : IsTrue (is_rising is_name_before (keys_of metadata.settings))

metadata_tells : DataTells IsToldMetadata metadata_data Same
unfolding metadata_data
metadata_tells =
    data_so (object_tells (
    member_then (codes "created") (data_of_part (λ m. m.created) count_tells (λ m told. told.bounded.created)) (
    member_then (codes "indices") (data_of_part (λ m. m.indices) (values_tell index_tells) (λ m told. record { rising = told.indices; each = told.bounded.indices })) (
    member_then (codes "settings") (data_of_part (λ m. m.settings) (values_tell text_tells) (λ m told. map_of_any m.settings told.settings)) (
    member_then (codes "version") (data_of_part (λ m. m.version) count_tells (λ m told. told.bounded.version)) none_tell)))))
    (λ a b _ _ k i. record { created = k.0 i; indices = k.1.0 i; settings = k.1.1.0 i; version = k.1.1.1.0 i })

-- ---- the state

-- a state of good form, with numbers that memory can hold
pub record IsToldState (state : ClusterState) : Type 0 where
  pub named : IsNamedState state
  pub bounded : IsBoundedState state

under_names : (nodes : List (List ℕ × NodeInfo)) → IsTrue (list_all is_named_node nodes) → AllByRecursion IsUnderItsName nodes
under_names [] named = tt
under_names (p ∷ nodes) named =
    let parts = and_parts _ _ named in
    ((bytes_eq-Decides p.0 p.1.name).0 (and_parts _ _ parts.0).1, under_names nodes parts.1)

map_of_nodes : (nodes : List (List ℕ × NodeInfo)) → IsTrue (list_all is_named_node nodes && is_rising is_name_before (keys_of nodes)) → IsMapOf IsUnderItsName nodes
map_of_nodes nodes named = let parts = and_parts _ _ named in record { rising = parts.1; each = under_names nodes parts.0 }

metadata_of : (state : ClusterState) → IsToldState state → IsToldMetadata state.metadata
metadata_of state told = record {
  bounded = told.bounded.metadata;
  indices = (and_parts _ _ told.named.indices).1;
  settings = (and_parts _ _ told.named.settings).1;
}

pub state_tells : Tells IsToldState state_json Same Any
unfolding state_json state_data
state_tells =
    so (object_text_tells (
    member_then (codes "cluster") (data_of_part (λ s. s.cluster) text_tells (λ _ _. tt)) (
    member_then (codes "id") (data_of_part (λ s. s.id) count_tells (λ s told. told.bounded.id)) (
    member_then (codes "master") (data_of_part (λ s. s.master) text_tells (λ _ _. tt)) (
    member_then (codes "metadata") (data_of_part (λ s. s.metadata) metadata_tells metadata_of) (
    member_then (codes "nodes") (data_of_part (λ s. s.nodes) nodes_tell (λ s told. map_of_nodes s.nodes told.named.nodes)) (
    member_then (codes "term") (data_of_part (λ s. s.term) count_tells (λ s told. told.bounded.term)) (
    member_then (codes "version") (data_of_part (λ s. s.version) count_tells (λ s told. told.bounded.version)) none_tell))))))))
    (λ a b k i. record {
      cluster = k.0 i;
      id = k.1.0 i;
      master = k.1.1.0 i;
      metadata = k.1.1.1.0 i;
      nodes = k.1.1.1.1.0 i;
      term = k.1.1.1.1.1.0 i;
      version = k.1.1.1.1.1.1.0 i;
    })
