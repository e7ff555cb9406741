-- What is told of states whose names are names and whose maps stand in byte order is of good form: what a look finds, the
-- views of a node, and what changed between two states.
use Rattle.std.specs.Prelude.{◌≡◌, ℕ, Bool, true, not, List, [], ◌∷◌, ◌++◌, Option, Some, None, filter, is_some, map, unwrap_or, refl, IsTrue}
use Rattle.std.proofs.Common.{sym, ap, subst, ◌∙◌}
use Rattle.std.specs.Cmp.Derive.{both_true}
use Rattle.std.specs.List.{AllByRecursion}
use Rattle.std.specs.Map.{keys_of}
use Rattle.std.proofs.lemmas.Map.Made.{keys_of-map_values}
use Rattle.std.proofs.lemmas.Slice.Eq.{bytes_eq-Decides}
use Rattle.plain_data.specs.Agreements.{with_all}
use Rattle.plain_data.specs.Pairs.{InOrder, lookup}
use Rattle.meta_state.specs.declared.cluster_state.ClusterState.{ClusterState}
use Rattle.meta_state.specs.declared.index_metadata.IndexMetadata.{IndexMetadata}
use Rattle.meta_state.specs.declared.looks.Look.{Look}
use Rattle.meta_state.specs.declared.looks.Look.TheVariants as look
use Rattle.meta_state.specs.Aliases.{is_aliased, names_with}
use Rattle.meta_state.specs.Looks.{found_at, found_index, found_names, found_value}
use Rattle.scripts.specs.Names.{is_name}
use Rattle.executors.specs.SettingTasks.{is_key}
use Rattle.session_law.specs.Changes.{change_between, is_changed_index, is_same_index, is_same_value}
use Rattle.session_law.specs.Views.{views_of, with_aliases, with_aliases_of_all, with_name}
use Rattle.session_law.specs.Laws.{found_in}
use Rattle.session_law.proofs.AliasViews.{views_agree_with_looks}
use Rattle.report_law.specs.GoodForm.{IsNamedState, are_listed, is_good_alias, is_good_change, is_good_found, is_good_view, is_index_name, is_named_index, is_named_node}
use Rattle.report_law.proofs.NamedMaps.{FoundAt, IsGoodMap, all_by, all_found, good_by, good_empty, good_filter, good_put, keys_listed, some_listed, test_from_all}
use Rattle.report_law.proofs.NamedStates.{HasNamedMaps, IsAliasName, IsNamedIndex, IsNamedNode, IsNamedOf, IsNamedSetting}
use Rattle.report_law.proofs.Rising.{sorted_keys_rise}

-- ---- keys of maps

index_names : (indices : List (List ℕ × IndexMetadata)) → IsGoodMap IsNamedIndex indices → IsTrue (are_listed is_index_name (keys_of indices))
index_names indices good = keys_listed is_index_name indices (good_by IsNamedIndex (λ p. IsTrue (is_index_name p.0)) (λ p one. one.name) indices good)

-- of some indices, nodes or settings
some_indices : (test : List ℕ × IndexMetadata → Bool) (indices : List (List ℕ × IndexMetadata)) → IsGoodMap IsNamedIndex indices
    → IsTrue (are_listed is_index_name (keys_of (filter test indices)))
some_indices test indices good = index_names (filter test indices) (good_filter IsNamedIndex test indices good)

-- ---- what a look finds

names_found : (names : List (List ℕ)) → IsTrue (are_listed is_index_name names) → IsTrue (is_good_found (found_names names))
names_found [] good = refl
names_found (name ∷ names) good = good

index_found : (index : Option IndexMetadata) → IsTrue (is_good_found (found_index index))
index_found None = refl
index_found (Some index) = refl

value_found : (value : Option (List ℕ)) → IsTrue (is_good_found (found_value value))
value_found None = refl
value_found (Some value) = refl

pub look_found : (state : ClusterState) → HasNamedMaps state → (at : Look) → IsTrue (is_good_found (found_at state at))
unfolding found_at
look_found state named (look.Index name) = index_found (lookup name state.metadata.indices)
look_found state named (look.Alias alias) =
    names_found (names_with alias state.metadata.indices) (some_indices (λ p. is_aliased alias p.1) state.metadata.indices named.indices)
look_found state named (look.Setting key) = value_found (lookup key state.metadata.settings)

-- ---- views

-- the keys of an index's aliases join those of a view
with_aliases_named : (index : List ℕ) (aliases : List (List ℕ × Unit {0})) (names : List (List ℕ × List (List ℕ))) → AllByRecursion IsAliasName aliases
    → IsGoodMap (λ p. IsTrue (is_index_name p.0)) names → IsGoodMap (λ p. IsTrue (is_index_name p.0)) (with_aliases index aliases names)
with_aliases_named index [] names all good = good
with_aliases_named index (alias ∷ aliases) names all good =
    with_aliases_named index aliases (with_name alias.0 index names) all.1
    (good_put (λ p. IsTrue (is_index_name p.0)) alias.0 (unwrap_or (lookup alias.0 names) [] ++ index ∷ []) names all.0 good)

all_aliases_named : (indices : List (List ℕ × IndexMetadata)) (names : List (List ℕ × List (List ℕ))) → AllByRecursion IsNamedIndex indices
    → IsGoodMap (λ p. IsTrue (is_index_name p.0)) names → IsGoodMap (λ p. IsTrue (is_index_name p.0)) (with_aliases_of_all indices names)
all_aliases_named [] names all good = good
all_aliases_named (index ∷ indices) names all good =
    all_aliases_named indices (with_aliases index.0 index.1.aliases names) all.1 (with_aliases_named index.0 index.1.aliases names all.0.aliases.all good)

-- names that are found of an alias are listed
abbrev IsListed : List ℕ × List (List ℕ) → Type 0
IsListed p = IsTrue (are_listed is_index_name p.1)

listed_by : (key : List ℕ) (names : Option (List (List ℕ))) → IsTrue (is_good_found (found_in names)) → FoundAt IsListed key names
listed_by key None good = tt
listed_by key (Some names) good = good

aliases_listed : (state : ClusterState) → HasNamedMaps state → (key : List ℕ) → FoundAt IsListed key (lookup key (views_of state).aliases)
aliases_listed state named key =
    listed_by key (lookup key (views_of state).aliases)
    (ap is_good_found (views_agree_with_looks state key (all_by IsNamedIndex (λ p. InOrder p.1.aliases) (λ p one. one.aliases.order) state.metadata.indices named.indices.all))
    ∙ look_found state named (look.Alias key))

pair_good : (p : List ℕ × List (List ℕ)) → IsTrue (is_index_name p.0) × IsListed p → is_good_alias p ≡ true
pair_good p good = both_true good.0 good.1

both_of_all : {A : Type 0} (P Q : A → Type 0) (xs : List A) → AllByRecursion P xs → AllByRecursion Q xs → AllByRecursion (λ a. P a × Q a) xs
both_of_all P Q [] all more = tt
both_of_all P Q (a ∷ xs) all more = ((all.0, more.0), both_of_all P Q xs all.1 more.1)

pub view_good : (state : ClusterState) → HasNamedMaps state → IsTrue (is_good_view (views_of state))
unfolding views_of
view_good state named =
    let keys = all_aliases_named state.metadata.indices [] named.indices.all (good_empty (λ p. IsTrue (is_index_name p.0))) in
    let lists = all_found IsListed (with_aliases_of_all state.metadata.indices []) keys.order (aliases_listed state named) in
    let ids : IsTrue (are_listed is_index_name (keys_of (map (λ p. (p.0, p.1.id)) state.metadata.indices))) =
    subst (λ names. IsTrue (are_listed is_index_name names)) (sym (keys_of-map_values (λ (index : IndexMetadata). index.id) state.metadata.indices))
    (index_names state.metadata.indices named.indices) in
    both_true (test_from_all (λ p. IsTrue (is_index_name p.0) × IsListed p) is_good_alias pair_good (with_aliases_of_all state.metadata.indices [])
    (both_of_all (λ p. IsTrue (is_index_name p.0)) IsListed (with_aliases_of_all state.metadata.indices []) keys.all lists))
    (both_true (keys_listed is_index_name (with_aliases_of_all state.metadata.indices []) keys)
    (both_true ids (keys_listed is_key state.metadata.settings named.settings)))

-- ---- changes

put_settings : (old new : List (List ℕ × List ℕ)) → AllByRecursion IsNamedSetting old → IsGoodMap IsNamedSetting new → IsGoodMap IsNamedSetting (with_all old new)
put_settings [] new all good = good
put_settings (p ∷ old) new all good = put_settings old _ all.1 (good_put IsNamedSetting p.0 p.1 new all.0 good)

pub change_good : (old new : ClusterState) → HasNamedMaps old → HasNamedMaps new → IsTrue (is_good_change (change_between old new))
unfolding change_between
change_good old new was is =
    both_true (some_indices (λ p. not (is_same_index p.1 (lookup p.0 old.metadata.indices))) new.metadata.indices is.indices)
    (both_true (some_indices (λ p. not (is_same_index p.1 (lookup p.0 new.metadata.indices))) old.metadata.indices was.indices)
    (both_true (some_indices (λ p. is_changed_index p.1 (lookup p.0 old.metadata.indices)) new.metadata.indices is.indices)
    (both_true (some_nodes (λ p. not (is_some (lookup p.0 old.nodes))) new is)
    (both_true (some_nodes (λ p. not (is_some (lookup p.0 new.nodes))) old was)
    (some_listed is_key (λ key. not (is_same_value (lookup key old.metadata.settings) (lookup key new.metadata.settings))) (with_all old.metadata.settings new.metadata.settings)
    (put_settings old.metadata.settings new.metadata.settings was.settings.all is.settings))))))
  where
    some_nodes : (test : _) (state : ClusterState) → HasNamedMaps state → IsTrue (are_listed is_name (keys_of (filter test state.nodes)))
    some_nodes test state named =
        keys_listed is_name (filter test state.nodes) (good_by IsNamedNode (λ p. IsTrue (is_name p.0)) (λ p one. one.name) (filter test state.nodes) (good_filter IsNamedNode test state.nodes named.nodes))

-- ---- a whole state

node_is : (p : _) → IsNamedNode p → is_named_node p ≡ true
node_is p one = both_true one.name ((bytes_eq-Decides p.0 p.1.name).1 one.own)

index_is : (p : _) → IsNamedIndex p → is_named_index p ≡ true
index_is p one = both_true one.name (keys_listed is_index_name p.1.aliases one.aliases)

pub state_named : (cluster master : List ℕ) (state : ClusterState) → IsNamedOf cluster master state → IsTrue (is_name cluster) → IsTrue (is_name master) → IsNamedState state
state_named cluster master state named c m = record {
  cluster = subst (λ n. IsTrue (is_name n)) (sym named.of_cluster) c;
  master = subst (λ n. IsTrue (is_name n)) (sym named.of_master) m;
  nodes = both_true (test_from_all IsNamedNode is_named_node node_is state.nodes named.maps.nodes.all) (sorted_keys_rise (keys_of state.nodes) named.maps.nodes.order);
  indices = both_true (test_from_all IsNamedIndex is_named_index index_is state.metadata.indices named.maps.indices.all)
      (sorted_keys_rise (keys_of state.metadata.indices) named.maps.indices.order);
  settings = keys_listed is_key state.metadata.settings named.maps.settings;
}
