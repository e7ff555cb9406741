-- The parts of a node's view, of which each applier keeps one: all three are those of the applied state.
use Rattle.std.specs.Prelude.{ℕ, List, [], map}
use Rattle.meta_state.specs.declared.cluster_state.ClusterState.{ClusterState}
use Rattle.session_law.specs.Views.{with_aliases_of_all}

abbrev pub settings_of : ClusterState → List (List ℕ × List ℕ)
settings_of state = state.metadata.settings

abbrev pub ids_of : ClusterState → List (List ℕ × ℕ)
ids_of state = map (λ p. (p.0, p.1.id)) state.metadata.indices

abbrev pub alias_names_of : ClusterState → List (List ℕ × List (List ℕ))
alias_names_of state = with_aliases_of_all state.metadata.indices []
