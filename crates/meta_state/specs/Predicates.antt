-- Whether a state meets a predicate, which is what a watch waits for. The predicates are this project's own.
use Rattle.std.specs.Prelude.{ℕ, Bool, false, not, List, Option, Some, None, is_some, bytes_eq, nat_le}
use Rattle.std.specs.List.{list_all, list_any}
use Rattle.plain_data.specs.Pairs.{lookup}
use Rattle.meta_state.specs.declared.predicates.Pred.{Pred, fold-Pred}
use Rattle.meta_state.specs.declared.predicates.Pred.TheOpen.{Pred-F}
use Rattle.meta_state.specs.declared.cluster_state.ClusterState.{ClusterState}
use Rattle.meta_state.specs.Aliases.{has_alias}

-- whether a setting has a value
abbrev pub is_value : List ℕ → Option (List ℕ) → Bool
is_value value None = false
is_value value (Some found) = bytes_eq found value

-- whether a predicate is met, given whether those inside it are
abbrev pub met_step : ClusterState → Pred-F Bool → Bool
met_step state (Pred-F.Index name) = is_some (lookup name state.metadata.indices)
met_step state (Pred-F.Alias alias) = has_alias alias state.metadata.indices
met_step state (Pred-F.Node name) = is_some (lookup name state.nodes)
met_step state (Pred-F.Version version) = nat_le version state.version
met_step state (Pred-F.Setting key value) = is_value value (lookup key state.metadata.settings)
met_step state (Pred-F.Not inner) = not inner
met_step state (Pred-F.All parts) = list_all (λ b. b) parts
met_step state (Pred-F.Any parts) = list_any (λ b. b) parts

unfoldable pub is_met : ClusterState → Pred → Bool
is_met state = fold-Pred Bool (met_step state)
