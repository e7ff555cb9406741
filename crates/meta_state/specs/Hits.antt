-- Which states hit a part of a watch: those that are newer than what the part had seen, and meet its predicate
-- (Elasticsearch's `ClusterStateObserver`).
use Rattle.std.specs.Prelude.{ℕ, ◌&&◌, Bool, true, Option, Some, None, nat_lt}
use Rattle.meta_state.specs.declared.predicates.Pred.{Pred}
use Rattle.meta_state.specs.declared.cluster_state.ClusterState.{ClusterState}
use Rattle.meta_state.specs.Predicates.{is_met}

abbrev pub is_newer : Option ℕ → ClusterState → Bool
is_newer None state = true
is_newer (Some last) state = nat_lt last state.version

-- whether a state hits a part: it is newer than the part's last version, if that has one, and meets its predicate
abbrev pub is_hit_by : Option ℕ → Pred → ClusterState → Bool
is_hit_by last pred state = is_newer last state && is_met state pred
