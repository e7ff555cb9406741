use Rattle.std.proofs.Common.{◌≡◌, ◌++◌, map}
use Rattle.serde_json.specs.Data.{string}
use Rattle.serde_json.specs.View.{view}
use Rattle.meta_state.proofs.states_as_json.names_value.Given as goal

-- the names so far and those that are left are all
abbrev pub invariant-loop-name : goal.invariant-loop-name
invariant-loop-name l = map view l.list.items ++ map (λ p. string p.0) l.name-iterator ≡ map (λ p. string p.0) l.fn.names
