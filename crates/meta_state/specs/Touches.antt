-- What may have changed between two states: names of indices, keys of settings and names of nodes. Two states agree
-- outside of them where look-ups at every other name give the same. The other parts of a state are numbers and names,
-- which are compared outright. The relation is this project's own.
use Rattle.std.specs.Prelude.{◌≡◌, ℕ, List, [], None}
use Rattle.plain_data.specs.Agreements as maps
use Rattle.plain_data.specs.Pairs.{lookup}
use Rattle.meta_state.specs.declared.cluster_state.ClusterState.{ClusterState}
use Rattle.meta_state.specs.declared.touches.Touched.{Touched}

abbrev pub touched_none : Touched
touched_none = record { indices = []; settings = []; nodes = [] }

-- what may have changed by the one or by the other
abbrev pub touched_by_both : Touched → Touched → Touched
touched_by_both a b = record {
  indices = maps.with_all b.indices a.indices;
  settings = maps.with_all b.settings a.settings;
  nodes = maps.with_all b.nodes a.nodes;
}

-- a set that has all names of another: what isn't in it isn't in the other
abbrev pub HasAll : List (List ℕ × Unit {0}) → List (List ℕ × Unit {0}) → Type 0
HasAll more names = (name : List ℕ) → lookup name more ≡ None → lookup name names ≡ None

-- what may have changed, and with it all that another names
pub record Covers (more touched : Touched) : Type 0 where
  pub indices : HasAll more.indices touched.indices
  pub settings : HasAll more.settings touched.settings
  pub nodes : HasAll more.nodes touched.nodes

-- two states that give the same at every name outside of what may have changed
pub record AgreeOutside (touched : Touched) (a b : ClusterState) : Type 0 where
  pub indices : maps.AgreeOutside touched.indices a.metadata.indices b.metadata.indices
  pub settings : maps.AgreeOutside touched.settings a.metadata.settings b.metadata.settings
  pub nodes : maps.AgreeOutside touched.nodes a.nodes b.nodes
