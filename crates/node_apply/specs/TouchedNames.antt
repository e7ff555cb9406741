-- What may have changed between two states, as it is read off a diff, or off both states where nothing else is known of
-- them: the names that a diff has in its parts, and all names of both. Both are this project's own.
use Rattle.std.specs.Prelude.{ℕ, List, [], map}
use Rattle.plain_data.specs.Agreements.{with_all}
use Rattle.meta_state.specs.declared.cluster_state.ClusterState.{ClusterState}
use Rattle.meta_state.specs.declared.touches.Touched.{Touched}
use Rattle.state_diff.specs.declared.map_diffs.MapDiff.{MapDiff}
use Rattle.state_diff.specs.declared.state_diffs.DiffParts.{DiffParts}

-- the keys of a map as a set shows them
abbrev pub names_of : {V : Type 0} → List (List ℕ × V) → List (List ℕ × Unit {0})
names_of pairs = map (λ p. (p.0, tt)) pairs

-- a set with the keys of a map added
abbrev pub with_names_of : {V : Type 0} → List (List ℕ × V) → List (List ℕ × Unit {0}) → List (List ℕ × Unit {0})
with_names_of pairs names = with_all (names_of pairs) names

-- the keys at which a diff of maps does something: those that go, those whose values change and those that are new
abbrev pub names_in : {V D : Type 0} → MapDiff V D → List (List ℕ × Unit {0})
names_in diff = with_names_of diff.upserts (with_names_of diff.diffs diff.deletes)

-- the names in the parts of a diff of states
abbrev pub touched_of : DiffParts → Touched
touched_of diff = record {
  indices = names_in diff.indices;
  settings = names_in diff.settings;
  nodes = names_in diff.nodes;
}

-- the keys of two maps
abbrev pub names_of_both : {V : Type 0} → List (List ℕ × V) → List (List ℕ × V) → List (List ℕ × Unit {0})
names_of_both m n = with_names_of n (with_names_of m [])

-- all names of two states
abbrev pub all_names_of : ClusterState → ClusterState → Touched
all_names_of a b = record {
  indices = names_of_both a.metadata.indices b.metadata.indices;
  settings = names_of_both a.metadata.settings b.metadata.settings;
  nodes = names_of_both a.nodes b.nodes;
}
