-- Diffs of metadata, part by part.
use Rattle.std.specs.Prelude.{ℕ, List, Option, ◌==◌}
use Rattle.std.specs.Cmp.Lexicographic.{pointwise}
use Rattle.meta_state.specs.declared.cluster_metadata.Metadata.{Metadata}
use Rattle.state_diff.specs.declared.map_diffs.MapDiff.{MapDiff}
use Rattle.state_diff.specs.declared.metadata_diffs.MetadataDiff.{MetadataDiff}
use Rattle.state_diff.specs.Changes.{change_of, changed}
use Rattle.state_diff.specs.IndexDiffs.{indices_between, indices_patched}
use Rattle.state_diff.specs.MapDiffs.{map_between, map_patched}

abbrev pub settings_between : List (List ℕ × List ℕ) → List (List ℕ × List ℕ) → MapDiff (List ℕ) (Option (List ℕ))
settings_between = map_between (pointwise ◌==◌) (change_of (pointwise ◌==◌))

abbrev pub settings_patched : MapDiff (List ℕ) (Option (List ℕ)) → List (List ℕ × List ℕ) → List (List ℕ × List ℕ)
settings_patched = map_patched changed

abbrev pub metadata_between : Metadata → Metadata → MetadataDiff
metadata_between a b = record {
  version = change_of ◌==◌ a.version b.version;
  created = change_of ◌==◌ a.created b.created;
  settings = settings_between a.settings b.settings;
  indices = indices_between a.indices b.indices;
}

abbrev pub metadata_patched : MetadataDiff → Metadata → Metadata
metadata_patched diff metadata = record {
  version = changed diff.version metadata.version;
  created = changed diff.created metadata.created;
  settings = settings_patched diff.settings metadata.settings;
  indices = indices_patched diff.indices metadata.indices;
}
