-- Diffs of the metadata of an index, part by part, and of the indices by name.
use Rattle.std.specs.Prelude.{ℕ, List, ◌==◌}
use Rattle.std.specs.Bool.{beq}
use Rattle.meta_state.specs.declared.index_metadata.IndexMetadata.{IndexMetadata}
use Rattle.meta_state.specs.Exact.{index_eq}
use Rattle.state_diff.specs.declared.index_diffs.IndexDiff.{IndexDiff}
use Rattle.state_diff.specs.declared.map_diffs.MapDiff.{MapDiff}
use Rattle.state_diff.specs.Changes.{change_of, changed}
use Rattle.state_diff.specs.MapDiffs.{map_between, map_patched}
use Rattle.state_diff.specs.SetDiffs.{names_between, names_patched}

abbrev pub index_between : IndexMetadata → IndexMetadata → IndexDiff
index_between a b = record {
  id = change_of ◌==◌ a.id b.id;
  version = change_of ◌==◌ a.version b.version;
  settings_version = change_of ◌==◌ a.settings_version b.settings_version;
  aliases_version = change_of ◌==◌ a.aliases_version b.aliases_version;
  opened = change_of beq a.opened b.opened;
  shards = change_of ◌==◌ a.shards b.shards;
  replicas = change_of ◌==◌ a.replicas b.replicas;
  aliases = names_between a.aliases b.aliases;
}

abbrev pub index_patched : IndexDiff → IndexMetadata → IndexMetadata
index_patched diff index = record {
  id = changed diff.id index.id;
  version = changed diff.version index.version;
  settings_version = changed diff.settings_version index.settings_version;
  aliases_version = changed diff.aliases_version index.aliases_version;
  opened = changed diff.opened index.opened;
  shards = changed diff.shards index.shards;
  replicas = changed diff.replicas index.replicas;
  aliases = names_patched diff.aliases index.aliases;
}

abbrev pub indices_between : List (List ℕ × IndexMetadata) → List (List ℕ × IndexMetadata) → MapDiff IndexMetadata IndexDiff
indices_between = map_between index_eq index_between

abbrev pub indices_patched : MapDiff IndexMetadata IndexDiff → List (List ℕ × IndexMetadata) → List (List ℕ × IndexMetadata)
indices_patched = map_patched index_patched
