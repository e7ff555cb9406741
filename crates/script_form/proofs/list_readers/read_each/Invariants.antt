use Rattle.std.proofs.Common.{◌≡◌, drop, length, []}
use Rattle.std.specs.Prelude.{map}
use Rattle.serde_json.specs.View.{view}
use Rattle.script_form.specs.Parts.{each}
use Rattle.script_form.proofs.list_readers.read_each.Given as goal

-- what was read so far, and then what is left, is all
abbrev pub invariant-loop-value : goal.invariant-loop-value
invariant-loop-value g l = record {
  going : each (g.R.ListReader.reads l.reader) l.items (map view (drop l.value-index l.values)) ≡ each (g.R.ListReader.reads l.reader) [] (map view l.values);
  count : length l.items ≡ l.value-index;
}
