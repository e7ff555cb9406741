-- A node's views as JSON: compact, with the members of each object in byte order. The form is this project's own.
use Rattle.std.specs.Prelude.{ℕ, List, map, codes}
use Rattle.serde_json.specs.Data.{Data, string, array, object, no_members, member}
use Rattle.serde_json.specs.View.{items_of}
use Rattle.serde_json.specs.Written.{compact_text}
use Rattle.meta_state.specs.Json.{count, with_members}
use Rattle.session_law.specs.declared.node_records.View.{View}

-- the names of the indices that have an alias
abbrev pub index_names_data : List (List ℕ) → Data
index_names_data names = array (items_of (map string names))

abbrev pub aliases_data : List (List ℕ × List (List ℕ)) → Data
aliases_data aliases = object (with_members index_names_data aliases no_members)

abbrev pub ids_data : List (List ℕ × ℕ) → Data
ids_data ids = object (with_members count ids no_members)

abbrev pub values_data : List (List ℕ × List ℕ) → Data
values_data values = object (with_members string values no_members)

unfoldable pub view_data : View → Data
view_data view = object (
    member (codes "aliases") (aliases_data view.aliases) (
    member (codes "indices") (ids_data view.indices) (
    member (codes "settings") (values_data view.settings) no_members)))

-- the text that is written for a view
unfoldable pub view_json : View → List ℕ
view_json view = compact_text (view_data view)
