-- The data of views have no float, so that their text is the compact one.
use Rattle.std.specs.Prelude.{◌≡◌, ℕ, false, List, [], ◌∷◌, map, refl}
use Rattle.serde_json.specs.Data.{string, no_members}
use Rattle.serde_json.specs.View.{items_of}
use Rattle.serde_json.specs.Written.{has_float, items_have_float}
use Rattle.meta_state.specs.Json.{count}
use Rattle.meta_state.proofs.NoFloat.{both_false, with_members_has_no_float}
use Rattle.session_law.specs.declared.node_records.View.{View}
use Rattle.session_law.specs.ViewJson.{index_names_data, view_data}

names_have_no_float : (names : List (List ℕ)) → items_have_float (items_of (map string names)) ≡ false
names_have_no_float [] = refl
names_have_no_float (_ ∷ names) = names_have_no_float names

pub view_has_no_float : (view : View) → has_float (view_data view) ≡ false
unfolding view_data
view_has_no_float view =
    both_false _ _ (with_members_has_no_float index_names_data names_have_no_float view.aliases no_members refl)
    (both_false _ _ (with_members_has_no_float count (λ _. refl) view.indices no_members refl)
    (both_false _ _ (with_members_has_no_float string (λ _. refl) view.settings no_members refl) refl))
