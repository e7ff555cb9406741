-- A node's views as JSON tell the views.
use Rattle.std.specs.Prelude.{ℕ, List, IsTrue, codes}
use Rattle.std.specs.List.{AllByRecursion}
use Rattle.std.specs.Map.{keys_of}
use Rattle.std.proofs.lemmas.Bool.{and_parts}
use Rattle.session_law.specs.declared.node_records.View.{View}
use Rattle.report_law.specs.Bounds.{IsWord}
use Rattle.report_law.specs.GoodForm.{is_good_view, is_name_before}
use Rattle.session_law.specs.Lawful.{is_rising}
use Rattle.session_law.specs.ViewJson.{view_data, view_json}
use Rattle.report_law.proofs.JsonData.{count_tells, data_of_part, member_then, names_tell, none_tell, object_text_tells, text_tells}
use Rattle.report_law.proofs.JsonMaps.{map_of_any, values_tell}
use Rattle.report_law.proofs.Telling.{Any, Same, Tells, so}

-- views of good form, with identifiers that memory can hold
pub record IsToldView (view : View) : Type 0 where
  pub good : IsTrue (is_good_view view)
  pub ids : AllByRecursion (λ (p : List ℕ × ℕ). IsWord p.1) view.indices

-- the keys of all three maps rise
record AreRising (view : View) : Type 0 where
  aliases : IsTrue (is_rising is_name_before (keys_of view.aliases))
  indices : IsTrue (is_rising is_name_before (keys_of view.indices))
  settings : IsTrue (is_rising is_name_before (keys_of view.settings))

rising_of : (view : View) → IsTrue (is_good_view view) → AreRising view
rising_of view good =
    let aliases = and_parts _ _ (and_parts _ _ good).1 in
    let others = and_parts _ _ aliases.1 in
    record { aliases = (and_parts _ _ aliases.0).1; indices = (and_parts _ _ others.0).1; settings = (and_parts _ _ others.1).1 }

pub view_tells : Tells IsToldView view_json Same Any
unfolding view_json view_data
view_tells =
    so (object_text_tells (
    member_then (codes "aliases") (data_of_part (λ v. v.aliases) (values_tell (names_tell (λ name. name) (λ a b e. e)))
    (λ v told. map_of_any v.aliases (rising_of v told.good).aliases)) (
    member_then (codes "indices") (data_of_part (λ v. v.indices) (values_tell count_tells)
    (λ v told. record { rising = (rising_of v told.good).indices; each = told.ids })) (
    member_then (codes "settings") (data_of_part (λ v. v.settings) (values_tell text_tells)
    (λ v told. map_of_any v.settings (rising_of v told.good).settings)) none_tell))))
    (λ a b k i. record { aliases = k.0 i; indices = k.1.0 i; settings = k.1.1.0 i })
