-- How deep predicates nest, and what a predicate says that may nest so deep.
use Rattle.std.proofs.Common.{◌≡◌, ℕ, zero, suc, ◌≤◌, ◌<◌, ◌-◌, true, List, [], ◌∷◌, ◌++◌, refl, arith}
use Rattle.std.specs.Prelude.{map}
use Rattle.std.specs.List.{list_all}
use Rattle.std.proofs.lemmas.Grind.{common_steps}
use Rattle.meta_state.specs.declared.predicates.Pred.{Pred}
use Rattle.serde_json.specs.Data.{Data}
use Rattle.scripts.specs.ValidSteps.{deepest, depth_of, is_pred}
use Rattle.script_form.specs.declared.limits.LimitName.TheVariants.{Depth}
use Rattle.script_form.specs.Misfits.{◌>>=◌, over, at_member, within}
use Rattle.script_form.specs.Predicates.{choice_of, pred_by, pred_of}

pub deepest_push : (most : ℕ) (before : List Pred) (pred : Pred) → deepest (map depth_of before) ≤ most → depth_of pred ≤ most → deepest (map depth_of (before ++ pred ∷ [])) ≤ most
deepest_push most [] pred all one = grind (arith, common_steps)
deepest_push most (first ∷ before) pred all one = grind (arith, common_steps, deepest_push most before pred)

pub are_preds_by_depth : (preds : List Pred) → deepest (map depth_of preds) ≤ 16 → list_all is_pred preds ≡ true
are_preds_by_depth [] all = refl
are_preds_by_depth (pred ∷ preds) all = grind (arith, common_steps, are_preds_by_depth preds)

pub pred_of_none : (left : ℕ) (d : Data) → left ≡ 0 → pred_of left d ≡ (choice_of d >>= λ chosen. over Depth)
unfolding pred_of
pred_of_none zero d none = refl
pred_of_none (suc left) d none = absurd (omega (arith, none))

pub pred_of_more : (left : ℕ) (d : Data) → 0 < left → pred_of left d ≡ (choice_of d >>= λ chosen. within (at_member chosen.0) (pred_by (pred_of (left - 1)) chosen.0 chosen.1))
unfolding pred_of
pred_of_more zero d some = absurd (omega (arith, some))
pred_of_more (suc left) d some = let one : suc left - 1 ≡ left = omega arith in rw one refl
