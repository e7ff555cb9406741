use Rattle.std.proofs.Common.{◌≡◌, ◌*◌, ◌+◌, drop, []}
use Rattle.std.specs.Prelude.{map}
use Rattle.serde_json.specs.View.{view}
use Rattle.script_form.specs.Predicates.{pred_of, preds_by}
use Rattle.script_form.proofs.predicates.+nesting.Given as goal

abbrev pub decreases-pred_in : goal.decreases-pred_in
decreases-pred_in l = l.left * 4

abbrev pub decreases-pred_by_word : goal.decreases-pred_by_word
decreases-pred_by_word l = l.left * 4 + 3

abbrev pub decreases-preds_in : goal.decreases-preds_in
decreases-preds_in l = l.left * 4 + 2

abbrev pub decreases-next_pred_in : goal.decreases-next_pred_in
decreases-next_pred_in l = l.left * 4 + 1

-- what was read so far, and then what is left, is all
abbrev pub invariant-preds_in-loop-value : goal.invariant-preds_in-loop-value
invariant-preds_in-loop-value l = preds_by (pred_of l.left) l.preds (map view (drop l.value-index l.values)) ≡ preds_by (pred_of l.left) [] (map view l.values)
