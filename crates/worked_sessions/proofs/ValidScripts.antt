-- The scripts of the worked sessions are valid: every name, reference, range and limit, by computing it, but for the depth
-- of the predicates that they watch for.
use Rattle.std.specs.Prelude.{◌≡◌, ℕ, true, List, nat_le}
use Rattle.std.proofs.Common.{sym, ap, ◌∙◌, arith}
use Rattle.meta_state.specs.declared.predicates.Pred.{fold-roll-Pred}
use Rattle.meta_state.specs.declared.predicates.Pred.TheOpen.{Pred-F}
use Rattle.meta_state.specs.declared.predicates.Pred.TheVariants.{Index, Setting, rolls-Index, rolls-Setting}
use Rattle.scripts.specs.Scripts.{IsScript}
use Rattle.scripts.specs.ValidSteps.{depth_of, depth_step, is_pred}
use Rattle.worked_sessions.specs.Awaiting.{awaiting_script}
use Rattle.worked_sessions.specs.Mixed.{mixed_script}
use Rattle.worked_sessions.specs.Stopped.{stopped_script}
use Rattle.worked_sessions.specs.Troubled.{troubled_script}
use Rattle.worked_sessions.specs.Worked.{worked_script}

index_pred : (name : List ℕ) → is_pred (Index name) ≡ true
index_pred name = ap (λ d. nat_le d 16) (ap depth_of (sym (rolls-Index name)) ∙ fold-roll-Pred ℕ depth_step (Pred-F.Index name))

setting_pred : (key value : List ℕ) → is_pred (Setting key value) ≡ true
setting_pred key value = ap (λ d. nat_le d 16) (ap depth_of (sym (rolls-Setting key value)) ∙ fold-roll-Pred ℕ depth_step (Pred-F.Setting key value))

pub worked_valid : IsScript worked_script
worked_valid = grind (arith, index_pred, setting_pred)

pub troubled_valid : IsScript troubled_script
troubled_valid = grind arith

pub stopped_valid : IsScript stopped_script
stopped_valid = grind (arith, index_pred, setting_pred)

pub mixed_valid : IsScript mixed_script
mixed_valid = grind (arith, index_pred, setting_pred)

pub awaiting_valid : IsScript awaiting_script
awaiting_valid = grind (arith, index_pred, setting_pred)
