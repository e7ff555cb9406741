use Rattle.std.proofs.Common.{◌≡◌}
use Rattle.session_law.specs.BatchSteps.{all_end}
use Rattle.master_run.proofs.plans.all_ended.Given as goal

abbrev pub invariant-loop-entry : goal.invariant-loop-entry
invariant-loop-entry l = l.ends ≡ all_end l.end l._entry-index
