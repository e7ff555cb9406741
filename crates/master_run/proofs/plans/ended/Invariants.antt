use Rattle.std.proofs.Common.{◌≡◌, ◌++◌, drop, map}
use Rattle.session_law.specs.BatchSteps.{end_of}
use Rattle.master_run.proofs.plans.ended.Given as goal

abbrev pub invariant-loop-mark : goal.invariant-loop-mark
invariant-loop-mark l = l.ends ++ map (end_of l.success) (drop l.mark-index l.marks) ≡ map (end_of l.success) l.marks
