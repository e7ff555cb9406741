use Rattle.std.proofs.Common.{◌≡◌, drop}
use Rattle.master_run.specs.Servings.{CanEnd, ended_all}
use Rattle.master_run.proofs.servings.end_all.Given as goal

abbrev pub invariant-loop-entry : goal.invariant-loop-entry
invariant-loop-entry l = record {
  leads : ended_all l.batch (drop l.entry-index l.entries) l.left l.tasks ≡ ended_all l.batch l.entries l.ends l.fn.tasks;
  can : CanEnd l.batch (drop l.entry-index l.entries) l.left l.tasks;
}
