use Rattle.std.proofs.Common.{◌≡◌, ◌++◌, drop}
use Rattle.session_law.specs.Histories.{tasks_at}
use Rattle.master_run.proofs.plans.copy_tasks.Given as goal

abbrev pub invariant-loop-entry : goal.invariant-loop-entry
invariant-loop-entry l = l.tasks.items ++ tasks_at l.script (drop l.entry-index l.entries) ≡ tasks_at l.script l.entries
