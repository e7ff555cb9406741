use Rattle.std.proofs.Common.{◌≡◌, ◌+◌, ◌≤◌, drop}
use Rattle.std.specs.Prelude.{count_by}
use Rattle.scripts.specs.Scripts.{is_submit}
use Rattle.master_run.proofs.node_openings.submits_in.Given as goal

abbrev pub invariant-loop-step : goal.invariant-loop-step
invariant-loop-step l = record {
  counted : l.count + count_by is_submit (drop l.step-index l.steps) ≡ count_by is_submit l.steps;
  few : l.count ≤ l.step-index;
}
