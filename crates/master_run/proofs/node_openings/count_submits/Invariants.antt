use Rattle.std.proofs.Common.{◌≡◌, ◌+◌, ◌*◌, ◌≤◌, drop}
use Rattle.std.specs.Prelude.{count_by, flat_map}
use Rattle.scripts.specs.Scripts.{is_submit, submits}
use Rattle.master_run.proofs.node_openings.count_submits.Given as goal

abbrev pub invariant-loop-steps : goal.invariant-loop-steps
invariant-loop-steps l = record {
  counted : l.count + count_by is_submit (flat_map (λ steps. steps) (drop l.steps-index l.script.clients)) ≡ submits l.script;
  few : l.count ≤ 4096 * l.steps-index;
}
