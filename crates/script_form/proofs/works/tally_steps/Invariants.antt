use Rattle.std.proofs.Common.{◌≡◌, ◌≤◌, ◌+◌, drop}
use Rattle.std.specs.Prelude.{count_by}
use Rattle.scripts.specs.Scripts.{is_alias_read, is_submit}
use Rattle.script_form.proofs.works.tally_steps.Given as goal

-- what was counted so far and what is left make all
abbrev pub invariant-loop-step : goal.invariant-loop-step
invariant-loop-step l = record {
  submits : l.submits + count_by is_submit (drop l.step-index l.steps) ≡ count_by is_submit l.steps;
  reads : l.reads + count_by is_alias_read (drop l.step-index l.steps) ≡ count_by is_alias_read l.steps;
  few_submits : l.submits ≤ l.step-index;
  few_reads : l.reads ≤ l.step-index;
}
