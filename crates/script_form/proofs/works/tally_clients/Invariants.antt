use Rattle.std.proofs.Common.{◌≡◌, ◌≤◌, ◌+◌, ◌*◌, drop, length}
use Rattle.std.specs.Prelude.{count_by, flat_map, nat_le, IsTrue}
use Rattle.std.specs.List.{list_all}
use Rattle.scripts.specs.Scripts.{is_alias_read, is_submit}
use Rattle.script_form.proofs.works.tally_clients.Given as goal

-- what was counted so far and what is left make all
abbrev pub invariant-loop-steps : goal.invariant-loop-steps
invariant-loop-steps l = record {
  submits : l.submits + count_by is_submit (flat_map (λ s. s) (drop l.steps-index l.clients)) ≡ count_by is_submit (flat_map (λ s. s) l.clients);
  reads : l.reads + count_by is_alias_read (flat_map (λ s. s) (drop l.steps-index l.clients)) ≡ count_by is_alias_read (flat_map (λ s. s) l.clients);
  few_submits : l.submits ≤ l.steps-index * 4096;
  few_reads : l.reads ≤ l.steps-index * 4096;
  short : IsTrue (list_all (λ steps. nat_le (length steps) 4096) (drop l.steps-index l.clients));
}
