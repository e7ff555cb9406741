use Rattle.std.proofs.Common.{◌≡◌, [], drop}
use Rattle.master_run.specs.Servings.{CanGather, gathered}
use Rattle.master_run.proofs.servings.gather.Given as goal

abbrev pub invariant-loop-next : goal.invariant-loop-next
invariant-loop-next l = record {
  leads : gathered l.batch (drop l.next-index l.waiting) (record { entries = l.entries.items; tasks = l.tasks }) ≡ gathered l.batch l.waiting (record { entries = []; tasks = l.fn.tasks });
  can : CanGather l.batch (drop l.next-index l.waiting) l.tasks;
}
