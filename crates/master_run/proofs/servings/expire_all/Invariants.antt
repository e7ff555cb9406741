use Rattle.std.proofs.Common.{◌≡◌, drop}
use Rattle.master_run.specs.Events.{CanExpire, all_expired}
use Rattle.master_run.proofs.servings.expire_all.Given as goal

abbrev pub invariant-loop-next : goal.invariant-loop-next
invariant-loop-next l = record {
  leads : all_expired l.reading (drop l.next-index l.waiting) l.tasks ≡ all_expired l.reading l.waiting l.fn.tasks;
  can : CanExpire l.reading (drop l.next-index l.waiting) l.tasks;
}
