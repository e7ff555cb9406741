use Rattle.std.proofs.Common.{◌≡◌, drop}
use Rattle.std.specs.List.{list_all}
use Rattle.report_law.specs.GoodForm.{are_apart}
use Rattle.report_law.proofs.good_forms.are_tasks_apart.Given as goal

abbrev pub invariant-loop-batch : goal.invariant-loop-batch
invariant-loop-batch l = list_all (λ b. are_apart b.entries) (drop l.batch-index l.batches) ≡ list_all (λ b. are_apart b.entries) l.fn.batches
