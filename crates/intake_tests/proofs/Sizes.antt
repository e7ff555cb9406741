-- A batch keeps how many sizes there are.
use Rattle.std.specs.Prelude.{◌≡◌, ℕ, length, Option, Some, None, refl}
use Rattle.std.proofs.Common.{◌∙◌, ap}
use Rattle.std.proofs.lemmas.List.{length-set}
use Rattle.task_words.specs.Words.{TaskTable}
use Rattle.master_intake.specs.Intakes.{covered_by}

sizes_by : (found : Option ℕ) (tasks : TaskTable) → length (covered_by found tasks).sizes ≡ length tasks.sizes
sizes_by None tasks = refl
sizes_by (Some queue) tasks = length-set tasks.sizes queue 0

pub sizes_covered : (found : Option ℕ) (before after : TaskTable) → after ≡ covered_by found before → length after.sizes ≡ length before.sizes
sizes_covered found before after e = ap (λ (t : TaskTable). length t.sizes) e ∙ sizes_by found before
