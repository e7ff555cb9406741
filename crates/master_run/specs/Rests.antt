-- When a course has come to rest: nothing waits, no client has a step left, and no node has anything left to apply.
use Rattle.std.specs.Prelude.{◌≡◌, ℕ, [], None}
use Rattle.std.specs.List.{AllByRecursion}
use Rattle.scripts.specs.declared.whole_script.Script.{Script}
use Rattle.master_run.specs.Courses.{Course}
use Rattle.master_run.specs.Steps.{next_step_of}

pub record IsAtRest (script : Script) (k : Course) : Type 0 where
  pub empty : k.waiting ≡ []
  pub ended : (client : ℕ) → next_step_of script k client ≡ None
  pub applied : AllByRecursion (λ n. n.left ≡ []) k.nodes
