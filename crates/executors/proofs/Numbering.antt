-- Tasks are numbered one by one, and stay the same.
use Rattle.std.specs.Prelude.{◌≡◌, ℕ, ◌+◌, Bool, true, List, [], ◌∷◌, ◌++◌, if◌then◌else◌, refl}
use Rattle.std.proofs.Common.{sym, ◌∙◌, ap, append_assoc}
use Rattle.executors.specs.declared.contexts.TaskContext.{TaskContext}
use Rattle.executors.specs.declared.tasks.Task.{Task}
use Rattle.executors.specs.Contexts.{numbered}
use Rattle.executors.specs.Executions.{tasks_of}

pub numbered_next : (done new : List TaskContext) (context : TaskContext) (task : Task) (place : ℕ) (items rest : List Task) (all : List TaskContext) (b : Bool)
    → b ≡ true → new ≡ (if b then done ++ context ∷ [] else done) → context ≡ record { position = place; task = task } → items ≡ task ∷ rest
    → done ++ numbered place items ≡ all → new ++ numbered (place + 1) rest ≡ all
numbered_next done new context task place items rest all b ok grown made front before =
    let longer : new ≡ done ++ context ∷ [] = grown ∙ ap (λ c. if c then done ++ context ∷ [] else done) ok in
    ap (λ l. l ++ numbered (place + 1) rest) longer
    ∙ append_assoc done (context ∷ []) (numbered (place + 1) rest)
    ∙ ap (λ c. done ++ c ∷ numbered (place + 1) rest) made
    ∙ ap (λ l. done ++ numbered place l) (sym front)
    ∙ before

pub tasks_of_numbered : (place : ℕ) (tasks : List Task) → tasks_of (numbered place tasks) ≡ tasks
tasks_of_numbered place [] = refl
tasks_of_numbered place (task ∷ tasks) = ap (λ l. task ∷ l) (tasks_of_numbered (place + 1) tasks)
