-- A script's task is one that its queue's executor takes.
use Rattle.std.specs.Prelude.{◌≡◌, true, List}
use Rattle.std.proofs.lemmas.Bool.{and_parts}
use Rattle.executors.specs.declared.kinds.Kind.{Kind}
use Rattle.executors.specs.declared.tasks.Task.{Task}
use Rattle.executors.specs.Kinds.{accepts}
use Rattle.scripts.specs.declared.whole_script.ScriptNode.{ScriptNode}
use Rattle.scripts.specs.ValidSteps.{is_task_for}

pub accepts_task_for : (nodes : List ScriptNode) (kind : Kind) (task : Task) → is_task_for nodes kind task ≡ true → accepts kind task ≡ true
accepts_task_for nodes kind task valid = (and_parts _ _ valid).0
