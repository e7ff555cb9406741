-- A submit, and a reference to an earlier step, as they were read.
use Rattle.std.proofs.Common.{◌≡◌, ℕ, true, List, [], Some, None, arith}
use Rattle.std.specs.Prelude.{slice_get, Option, option_map}
use Rattle.std.specs.Cmp.Derive.{both_true}
use Rattle.std.proofs.lemmas.Grind.{common_steps}
use Rattle.executors.specs.declared.kinds.Kind.{Kind}
use Rattle.scripts.specs.declared.queues.QueueSpec.{QueueSpec}
use Rattle.scripts.specs.declared.whole_script.ScriptNode.{ScriptNode}
use Rattle.scripts.specs.declared.steps.Ack.{Ack}
use Rattle.scripts.specs.declared.steps.Step.TheVariants as step
use Rattle.executors.specs.declared.tasks.Task.{Task}
use Rattle.scripts.specs.ValidSteps.{is_ack, is_if_some, is_queue_for, is_step, is_task_for, is_time, is_positive_time}
use Rattle.script_form.specs.Queues.{kind_at}
use Rattle.script_form.specs.Steps.{none_if_zero}

queue_at : (nodes : List ScriptNode) (made : Task) (executor : Kind) (queue : Option QueueSpec) → option_map (λ (q : QueueSpec). q.executor) queue ≡ Some executor → is_task_for nodes executor made ≡ true → is_queue_for nodes made queue ≡ true
queue_at nodes made executor None there valid = absurd cc
queue_at nodes made executor (Some queue) there valid = grind (arith, common_steps)

timeout_valid : (ms : ℕ) → is_time ms ≡ true → is_if_some is_positive_time (none_if_zero ms) ≡ true
timeout_valid ms valid = grind (arith, common_steps)

pub is_submit_valid : (nodes : List ScriptNode) (queues : List QueueSpec) (queue : ℕ) (executor : Kind) (made : Task) (ms : ℕ) (ack : Option Ack)
    → kind_at queues queue ≡ Some executor → is_task_for nodes executor made ≡ true → is_time ms ≡ true → is_if_some (is_ack nodes) ack ≡ true
    → is_step nodes queues [] (step.Submit queue made (none_if_zero ms) ack) ≡ true
is_submit_valid nodes queues queue executor made ms ack there valid time asked =
    both_true (queue_at nodes made executor (slice_get queues queue) there valid) (both_true (timeout_valid ms time) asked)
