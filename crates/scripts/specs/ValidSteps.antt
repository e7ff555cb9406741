-- When a step is valid among the nodes and queues of its script, and after the steps of its client before it. All of it
-- is this project's own.
use Rattle.std.specs.Prelude.{ℕ, ◌+◌, Bool, true, false, ◌&&◌, List, [], ◌∷◌, ◌++◌, Some, None, Option, length, max, nat_le, bytes_eq, slice_get, is_some}
use Rattle.std.specs.List.{list_all, list_any}
use Rattle.std.specs.Bool.{beq}
use Rattle.meta_state.specs.declared.predicates.Pred.{Pred, fold-Pred}
use Rattle.meta_state.specs.declared.predicates.Pred.TheOpen.{Pred-F}
use Rattle.executors.specs.declared.kinds.Kind.{Kind}
use Rattle.executors.specs.declared.tasks.Task.{Task}
use Rattle.executors.specs.declared.tasks.Task.TheVariants as task
use Rattle.executors.specs.declared.task_forms.TaskForm.{TaskForm}
use Rattle.executors.specs.Kinds.{form_of}
use Rattle.executors.specs.TaskForms.{is_of_form}
use Rattle.scripts.specs.declared.queues.QueueSpec.{QueueSpec}
use Rattle.scripts.specs.declared.whole_script.ScriptNode.{ScriptNode}
use Rattle.scripts.specs.declared.steps.Ack.{Ack}
use Rattle.scripts.specs.declared.steps.Goal.{Goal}
use Rattle.scripts.specs.declared.steps.Goal.TheVariants as goal
use Rattle.scripts.specs.declared.steps.Step.{Step}
use Rattle.scripts.specs.declared.steps.Step.TheVariants as step
use Rattle.scripts.specs.Names.{are_distinct}

abbrev pub is_between : ℕ → ℕ → ℕ → Bool
is_between low high n = nat_le low n && nat_le n high

-- ---- references

-- whether a name is that of one of these nodes
abbrev pub is_node_among : List ScriptNode → List ℕ → Bool
is_node_among nodes name = list_any (λ n. bytes_eq name n.name) nodes

-- whether one of these nodes has this name and this flag
abbrev pub is_node_so : List ScriptNode → List ℕ → Bool → Bool
is_node_so nodes name eligible = list_any (λ n. bytes_eq name n.name && beq eligible n.eligible) nodes

-- ---- times, in milliseconds

abbrev pub is_time : ℕ → Bool
is_time ms = nat_le ms 4294967295

abbrev pub is_positive_time : ℕ → Bool
is_positive_time ms = is_between 1 4294967295 ms

abbrev pub is_if_some : {A : Type 0} → (A → Bool) → Option A → Bool
is_if_some test None = true
is_if_some test (Some a) = test a

-- ---- predicates: they nest at most 16 deep, the outermost being 1

abbrev pub deepest : List ℕ → ℕ
deepest [] = 0
deepest (depth ∷ depths) = max depth (deepest depths)

abbrev pub depth_step : Pred-F ℕ → ℕ
depth_step (Pred-F.Not depth) = depth + 1
depth_step (Pred-F.All depths) = deepest depths + 1
depth_step (Pred-F.Any depths) = deepest depths + 1
depth_step _ = 1

abbrev pub depth_of : Pred → ℕ
depth_of = fold-Pred ℕ depth_step

abbrev pub is_pred : Pred → Bool
is_pred pred = nat_le (depth_of pred) 16

-- ---- steps

-- a task of joining or leaving is about one of these nodes, and one of joining carries the node's flag
abbrev pub is_of_nodes : List ScriptNode → Task → Bool
is_of_nodes nodes (task.Join node) = is_node_so nodes node.name node.eligible
is_of_nodes nodes (task.Leave name) = is_node_among nodes name
is_of_nodes nodes _ = true

-- whether a task is of a form, and about these nodes
abbrev pub is_task_of : List ScriptNode → TaskForm → Task → Bool
is_task_of nodes form task = is_of_form form task && is_of_nodes nodes task

-- whether a queue's executor takes a task, and the task is about these nodes
abbrev pub is_task_for : List ScriptNode → Kind → Task → Bool
is_task_for nodes kind task = is_task_of nodes (form_of kind) task

abbrev pub is_queue_for : List ScriptNode → Task → Option QueueSpec → Bool
is_queue_for nodes task None = false
is_queue_for nodes task (Some queue) = is_task_for nodes queue.executor task

abbrev pub are_asked : List ScriptNode → List (List ℕ) → Bool
are_asked nodes names = list_all (is_node_among nodes) names && are_distinct names

abbrev pub is_ack : List ScriptNode → Ack → Bool
is_ack nodes ack = is_if_some (are_asked nodes) ack.nodes && is_if_some is_time ack.timeout

-- whether an earlier step is of the kind that a goal needs
abbrev pub is_goal : Goal → Option Step → Bool
is_goal goal.Task (Some (step.Submit queue task timeout ack)) = true
is_goal goal.Ack (Some (step.Submit queue task timeout ack)) = is_some ack
is_goal goal.Watch (Some (step.Watch node pred thens timeout)) = true
is_goal goal.Watch (Some (step.Next watch pred thens timeout)) = true
is_goal _ _ = false

abbrev pub are_preds : Pred → List Pred → Bool
are_preds pred thens = is_pred pred && (nat_le (length thens) 8 && list_all is_pred thens)

-- whether a step may stand after the steps of its client before it
abbrev pub is_step : List ScriptNode → List QueueSpec → List Step → Step → Bool
is_step nodes queues before (step.Submit queue task timeout ack) =
    is_queue_for nodes task (slice_get queues queue) && (is_if_some is_positive_time timeout && is_if_some (is_ack nodes) ack)
is_step nodes queues before (step.Await earlier goal) = is_goal goal (slice_get before earlier)
is_step nodes queues before (step.Watch node pred thens timeout) = is_node_among nodes node && (are_preds pred thens && is_positive_time timeout)
is_step nodes queues before (step.Next watch pred thens timeout) = is_goal goal.Watch (slice_get before watch) && (are_preds pred thens && is_positive_time timeout)
is_step nodes queues before (step.Read node look) = is_node_among nodes node
is_step nodes queues before (step.Sleep ms) = is_time ms
is_step nodes queues before step.Close = true

abbrev pub are_steps : List ScriptNode → List QueueSpec → List Step → List Step → Bool
are_steps nodes queues before [] = true
are_steps nodes queues before (step ∷ steps) = is_step nodes queues before step && are_steps nodes queues (before ++ step ∷ []) steps

abbrev pub is_client : List ScriptNode → List QueueSpec → List Step → Bool
is_client nodes queues steps = nat_le (length steps) 4096 && are_steps nodes queues [] steps
