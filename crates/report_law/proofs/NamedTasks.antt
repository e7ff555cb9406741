-- What a valid script says of its tasks: one of joining is of a node of the script, and so of a name.
use Rattle.std.specs.Prelude.{◌≡◌, ℕ, zero, suc, ◌&&◌, ◌||◌, Bool, true, false, List, [], ◌∷◌, ◌++◌, Option, Some, None, bytes_eq, option_and_then, slice_get, refl, IsTrue}
use Rattle.std.proofs.Common.{sym, subst}
use Rattle.std.specs.Bool.{beq}
use Rattle.std.specs.List.{AllByRecursion, cons_option, list_all}
use Rattle.std.proofs.lemmas.Bool.{and_parts, true≢false}
use Rattle.std.proofs.lemmas.Slice.Eq.{bytes_eq-Decides}
use Rattle.executors.specs.declared.tasks.Task.{Task}
use Rattle.executors.specs.declared.tasks.Task.TheVariants as task
use Rattle.executors.specs.Kinds.{form_of}
use Rattle.executors.specs.TaskForms.{is_of_form}
use Rattle.scripts.specs.declared.queues.QueueSpec.{QueueSpec}
use Rattle.scripts.specs.declared.steps.Step.{Step}
use Rattle.scripts.specs.declared.steps.Step.TheVariants as step
use Rattle.scripts.specs.declared.whole_script.Script.{Script}
use Rattle.scripts.specs.declared.whole_script.ScriptNode.{ScriptNode}
use Rattle.scripts.specs.Names.{is_name}
use Rattle.scripts.specs.Scripts.{IsScript}
use Rattle.scripts.specs.ValidSteps.{are_steps, is_client, is_node_so, is_of_nodes, is_queue_for, is_step}
use Rattle.session_law.specs.declared.batches.Entry.{Entry}
use Rattle.session_law.specs.Histories.{step_at, submitted, task_at, tasks_at}
use Rattle.report_law.proofs.NamedStates.{is_named_task}

either : {R : Type 0} (a b : Bool) → (a || b) ≡ true → (a ≡ true → R) → (b ≡ true → R) → R
either true b p first second = first refl
either false b p first second = second p

-- one of some nodes has a name of theirs
node_so_named : (nodes : List ScriptNode) (name : List ℕ) (eligible : Bool) → list_all (λ n. is_name n.name) nodes ≡ true → is_node_so nodes name eligible ≡ true
    → IsTrue (is_name name)
node_so_named [] name eligible named so = absurd (true≢false (sym so))
node_so_named (node ∷ nodes) name eligible named so =
    either (bytes_eq name node.name && beq eligible node.eligible) (is_node_so nodes name eligible) so
    (λ e. subst (λ n. IsTrue (is_name n)) (sym ((bytes_eq-Decides name node.name).0 (and_parts _ _ e).0)) (and_parts _ _ named).0)
    (λ e. node_so_named nodes name eligible (and_parts _ _ named).1 e)

module _ (nodes : List ScriptNode) (named : list_all (λ n. is_name n.name) nodes ≡ true) where
  of_nodes_named : (one : Task) → is_of_nodes nodes one ≡ true → IsTrue (is_named_task one)
  of_nodes_named (task.Join node) e = node_so_named nodes node.name node.eligible named e
  of_nodes_named (task.CreateIndex _ _ _) e = refl
  of_nodes_named (task.DeleteIndex _) e = refl
  of_nodes_named (task.IndexSetting _ _ _) e = refl
  of_nodes_named (task.OpenClose _ _) e = refl
  of_nodes_named (task.Alias _ _ _) e = refl
  of_nodes_named (task.ClusterSetting _ _) e = refl
  of_nodes_named (task.Leave _) e = refl
  of_nodes_named task.Reelect e = refl

  queue_named : (one : Task) (queue : Option QueueSpec) → is_queue_for nodes one queue ≡ true → IsTrue (is_named_task one)
  queue_named one None e = absurd (true≢false (sym e))
  queue_named one (Some queue) e = of_nodes_named one (and_parts (is_of_form (form_of queue.executor) one) (is_of_nodes nodes one) e).1

  abbrev is_named_option : Option Task → Bool
  is_named_option None = true
  is_named_option (Some one) = is_named_task one

  abbrev is_named_step : Step → Bool
  is_named_step s = is_named_option (submitted s)

  step_named : (queues : List QueueSpec) (before : List Step) (s : Step) → is_step nodes queues before s ≡ true → is_named_step s ≡ true
  step_named queues before (step.Submit queue one timeout ack) e = queue_named one (slice_get queues queue) (and_parts _ _ e).0
  step_named queues before (step.Await _ _) e = refl
  step_named queues before (step.Watch _ _ _ _) e = refl
  step_named queues before (step.Next _ _ _ _) e = refl
  step_named queues before (step.Read _ _) e = refl
  step_named queues before (step.Sleep _) e = refl
  step_named queues before step.Close e = refl

  -- where there is none, or it is so
  abbrev is_so : {A : Type 0} → (A → Bool) → Option A → Bool
  is_so test None = true
  is_so test (Some a) = test a

  steps_named : (queues : List QueueSpec) (before steps : List Step) → are_steps nodes queues before steps ≡ true → (n : ℕ) → is_so is_named_step (slice_get steps n) ≡ true
  steps_named queues before [] e n = refl
  steps_named queues before (s ∷ steps) e zero = step_named queues before s (and_parts _ _ e).0
  steps_named queues before (s ∷ steps) e (suc n) = steps_named queues (before ++ s ∷ []) steps (and_parts (is_step nodes queues before s) _ e).1 n

  option_named : (found : Option Step) → is_so is_named_step found ≡ true → is_named_option (option_and_then submitted found) ≡ true
  option_named None e = refl
  option_named (Some s) e = e

  clients_named : (queues : List QueueSpec) (clients : List (List Step)) → list_all (is_client nodes queues) clients ≡ true → (client n : ℕ)
      → is_so is_named_step (option_and_then (λ steps. slice_get steps n) (slice_get clients client)) ≡ true
  clients_named queues [] e client n = refl
  clients_named queues (steps ∷ clients) e zero n = steps_named queues [] steps (and_parts _ _ (and_parts _ _ e).0).1 n
  clients_named queues (steps ∷ clients) e (suc client) n = clients_named queues clients (and_parts _ _ e).1 client n

  put_option : (found : Option Task) (tasks : List Task) → is_named_option found ≡ true → AllByRecursion (λ t. IsTrue (is_named_task t)) tasks
      → AllByRecursion (λ t. IsTrue (is_named_task t)) (cons_option found tasks)
  put_option None tasks one all = all
  put_option (Some _) tasks one all = (one, all)

-- the tasks of entries of a valid script
pub tasks_named : (script : Script) → IsScript script → (entries : List Entry) → AllByRecursion (λ t. IsTrue (is_named_task t)) (tasks_at script entries)
tasks_named script valid [] = tt
tasks_named script valid (entry ∷ entries) =
    put_option script.nodes valid.nodes_named (task_at script entry) (tasks_at script entries)
    (option_named script.nodes valid.nodes_named (step_at script entry.client entry.step)
    (clients_named script.nodes valid.nodes_named script.queues script.clients valid.clients entry.client entry.step))
    (tasks_named script valid entries)
