-- The steps of a client, by what they do. A step may refer to the steps of its client before it. The form is this
-- project's own.
use Rattle.std.specs.Prelude.{ℕ, ◌==◌, List, [], ◌∷◌, Some, None, Option, Result, Ok, codes, bytes_eq, length, nat_lt, slice_get, if◌then◌else◌}
use Rattle.std.specs.List.{list_any}
use Rattle.serde_json.specs.Data.{Data, Items}
use Rattle.serde_json.specs.Find.{get, as_str, as_array}
use Rattle.meta_state.specs.declared.looks.Look.{Look}
use Rattle.meta_state.specs.declared.looks.Look.TheVariants as look
use Rattle.scripts.specs.declared.queues.QueueSpec.{QueueSpec}
use Rattle.scripts.specs.declared.whole_script.ScriptNode.{ScriptNode}
use Rattle.scripts.specs.declared.steps.Ack.{Ack}
use Rattle.scripts.specs.declared.steps.Goal.{Goal}
use Rattle.scripts.specs.declared.steps.Goal.TheVariants as goal
use Rattle.scripts.specs.declared.steps.Step.{Step}
use Rattle.scripts.specs.declared.steps.Step.TheVariants as step
use Rattle.executors.specs.Kinds.{form_of}
use Rattle.scripts.specs.ValidSteps.{is_goal}
use Rattle.script_form.specs.declared.misfits.Misfit.{Misfit}
use Rattle.script_form.specs.declared.rules.Rule.TheVariants.{WrongType, Missing, Value, Reference, Twice}
use Rattle.script_form.specs.Misfits.{◌>>=◌, bad, if_so, at_member, within}
use Rattle.script_form.specs.Nodes.{node_named}
use Rattle.script_form.specs.Parts.{object_of, check_members, required, optional, items_list, each, text_of, whole_of, time_of, positive_of, word_of, meaning_in}
use Rattle.script_form.specs.Predicates.{pred_of, thens_of}
use Rattle.script_form.specs.Queues.{queue_named}
use Rattle.script_form.specs.Tasks.{task_of}

-- ---- submit

-- a node to be asked, which no one before it is
abbrev pub fit_asked : List (List ℕ) → ScriptNode → Result (List ℕ) Misfit
fit_asked before node = if list_any (bytes_eq node.name) before then bad Twice else Ok node.name

abbrev pub next_asked : List ScriptNode → List (List ℕ) → Data → Result (List ℕ) Misfit
next_asked nodes before d = node_named nodes d >>= fit_asked before

-- all nodes, or those of a list
abbrev pub asked_in : List ScriptNode → Option (List ℕ) → Option Items → Result (Option (List (List ℕ))) Misfit
asked_in nodes (Some text) _ = if bytes_eq text (codes "all") then Ok None else bad Value
asked_in nodes None None = bad WrongType
asked_in nodes None (Some ds) = each (next_asked nodes) [] (items_list ds) >>= λ names. Ok (Some names)

abbrev pub asked_of : List ScriptNode → Data → Result (Option (List (List ℕ))) Misfit
asked_of nodes d = asked_in nodes (as_str d) (as_array d)

abbrev pub some_time_of : Data → Result (Option ℕ) Misfit
some_time_of d = time_of d >>= λ ms. Ok (Some ms)

-- an acknowledgement: `nodes`, and `timeout`, which may be left out
unfoldable pub ack_of : List ScriptNode → Data → Result Ack Misfit
ack_of nodes d =
    check_members (codes "nodes" ∷ codes "timeout" ∷ []) d >>= λ _.
    required (codes "nodes") (asked_of nodes) d >>= λ names.
    optional (codes "timeout") None some_time_of d >>= λ timeout.
    Ok (record { nodes = names; timeout = timeout })

abbrev pub some_ack_of : List ScriptNode → Data → Result (Option Ack) Misfit
some_ack_of nodes d = ack_of nodes d >>= λ ack. Ok (Some ack)

-- a timeout of 0 is none
abbrev pub none_if_zero : ℕ → Option ℕ
none_if_zero ms = if ms == 0 then None else Some ms

unfoldable pub submit_of : List ScriptNode → List QueueSpec → Data → Result Step Misfit
submit_of nodes queues d =
    check_members (codes "do" ∷ codes "queue" ∷ codes "task" ∷ codes "timeout" ∷ codes "ack" ∷ []) d >>= λ _.
    required (codes "queue") (queue_named queues) d >>= λ queue.
    required (codes "task") (task_of nodes (form_of queue.1)) d >>= λ task.
    optional (codes "timeout") 0 time_of d >>= λ timeout.
    optional (codes "ack") None (some_ack_of nodes) d >>= λ ack.
    Ok (step.Submit queue.0 task (none_if_zero timeout) ack)

-- ---- await

-- the number of an earlier step
abbrev pub earlier_of : List Step → Data → Result ℕ Misfit
earlier_of before d = whole_of d >>= if_so Reference (λ number. nat_lt number (length before))

unfoldable pub goal_named : List ℕ → Option Goal
goal_named = meaning_in (
    (codes "task", goal.Task) ∷
    (codes "ack", goal.Ack) ∷
    (codes "watch", goal.Watch) ∷
    [])

-- the step has to be of the kind that the goal needs
abbrev pub fit_await : List Step → ℕ → Goal → Result Step Misfit
fit_await before number awaited =
    if is_goal awaited (slice_get before number) then Ok (step.Await number awaited) else within (at_member (codes "step")) (bad Reference)

unfoldable pub await_of : List Step → Data → Result Step Misfit
await_of before d =
    check_members (codes "do" ∷ codes "step" ∷ codes "for" ∷ []) d >>= λ _.
    required (codes "step") (earlier_of before) d >>= λ number.
    required (codes "for") (word_of goal_named) d >>= λ awaited.
    fit_await before number awaited

-- ---- watch and next

unfoldable pub watch_of : List ScriptNode → Data → Result Step Misfit
watch_of nodes d =
    check_members (codes "do" ∷ codes "node" ∷ codes "pred" ∷ codes "then" ∷ codes "timeout" ∷ []) d >>= λ _.
    required (codes "node") (node_named nodes) d >>= λ node.
    required (codes "pred") (pred_of 16) d >>= λ pred.
    optional (codes "then") [] thens_of d >>= λ thens.
    required (codes "timeout") positive_of d >>= λ timeout.
    Ok (step.Watch node.name pred thens timeout)

-- the number of an earlier watch
abbrev pub watched_of : List Step → Data → Result ℕ Misfit
watched_of before d = whole_of d >>= if_so Reference (λ number. is_goal goal.Watch (slice_get before number))

unfoldable pub next_watch_of : List Step → Data → Result Step Misfit
next_watch_of before d =
    check_members (codes "do" ∷ codes "watch" ∷ codes "pred" ∷ codes "then" ∷ codes "timeout" ∷ []) d >>= λ _.
    required (codes "watch") (watched_of before) d >>= λ number.
    required (codes "pred") (pred_of 16) d >>= λ pred.
    optional (codes "then") [] thens_of d >>= λ thens.
    required (codes "timeout") positive_of d >>= λ timeout.
    Ok (step.Next number pred thens timeout)

-- ---- read, sleep and close

-- exactly one of three
abbrev pub look_at : Option Data → Option Data → Option Data → Result Look Misfit
look_at (Some d) None None = within (at_member (codes "index")) (text_of d) >>= λ name. Ok (look.Index name)
look_at None (Some d) None = within (at_member (codes "alias")) (text_of d) >>= λ name. Ok (look.Alias name)
look_at None None (Some d) = within (at_member (codes "setting")) (text_of d) >>= λ key. Ok (look.Setting key)
look_at None None None = bad Missing
look_at _ _ _ = bad Value

unfoldable pub look_of : Data → Result Look Misfit
look_of d = look_at (get (codes "index") d) (get (codes "alias") d) (get (codes "setting") d)

unfoldable pub read_of : List ScriptNode → Data → Result Step Misfit
read_of nodes d =
    check_members (codes "do" ∷ codes "node" ∷ codes "index" ∷ codes "alias" ∷ codes "setting" ∷ []) d >>= λ _.
    required (codes "node") (node_named nodes) d >>= λ node.
    look_of d >>= λ look.
    Ok (step.Read node.name look)

unfoldable pub sleep_of : Data → Result Step Misfit
sleep_of d =
    check_members (codes "do" ∷ codes "ms" ∷ []) d >>= λ _.
    required (codes "ms") time_of d >>= λ ms.
    Ok (step.Sleep ms)

unfoldable pub close_of : Data → Result Step Misfit
close_of d = check_members (codes "do" ∷ []) d >>= λ _. Ok step.Close

-- ---- a step, by its word

unfoldable pub step_as : List ScriptNode → List QueueSpec → List Step → List ℕ → Data → Result Step Misfit
step_as nodes queues before word d =
    if bytes_eq word (codes "submit") then submit_of nodes queues d else
    (if bytes_eq word (codes "await") then await_of before d else
    (if bytes_eq word (codes "watch") then watch_of nodes d else
    (if bytes_eq word (codes "next") then next_watch_of before d else
    (if bytes_eq word (codes "read") then read_of nodes d else
    (if bytes_eq word (codes "sleep") then sleep_of d else
    (if bytes_eq word (codes "close") then close_of d else within (at_member (codes "do")) (bad Value)))))))

-- what it does is looked at before its other members
unfoldable pub step_of : List ScriptNode → List QueueSpec → List Step → Data → Result Step Misfit
step_of nodes queues before d =
    object_of d >>= λ _.
    required (codes "do") text_of d >>= λ word.
    step_as nodes queues before word d
