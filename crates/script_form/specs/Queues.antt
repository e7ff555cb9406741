-- The queues of a script: at most 64, each of a name of its own, with an executor and a priority. The words are this
-- project's own; the priorities are those of Elasticsearch (`Priority`).
use Rattle.std.specs.Prelude.{ℕ, ◌+◌, Bool, List, [], ◌∷◌, Some, None, Option, Result, Ok, codes, bytes_eq, option_map, slice_get, if◌then◌else◌}
use Rattle.std.specs.List.{list_any}
use Rattle.serde_json.specs.Data.{Data}
use Rattle.executors.specs.declared.kinds.Kind.{Kind}
use Rattle.executors.specs.declared.kinds.Kind.TheVariants as kind
use Rattle.scripts.specs.declared.queues.Priority.{Priority}
use Rattle.scripts.specs.declared.queues.Priority.TheVariants as priority
use Rattle.scripts.specs.declared.queues.QueueSpec.{QueueSpec}
use Rattle.script_form.specs.declared.limits.LimitName.TheVariants.{Queues}
use Rattle.script_form.specs.declared.misfits.Misfit.{Misfit}
use Rattle.script_form.specs.declared.rules.Rule.TheVariants.{Twice, Reference}
use Rattle.script_form.specs.Misfits.{◌>>=◌, bad, some_or, at_member, within}
use Rattle.script_form.specs.Parts.{check_members, required, optional, short_list, each, text_of, name_of, word_of, meaning_in}

-- the executor of this name
unfoldable pub executor_named : List ℕ → Option Kind
executor_named = meaning_in (
    (codes "create_index", kind.CreateIndex) ∷
    (codes "delete_index", kind.DeleteIndex) ∷
    (codes "index_settings", kind.IndexSettings) ∷
    (codes "open_close", kind.OpenClose) ∷
    (codes "aliases", kind.Aliases) ∷
    (codes "aliases_atomic", kind.AliasesAtomic) ∷
    (codes "cluster_settings", kind.ClusterSettings) ∷
    (codes "nodes", kind.Nodes) ∷
    (codes "reelect", kind.Reelect) ∷
    [])

-- the priority of this name
unfoldable pub priority_named : List ℕ → Option Priority
priority_named = meaning_in (
    (codes "IMMEDIATE", priority.Immediate) ∷
    (codes "URGENT", priority.Urgent) ∷
    (codes "HIGH", priority.High) ∷
    (codes "NORMAL", priority.Normal) ∷
    (codes "LOW", priority.Low) ∷
    (codes "LANGUID", priority.Languid) ∷
    [])

-- a queue: `name`, `executor` and `priority`, of which the last may be left out
unfoldable pub queue_of : Data → Result QueueSpec Misfit
queue_of d =
    check_members (codes "name" ∷ codes "executor" ∷ codes "priority" ∷ []) d >>= λ _.
    required (codes "name") name_of d >>= λ name.
    required (codes "executor") (word_of executor_named) d >>= λ executor.
    optional (codes "priority") priority.Normal (word_of priority_named) d >>= λ level.
    Ok (record { name = name; executor = executor; priority = level })

abbrev pub is_queue_name : List QueueSpec → List ℕ → Bool
is_queue_name queues name = list_any (λ q. bytes_eq name q.name) queues

-- no name twice
abbrev pub fit_queue : List QueueSpec → QueueSpec → Result QueueSpec Misfit
fit_queue before queue = if is_queue_name before queue.name then within (at_member (codes "name")) (bad Twice) else Ok queue

abbrev pub queue_after : List QueueSpec → Data → Result QueueSpec Misfit
queue_after before d = queue_of d >>= fit_queue before

abbrev pub queues_of : Data → Result (List QueueSpec) Misfit
queues_of d = short_list 64 Queues d >>= each queue_after []

-- ---- the queue that a text names: its number, counted on from `n`, and its executor

abbrev pub find_queue : ℕ → List QueueSpec → List ℕ → Option (ℕ × Kind)
find_queue n [] name = None
find_queue n (queue ∷ queues) name = if bytes_eq name queue.name then Some (n, queue.executor) else find_queue (n + 1) queues name

abbrev pub queue_named : List QueueSpec → Data → Result (ℕ × Kind) Misfit
queue_named queues d = text_of d >>= λ name. some_or Reference (find_queue 0 queues name)

-- the executor of the queue of a number
abbrev pub kind_at : List QueueSpec → ℕ → Option Kind
kind_at queues number = option_map (λ q. q.executor) (slice_get queues number)

abbrev pub queue_name : QueueSpec → List ℕ
queue_name queue = queue.name
