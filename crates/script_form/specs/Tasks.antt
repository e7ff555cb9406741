-- The task of a submit, whose members are told by the form of task that the queue's executor takes. All of it is this
-- project's own.
use Rattle.std.specs.Prelude.{ℕ, Bool, true, false, List, [], ◌∷◌, Some, None, Option, Result, Ok, codes, if◌then◌else◌}
use Rattle.serde_json.specs.Data.{Data}
use Rattle.serde_json.specs.Find.{as_null, as_str}
use Rattle.executors.specs.declared.task_forms.TaskForm.{TaskForm}
use Rattle.executors.specs.declared.task_forms.TaskForm.TheVariants as form
use Rattle.scripts.specs.declared.whole_script.ScriptNode.{ScriptNode}
use Rattle.executors.specs.declared.tasks.Task.{Task}
use Rattle.executors.specs.declared.tasks.Task.TheVariants as task
use Rattle.script_form.specs.declared.misfits.Misfit.{Misfit}
use Rattle.script_form.specs.declared.rules.Rule.TheVariants.{WrongType}
use Rattle.script_form.specs.Misfits.{◌>>=◌, bad}
use Rattle.script_form.specs.Nodes.{node_named}
use Rattle.script_form.specs.Parts.{check_members, required, optional, flag_of, text_of, whole_of, word_of, meaning_in}

-- an index of 1 shard and 1 replica where it doesn't say so
unfoldable pub creation_of : Data → Result Task Misfit
creation_of d =
    check_members (codes "index" ∷ codes "shards" ∷ codes "replicas" ∷ []) d >>= λ _.
    required (codes "index") text_of d >>= λ index.
    optional (codes "shards") 1 whole_of d >>= λ shards.
    optional (codes "replicas") 1 whole_of d >>= λ replicas.
    Ok (task.CreateIndex index shards replicas)

unfoldable pub deletion_of : Data → Result Task Misfit
deletion_of d =
    check_members (codes "index" ∷ []) d >>= λ _.
    required (codes "index") text_of d >>= λ index.
    Ok (task.DeleteIndex index)

unfoldable pub index_setting_of : Data → Result Task Misfit
index_setting_of d =
    check_members (codes "index" ∷ codes "key" ∷ codes "value" ∷ []) d >>= λ _.
    required (codes "index") text_of d >>= λ index.
    required (codes "key") text_of d >>= λ key.
    required (codes "value") whole_of d >>= λ number.
    Ok (task.IndexSetting index key number)

unfoldable pub opening_of : Data → Result Task Misfit
opening_of d =
    check_members (codes "index" ∷ codes "open" ∷ []) d >>= λ _.
    required (codes "index") text_of d >>= λ index.
    required (codes "open") flag_of d >>= λ opened.
    Ok (task.OpenClose index opened)

-- `add`, which is true, or `remove`
unfoldable pub addition_named : List ℕ → Option Bool
addition_named = meaning_in (
    (codes "add", true) ∷
    (codes "remove", false) ∷
    [])

unfoldable pub alias_task_of : Data → Result Task Misfit
alias_task_of d =
    check_members (codes "index" ∷ codes "alias" ∷ codes "action" ∷ []) d >>= λ _.
    required (codes "index") text_of d >>= λ index.
    required (codes "alias") text_of d >>= λ alias.
    required (codes "action") (word_of addition_named) d >>= λ add.
    Ok (task.Alias index alias add)

-- a text, or null for none
abbrev pub text_or_null : Option (List ℕ) → Option (Unit {0}) → Result (Option (List ℕ)) Misfit
text_or_null (Some text) _ = Ok (Some text)
text_or_null None (Some _) = Ok None
text_or_null None None = bad WrongType

abbrev pub setting_value_of : Data → Result (Option (List ℕ)) Misfit
setting_value_of d = text_or_null (as_str d) (as_null d)

unfoldable pub cluster_setting_of : Data → Result Task Misfit
cluster_setting_of d =
    check_members (codes "key" ∷ codes "value" ∷ []) d >>= λ _.
    required (codes "key") text_of d >>= λ key.
    required (codes "value") setting_value_of d >>= λ content.
    Ok (task.ClusterSetting key content)

-- `join`, which is true, or `leave`
unfoldable pub joining_named : List ℕ → Option Bool
joining_named = meaning_in (
    (codes "join", true) ∷
    (codes "leave", false) ∷
    [])

-- a joining node votes if the script's node does
abbrev pub node_task : ScriptNode → Bool → Task
node_task node joins = if joins then task.Join (record { name = node.name; eligible = node.eligible }) else task.Leave node.name

unfoldable pub node_task_of : List ScriptNode → Data → Result Task Misfit
node_task_of nodes d =
    check_members (codes "node" ∷ codes "action" ∷ []) d >>= λ _.
    required (codes "node") (node_named nodes) d >>= λ node.
    required (codes "action") (word_of joining_named) d >>= λ joins.
    Ok (node_task node joins)

unfoldable pub reelection_of : Data → Result Task Misfit
reelection_of d = check_members [] d >>= λ _. Ok task.Reelect

-- the task of a form
abbrev pub task_of : List ScriptNode → TaskForm → Data → Result Task Misfit
task_of nodes form.CreateIndex d = creation_of d
task_of nodes form.DeleteIndex d = deletion_of d
task_of nodes form.IndexSetting d = index_setting_of d
task_of nodes form.OpenClose d = opening_of d
task_of nodes form.Alias d = alias_task_of d
task_of nodes form.ClusterSetting d = cluster_setting_of d
task_of nodes form.Node d = node_task_of nodes d
task_of nodes form.Reelect d = reelection_of d
