-- The forms of tasks: which tasks each form has. They are this project's own.
use Rattle.std.specs.Prelude.{Bool, true, false}
use Rattle.executors.specs.declared.task_forms.TaskForm.{TaskForm}
use Rattle.executors.specs.declared.task_forms.TaskForm.TheVariants as form
use Rattle.executors.specs.declared.tasks.Task.{Task}
use Rattle.executors.specs.declared.tasks.Task.TheVariants as task

abbrev pub is_of_form : TaskForm → Task → Bool
is_of_form form.CreateIndex (task.CreateIndex index shards replicas) = true
is_of_form form.DeleteIndex (task.DeleteIndex index) = true
is_of_form form.IndexSetting (task.IndexSetting index key value) = true
is_of_form form.OpenClose (task.OpenClose index opened) = true
is_of_form form.Alias (task.Alias index alias add) = true
is_of_form form.ClusterSetting (task.ClusterSetting key value) = true
is_of_form form.Node (task.Join node) = true
is_of_form form.Node (task.Leave name) = true
is_of_form form.Reelect task.Reelect = true
is_of_form _ _ = false
