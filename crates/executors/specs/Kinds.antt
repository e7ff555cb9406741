-- The executors: which form of task each takes, which of them run only on a master in office, and which fail as a whole.
-- This is the one table of executors and their tasks, and layers above cite it. That some run only on a master in office
-- is Elasticsearch's (`ClusterStateTaskExecutor.runOnlyOnMaster`); which ones is this project's own.
use Rattle.std.specs.Prelude.{Bool, true, false}
use Rattle.executors.specs.declared.kinds.Kind.{Kind}
use Rattle.executors.specs.declared.kinds.Kind.TheVariants as kind
use Rattle.executors.specs.declared.task_forms.TaskForm.{TaskForm}
use Rattle.executors.specs.declared.task_forms.TaskForm.TheVariants as form
use Rattle.executors.specs.declared.tasks.Task.{Task}
use Rattle.executors.specs.TaskForms.{is_of_form}

-- the form of the tasks that an executor takes
abbrev pub form_of : Kind → TaskForm
form_of kind.CreateIndex = form.CreateIndex
form_of kind.DeleteIndex = form.DeleteIndex
form_of kind.IndexSettings = form.IndexSetting
form_of kind.OpenClose = form.OpenClose
form_of kind.Aliases = form.Alias
form_of kind.AliasesAtomic = form.Alias
form_of kind.ClusterSettings = form.ClusterSetting
form_of kind.Nodes = form.Node
form_of kind.Reelect = form.Reelect

abbrev pub accepts : Kind → Task → Bool
accepts kind task = is_of_form (form_of kind) task

abbrev pub needs_master : Kind → Bool
needs_master kind.Reelect = false
needs_master _ = true

-- whether it fails a whole batch for one refused task
abbrev pub is_atomic : Kind → Bool
is_atomic kind.AliasesAtomic = true
is_atomic _ = false
