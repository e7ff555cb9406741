-- What the master knows of the names that a batch touched: nothing, where they are too many, or all of them.
use Rattle.std.specs.Prelude.{◌≡◌, List, Some, None, Option}
use Rattle.meta_state.specs.declared.cluster_state.ClusterState.{ClusterState}
use Rattle.meta_state.specs.declared.touches.Touched.{Touched}
use Rattle.meta_state.specs.Touches.{AgreeOutside}
use Rattle.executors.specs.declared.executions.Executed.{Executed}
use Rattle.executors.specs.declared.executions.Executed.TheVariants.{Made, Failed}
use Rattle.executors.specs.declared.tasks.Task.{Task}
use Rattle.executors.specs.Touching.{touched_by}
use Rattle.master_run.specs.declared.plans.Plan.{Plan}
use Rattle.master_run.specs.declared.plans.Plan.TheVariants.{Settled, Proposed}

-- where names are known, they are those of the tasks
abbrev pub AreNamesOf : List Task → Option Touched → Type 0
AreNamesOf tasks None = Unit {0}
AreNamesOf tasks (Some touched) = touched ≡ touched_by tasks

-- where names are known, two states agree outside of them
abbrev pub AgreeOutsideThese : Option Touched → ClusterState → ClusterState → Type 0
AgreeOutsideThese None a b = Unit {0}
AgreeOutsideThese (Some touched) a b = AgreeOutside touched a b

-- where names are known, what an executor made agrees with the state before it outside of them
abbrev pub ChangesOnlyThese : Option Touched → ClusterState → Executed → Type 0
ChangesOnlyThese touched old (Made state marks) = AgreeOutsideThese touched old state
ChangesOnlyThese touched old (Failed position refusal) = Unit {0}

-- where names are known, a proposed state agrees with the current one outside of them
abbrev pub KnowsChanges : Option Touched → ClusterState → Plan → Type 0
KnowsChanges touched old (Settled stepped) = Unit {0}
KnowsChanges touched old (Proposed proposal) = AgreeOutsideThese touched old proposal.new
