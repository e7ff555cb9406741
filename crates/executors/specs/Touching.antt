-- The names at which tasks can change a state: of the index, the setting or the node that each is about. What an
-- executor makes of a batch agrees with the initial state outside of these names; what has no name, as the term, isn't
-- told of. This is the project's own.
use Rattle.std.specs.Prelude.{ℕ, List, [], ◌∷◌, fold}
use Rattle.meta_state.specs.declared.cluster_state.ClusterState.{ClusterState}
use Rattle.meta_state.specs.declared.touches.Touched.{Touched}
use Rattle.meta_state.specs.Touches.{AgreeOutside, touched_by_both, touched_none}
use Rattle.executors.specs.declared.executions.Executed.{Executed}
use Rattle.executors.specs.declared.executions.Executed.TheVariants.{Made, Failed}
use Rattle.executors.specs.declared.tasks.Task.{Task}
use Rattle.executors.specs.declared.tasks.Task.TheVariants as task

-- one index, one setting or one node, and nothing else
abbrev pub index_alone : List ℕ → Touched
index_alone name = record touched_none { indices = (name, tt) ∷ [] }

abbrev pub setting_alone : List ℕ → Touched
setting_alone key = record touched_none { settings = (key, tt) ∷ [] }

abbrev pub node_alone : List ℕ → Touched
node_alone name = record touched_none { nodes = (name, tt) ∷ [] }

-- what one task is about; an election is about no name
abbrev pub touched_by_one : Task → Touched
touched_by_one (task.CreateIndex index shards replicas) = index_alone index
touched_by_one (task.DeleteIndex index) = index_alone index
touched_by_one (task.IndexSetting index key value) = index_alone index
touched_by_one (task.OpenClose index opened) = index_alone index
touched_by_one (task.Alias index alias add) = index_alone index
touched_by_one (task.ClusterSetting key value) = setting_alone key
touched_by_one (task.Join node) = node_alone node.name
touched_by_one (task.Leave name) = node_alone name
touched_by_one task.Reelect = touched_none

-- what was touched already, and what each of some tasks is about
abbrev pub touched_also : Touched → List Task → Touched
touched_also touched tasks = fold (λ t task. touched_by_both t (touched_by_one task)) touched tasks

-- what some tasks are about: all indices, settings and nodes that they can change
unfoldable pub touched_by : List Task → Touched
touched_by tasks = touched_also touched_none tasks

-- what an executor made of a state agrees with it outside of some names
abbrev pub ChangesOnly : Touched → ClusterState → Executed → Type 0
ChangesOnly touched old (Made state marks) = AgreeOutside touched old state
ChangesOnly touched old (Failed position refusal) = Unit {0}
