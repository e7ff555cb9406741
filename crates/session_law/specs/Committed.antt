-- The states that are committed. A node has the zero state, the first state or a committed one, and each has a version
-- of its own. It is this project's own.
use Rattle.std.specs.Prelude.{ℕ, Bool, true, false, ◌==◌, List, ◌∷◌, filter, find, map, unwrap_or}
use Rattle.meta_state.specs.declared.cluster_state.ClusterState.{ClusterState}
use Rattle.meta_state.specs.States.{zero_state}
use Rattle.scripts.specs.declared.whole_script.Script.{Script}
use Rattle.session_law.specs.declared.batches.Batch.{Batch}
use Rattle.session_law.specs.declared.batches.BatchResult.{BatchResult}
use Rattle.session_law.specs.declared.batches.BatchResult.TheVariants.{Published}
use Rattle.session_law.specs.Histories.{SteppedBatch, history_of}
use Rattle.session_law.specs.Worlds.{first_state_of}

abbrev pub is_published : BatchResult → Bool
is_published (Published version id commit diffs fulls accepted) = true
is_published _ = false

-- the states that a history commits, in order
abbrev pub committed_in : List SteppedBatch → List ClusterState
committed_in history = map (λ s. s.world.state) (filter (λ s. is_published s.stepped.result) history)

-- every state that a node can have
abbrev pub states_of : Script → List Batch → List ClusterState
states_of script batches = zero_state script.cluster ∷ first_state_of script ∷ committed_in (history_of script batches)

-- the state of a version: 0 is the zero state, 1 the first state. Of no other version than one of these it is asked for
abbrev pub committed_at : Script → List Batch → ℕ → ClusterState
committed_at script batches version = unwrap_or (find (λ s. s.version == version) (states_of script batches)) (zero_state script.cluster)
