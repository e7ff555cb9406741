-- A node's applied state and its views: they are those of the state, and so each apply leaves them.
use Rattle.std.specs.Prelude.{◌≡◌, List, [], ◌∷◌, Option, Some, None}
use Rattle.meta_state.specs.declared.cluster_state.ClusterState.{ClusterState}
use Rattle.node_apply.specs.declared.applied_states.Applied.{Applied}
use Rattle.node_apply.specs.declared.applied_states.Phases.{Phases}
use Rattle.session_law.specs.declared.node_records.Change.{Change}
use Rattle.session_law.specs.Changes.{change_between}
use Rattle.node_apply.specs.AliasLists.{AreSetsInOrder}
use Rattle.node_apply.specs.Commits.{HandedCommit}
use Rattle.node_apply.specs.Parts.{alias_names_of, ids_of, settings_of}

-- the views are those of the applied state
pub record IsAt (applied : Applied) : Type 0 where
  pub settings : applied.settings.shown ≡ settings_of applied.state
  pub indices : applied.indices.shown ≡ ids_of applied.state
  pub aliases : applied.aliases.shown ≡ alias_names_of applied.state
  pub sets : AreSetsInOrder applied.state.metadata.indices

-- each applier has prepared a state
pub record IsReadyFor (applied : Applied) (new : ClusterState) : Type 0 where
  pub settings : applied.settings.next ≡ Some (settings_of new)
  pub indices : applied.indices.next ≡ Some (ids_of new)
  pub aliases : applied.aliases.next ≡ Some (alias_names_of new)
  pub sets : AreSetsInOrder new.metadata.indices

-- the state is set after the appliers of low priority, and before the listeners
abbrev pub phases_of : ClusterState → ClusterState → Phases
phases_of old new = record { high = old.version; normal = old.version; low = old.version; listeners = new.version }

-- what was prepared of the first of some commits, and what changes with it; none exactly where there is none
abbrev pub IsPrepared : Option Change → ClusterState → Applied → List HandedCommit → Type 0
IsPrepared None old applied commits = commits ≡ []
IsPrepared (Some change) old applied [] = ⊥
IsPrepared (Some change) old applied (commit ∷ commits) = IsReadyFor applied commit.state × (change ≡ change_between old commit.state)
