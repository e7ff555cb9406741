-- What ties the parts of a node's applier together: its views are those of the applied state, each commit tells truly what
-- changed since the one before it, and the versions that it was handed are those of the commits that it took and of those
-- that wait.
use Rattle.std.specs.Prelude.{◌≡◌, ℕ, List, ◌++◌, Option, Some, map}
use Rattle.meta_state.specs.declared.cluster_state.ClusterState.{ClusterState}
use Rattle.meta_state.specs.declared.touches.Touched.{Touched}
use Rattle.session_law.specs.declared.node_records.Apply.{Apply}
use Rattle.node_apply.specs.declared.applied_states.Applied.{Applied}
use Rattle.node_apply.specs.Commits.{AreLinked, HandedCommit, MayDiffer, versions_of}
use Rattle.node_apply.specs.Standing.{IsAt}

abbrev pub all_versions : List Apply → List HandedCommit → List ℕ
all_versions applies commits = map (λ a. a.to) applies ++ versions_of commits

pub record IsTied (applied : Applied) (head : ClusterState) (since : Option Touched) (commits : List HandedCommit) (versions : List ℕ) (applies : List Apply) : Type 0 where
  pub at : IsAt applied
  pub behind : MayDiffer since (Some applied.state) head
  pub linked : AreLinked (Some head) commits
  pub handed : versions ≡ all_versions applies commits
