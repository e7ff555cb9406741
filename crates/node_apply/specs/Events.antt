-- That a node goes from one state to another: both states, and what may have changed between them (Elasticsearch's
-- `ClusterChangedEvent`; that what may have changed is told by names is this project's own).
use Rattle.meta_state.specs.declared.cluster_state.ClusterState.{ClusterState}
use Rattle.meta_state.specs.declared.touches.Touched.{Touched}

pub record Event : Type 0 where
  pub old : ClusterState
  pub new : ClusterState
  pub touched : Touched
