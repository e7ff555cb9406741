-- What a book keeps of its world whatever its links do: every counter is bounded by the tasks and the batches; no node
-- accepted a state of an identifier that wasn't proposed yet; and one that has the current identifier has the current
-- state.
use Rattle.std.specs.Prelude.{◌≡◌, ◌+◌, ◌≤◌, List, length}
use Rattle.std.specs.List.{AllByRecursion}
use Rattle.session_law.specs.declared.batches.Batch.{Batch}
use Rattle.session_law.specs.declared.worlds.NodeWorld.{NodeWorld}
use Rattle.session_law.specs.declared.worlds.World.{World}
use Rattle.session_law.specs.Histories.{queued_of}
use Rattle.session_law.proofs.Counts.{IsCounted}

pub record IsKnownTo (world : World) (node : NodeWorld) : Type 0 where
  pub proposed : node.accepted.id ≤ world.proposals + 1
  pub same : node.accepted.id ≡ world.state.id → node.accepted ≡ world.state

pub record AreProposed (world : World) : Type 0 where
  pub state : world.state.id ≤ world.proposals + 1
  pub nodes : AllByRecursion (IsKnownTo world) world.nodes

pub record IsLedger (batches : List Batch) (world : World) : Type 0 where
  pub counted : IsCounted (length (queued_of batches)) (length batches) world
  pub proposed : AreProposed world
