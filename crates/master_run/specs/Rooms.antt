-- Counters that can still rise: what the code of a batch asks of the world that it runs on.
use Rattle.std.specs.Prelude.{◌<◌, ◌^◌}
use Rattle.std.specs.List.{AllByRecursion}
use Rattle.meta_state.specs.States.{IsRoomy}
use Rattle.session_law.specs.declared.worlds.NodeWorld.{NodeWorld}
use Rattle.session_law.specs.declared.worlds.Reach.{Reach}
use Rattle.session_law.specs.declared.worlds.World.{World}

-- one more publication to a node can be counted
abbrev pub CanPublish : NodeWorld → Type 0
CanPublish node = node.sent < 2 ^ 63

-- the nodes that a publication reached can be counted together
pub record CanCount (reach : Reach) : Type 0 where
  pub diffs : reach.diffs < 2 ^ 63
  pub fulls : reach.fulls < 2 ^ 63
  pub votes : reach.votes < 2 ^ 63

-- one more batch can be counted
pub record HasRoom (world : World) : Type 0 where
  pub state : IsRoomy world.state
  pub proposals : world.proposals < 2 ^ 63
  pub sent : AllByRecursion CanPublish world.nodes
