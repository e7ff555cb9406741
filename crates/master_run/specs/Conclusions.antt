-- What came of a batch in the end, as a pair with the world after it.
use Rattle.std.specs.Prelude.{◌+◌, ℕ, Option, Some, None}
use Rattle.session_law.specs.declared.batches.BatchResult.{BatchResult}
use Rattle.session_law.specs.declared.batches.BatchResult.TheVariants.{Published, PublishFailed}
use Rattle.meta_state.specs.declared.cluster_state.ClusterState.{ClusterState}
use Rattle.session_law.specs.declared.worlds.Reach.{Reach}
use Rattle.session_law.specs.declared.worlds.Stepped.{Stepped}
use Rattle.session_law.specs.declared.worlds.World.{World}
use Rattle.master_run.specs.declared.conclusions.Conclusion.{Conclusion}

abbrev pub world_or : Option World → World → World
world_or None world = world
world_or (Some after) world = after

abbrev pub end_with : Conclusion → World → Stepped × World
end_with made world = (made.stepped, world_or made.after world)

abbrev pub published : ClusterState → ℕ → Reach → BatchResult
published new commit reach = Published new.version new.id commit reach.diffs reach.fulls (reach.diffs + reach.fulls)

abbrev pub publish_failed : ClusterState → Reach → BatchResult
publish_failed new reach = PublishFailed new.id reach.diffs reach.fulls (reach.diffs + reach.fulls)
