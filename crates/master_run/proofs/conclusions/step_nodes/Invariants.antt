use Rattle.std.proofs.Common.{◌≡◌, ◌++◌, drop}
use Rattle.std.specs.List.{AllByRecursion}
use Rattle.master_run.specs.Reaches.{nodes_after}
use Rattle.master_run.specs.Rooms.{CanPublish}
use Rattle.master_run.proofs.conclusions.step_nodes.Given as goal

abbrev pub invariant-loop-has : goal.invariant-loop-has
invariant-loop-has l = record {
  stepped : l.made ++ nodes_after l.new (drop l.has-index l.nodes) l.left ≡ nodes_after l.new l.nodes l.answers;
  rooms : AllByRecursion CanPublish (drop l.has-index l.nodes);
}
