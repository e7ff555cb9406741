use Rattle.std.proofs.Common.{◌≡◌, ◌++◌, drop}
use Rattle.master_run.specs.Appliers.{appliers_for}
use Rattle.master_run.specs.NodeEnds.{links_for}
use Rattle.master_run.proofs.node_openings.open_ends.Given as goal

abbrev pub invariant-loop-node : goal.invariant-loop-node
invariant-loop-node l = record {
  links : l.ends.links.items ++ links_for l.room (drop l.node-index l.script.nodes) l.left ≡ links_for l.room l.script.nodes l.world.nodes;
  appliers : l.ends.appliers.items ++ appliers_for (drop l.node-index l.script.nodes) l.left ≡ appliers_for l.script.nodes l.world.nodes;
}
