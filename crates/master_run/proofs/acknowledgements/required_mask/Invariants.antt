use Rattle.std.proofs.Common.{◌≡◌, drop}
use Rattle.master_run.specs.AckBooks.{required_from, required_mask}
use Rattle.master_run.proofs.acknowledgements.required_mask.Given as goal

abbrev pub invariant-loop-node : goal.invariant-loop-node
invariant-loop-node l = record {
  place : l.number ≡ l.node-index;
  leads : required_from l.number l.asked l.state (drop l.node-index l.nodes) l.mask ≡ required_mask l.asked l.state l.nodes;
}
