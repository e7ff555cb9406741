use Rattle.std.proofs.Common.{◌≡◌, drop}
use Rattle.node_apply.specs.NodeLinks.{fault_on}
use Rattle.node_apply.proofs.node_links.fault_on.Given as goal

abbrev pub invariant-loop-fault : goal.invariant-loop-fault
invariant-loop-fault l = fault_on (drop l.fault-index l.failing) l.node l.count ≡ fault_on l.fn.failing l.fn.node l.fn.count
