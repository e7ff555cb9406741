use Rattle.std.proofs.Common.{◌≡◌, ◌++◌, drop, map}
use Rattle.report_law.proofs.good_forms.node_names.Given as goal

abbrev pub invariant-loop-node : goal.invariant-loop-node
invariant-loop-node l = l.names.items ++ map (λ r. r.node) (drop l.node-index l.nodes) ≡ map (λ r. r.node) l.fn.nodes
