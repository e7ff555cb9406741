use Rattle.std.proofs.Common.{◌≡◌, drop}
use Rattle.script_form.specs.Nodes.{find_node}
use Rattle.script_form.proofs.nodes.find.Given as goal

abbrev pub invariant-loop-node : goal.invariant-loop-node
invariant-loop-node l = find_node (drop l.node-index l.nodes) l.name ≡ find_node l.nodes l.name
