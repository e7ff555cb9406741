use Rattle.std.proofs.Common.{◌≡◌}
use Rattle.std.specs.List.{list_all}
use Rattle.report_law.specs.GoodForm.{is_named_node}
use Rattle.report_law.proofs.good_forms.are_nodes_named.Given as goal

-- all nodes are named exactly where those that are left are
abbrev pub invariant-loop-name : goal.invariant-loop-name
invariant-loop-name l = list_all is_named_node l.name-iterator ≡ list_all is_named_node l.fn.nodes
