use Rattle.std.proofs.Common.{◌≡◌, drop}
use Rattle.std.specs.Prelude.{nat_lt}
use Rattle.session_law.specs.Lawful.{rises_from}
use Rattle.session_law.specs.NodeLines.{applied_to}
use Rattle.report_law.proofs.good_forms.are_applied_rising.Given as goal

-- all rise from the first exactly where those that are left rise from this version
abbrev pub invariant-loop-apply : goal.invariant-loop-apply
invariant-loop-apply l =
    rises_from nat_lt l.last (applied_to (drop l.apply-index l.node.applies)) ≡ rises_from nat_lt l.node.first (applied_to l.node.applies)
