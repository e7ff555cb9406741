use Rattle.std.proofs.Common.{◌≡◌, drop}
use Rattle.session_law.specs.NodeLines.{applied_to}
use Rattle.session_law.specs.NodeRecords.{last_of}
use Rattle.session_law.proofs.summaries.last_version.Given as goal

-- what is left leads from this version to the last
abbrev pub invariant-loop-apply : goal.invariant-loop-apply
invariant-loop-apply l =
    last_of l.version (applied_to (drop l.apply-index l.node.applies)) ≡ last_of l.node.first (applied_to l.node.applies)
