use Rattle.std.proofs.Common.{◌≡◌, ◌++◌, drop, string_bytes}
use Rattle.session_law.specs.NodeLines.{apply_lines}
use Rattle.session_law.proofs.node_lines.write_applies.Given as goal

-- what is written and what is left are the whole
abbrev pub invariant-loop-apply : goal.invariant-loop-apply
invariant-loop-apply l =
    string_bytes l.out ++ apply_lines l.name (drop l.apply-index l.applies) ≡ string_bytes l.fn.out ++ apply_lines l.name l.applies
