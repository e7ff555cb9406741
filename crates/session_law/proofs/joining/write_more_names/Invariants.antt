use Rattle.std.proofs.Common.{◌≡◌, ◌++◌, drop, string_bytes}
use Rattle.session_law.specs.Joining.{more_text}
use Rattle.session_law.proofs.joining.write_more_names.Given as goal

-- what is written and what is left are the whole
abbrev pub invariant-loop-name : goal.invariant-loop-name
invariant-loop-name l =
    string_bytes l.out ++ more_text (λ name. name) (drop l.name-index l.names) ≡ string_bytes l.fn.out ++ more_text (λ name. name) l.names
