use Rattle.std.proofs.Common.{◌≡◌, ◌++◌, drop, string_bytes}
use Rattle.session_law.specs.Lines.{entry_text}
use Rattle.session_law.specs.Joining.{more_text}
use Rattle.session_law.proofs.joining.write_more_entries.Given as goal

-- what is written and what is left are the whole
abbrev pub invariant-loop-entry : goal.invariant-loop-entry
invariant-loop-entry l =
    string_bytes l.out ++ more_text entry_text (drop l.entry-index l.entries) ≡ string_bytes l.fn.out ++ more_text entry_text l.entries
