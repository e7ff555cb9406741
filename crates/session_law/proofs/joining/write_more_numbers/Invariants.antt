use Rattle.std.proofs.Common.{◌≡◌, ◌++◌, drop, string_bytes, decimal}
use Rattle.session_law.specs.Joining.{more_text}
use Rattle.session_law.proofs.joining.write_more_numbers.Given as goal

-- what is written and what is left are the whole
abbrev pub invariant-loop-number : goal.invariant-loop-number
invariant-loop-number l =
    string_bytes l.out ++ more_text decimal (drop l.number-index l.numbers) ≡ string_bytes l.fn.out ++ more_text decimal l.numbers
