use Rattle.std.proofs.Common.{◌≡◌, ◌++◌, drop, string_bytes}
use Rattle.session_law.specs.ReplyLines.{read_lines}
use Rattle.session_law.proofs.reply_lines.write_reads.Given as goal

-- what is written and what is left are the whole
abbrev pub invariant-loop-read : goal.invariant-loop-read
invariant-loop-read l =
    string_bytes l.out ++ read_lines (drop l.read-index l.reads) ≡ string_bytes l.fn.out ++ read_lines l.reads
