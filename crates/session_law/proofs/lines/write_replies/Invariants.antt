use Rattle.std.proofs.Common.{◌≡◌, ◌++◌, drop, string_bytes}
use Rattle.session_law.specs.Lines.{reply_lines}
use Rattle.session_law.proofs.lines.write_replies.Given as goal

-- what is written and what is left are the whole
abbrev pub invariant-loop-reply : goal.invariant-loop-reply
invariant-loop-reply l =
    string_bytes l.out ++ reply_lines (drop l.reply-index l.replies) ≡ string_bytes l.fn.out ++ reply_lines l.replies
