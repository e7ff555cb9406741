use Rattle.std.proofs.Common.{◌≡◌, ◌++◌, drop, string_bytes}
use Rattle.session_law.specs.ReplyLines.{ack_lines}
use Rattle.session_law.proofs.reply_lines.write_acks.Given as goal

-- what is written and what is left are the whole
abbrev pub invariant-loop-ack : goal.invariant-loop-ack
invariant-loop-ack l =
    string_bytes l.out ++ ack_lines (drop l.ack-index l.acks) ≡ string_bytes l.fn.out ++ ack_lines l.acks
