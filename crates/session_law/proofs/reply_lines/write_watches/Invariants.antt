use Rattle.std.proofs.Common.{◌≡◌, ◌++◌, drop, string_bytes}
use Rattle.session_law.specs.ReplyLines.{watch_lines}
use Rattle.session_law.proofs.reply_lines.write_watches.Given as goal

-- what is written and what is left are the whole
abbrev pub invariant-loop-watch : goal.invariant-loop-watch
invariant-loop-watch l =
    string_bytes l.out ++ watch_lines (drop l.watch-index l.watches) ≡ string_bytes l.fn.out ++ watch_lines l.watches
