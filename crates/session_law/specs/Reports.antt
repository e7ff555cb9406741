-- The report of a session, line by line: its first line, then the batches by number, the tasks, the acknowledgements,
-- the watches and the reads by client and step, the nodes in the script's order, and the last state. The form is this
-- project's own.
use Rattle.std.specs.Prelude.{ℕ, List, ◌++◌, codes}
use Rattle.session_law.specs.declared.sessions.Session.{Session}
use Rattle.session_law.specs.Lines.{batch_lines, reply_lines, state_line}
use Rattle.session_law.specs.NodeLines.{node_lines}
use Rattle.session_law.specs.ReplyLines.{ack_lines, read_lines, watch_lines}

unfoldable pub report_of : Session → List ℕ
report_of session =
    codes "report 1\n" ++ (batch_lines 1 session.batches ++ (reply_lines session.replies ++ (ack_lines session.acks ++
    (watch_lines session.watches ++ (read_lines session.reads ++ (node_lines session.nodes ++ state_line session.last))))))
