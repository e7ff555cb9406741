-- The report tells the session: its lines stand in the order of their kinds, each kind with a first letter of its own
-- beside those next to it, and each line tells what it spells.
use Rattle.std.specs.Prelude.{◌≡◌, ◌==◌, ℕ, false, List, ◌++◌, refl, codes, IsTrue}
use Rattle.std.proofs.Common.{sym, subst}
use Rattle.std.specs.List.{AllByRecursion}
use Rattle.std.proofs.lemmas.List.{append_assoc}
use Rattle.scripts.specs.Names.{is_name}
use Rattle.meta_state.specs.declared.cluster_state.ClusterState.{ClusterState}
use Rattle.session_law.specs.declared.replies.AckReply.{AckReply}
use Rattle.session_law.specs.declared.replies.Reply.{Reply}
use Rattle.session_law.specs.declared.reads.Read.{Read}
use Rattle.session_law.specs.declared.sessions.Session.{Session}
use Rattle.session_law.specs.declared.watches.Watch.{Watch}
use Rattle.report_law.specs.Bounds.{IsBoundedBatch, IsBoundedNode, IsBoundedRead, IsBoundedSession}
use Rattle.report_law.specs.GoodForm.{IsGoodForm, is_good_found, is_good_node}
use Rattle.report_law.specs.ReportLaws.{ReportsFixSessions}
use Rattle.session_law.specs.Lines.{line_end, reply_line, reply_lines, state_line}
use Rattle.session_law.specs.NodeLines.{node_lines, node_text}
use Rattle.session_law.specs.ReplyLines.{ack_line, ack_lines, read_line, read_lines, watch_line, watch_lines}
use Rattle.session_law.specs.Reports.{report_of}
use Rattle.report_law.proofs.AckTexts.{ack_tells, watch_tells}
use Rattle.report_law.proofs.BatchTexts.{IsToldBatch, batch_lines_tell}
use Rattle.report_law.proofs.LineLists.{both_of, lines_end, lines_tell, starts}
use Rattle.report_law.proofs.NodeTexts.{IsToldNode, node_lines_tell, node_starts}
use Rattle.report_law.proofs.ReadTexts.{IsToldRead, read_tells}
use Rattle.report_law.proofs.StateTexts.{IsToldState, state_tells}
use Rattle.report_law.proofs.TaskTexts.{reply_tells}
use Rattle.report_law.proofs.Telling.{Any, Ends, Same, Tells, alone, part, so, then_word, word_then}
use Rattle.report_law.proofs.Telling as telling

pub state_line_tells : Tells IsToldState state_line Same Any
unfolding state_line
state_line_tells = word_then (codes "state ") (then_word line_end state_tells)

-- ---- the first letters

reply_starts : (reply : Reply) → IsTrue (starts 116 (reply_line reply))
unfolding reply_line
reply_starts reply = refl

ack_starts : (ack : AckReply) → IsTrue (starts 97 (ack_line ack))
unfolding ack_line
ack_starts ack = refl

watch_starts : (watch : Watch) → IsTrue (starts 119 (watch_line watch))
unfolding watch_line
watch_starts watch = refl

read_starts : (read : Read) → IsTrue (starts 114 (read_line read))
unfolding read_line
read_starts read = refl

state_ends : (letter : ℕ) (state : ClusterState) (u : List ℕ) → (115 == letter) ≡ false → Ends (λ b. b == letter) (state_line state ++ u)
unfolding state_line
state_ends letter state u apart = apart

-- ---- from the last lines to the first

abbrev IsTold : Session → Type 0
IsTold session = IsGoodForm session × IsBoundedSession session

abbrev node_part : Session → List ℕ
node_part session = node_lines session.nodes ++ state_line session.last

abbrev read_part : Session → List ℕ
read_part session = read_lines session.reads ++ node_part session

abbrev watch_part : Session → List ℕ
watch_part session = watch_lines session.watches ++ read_part session

abbrev ack_part : Session → List ℕ
ack_part session = ack_lines session.acks ++ watch_part session

abbrev reply_part : Session → List ℕ
reply_part session = reply_lines session.replies ++ ack_part session

node_ends : (letter : ℕ) → (115 == letter) ≡ false → (110 == letter) ≡ false → (session : Session) (u : List ℕ) → Ends (λ b. b == letter) (node_part session ++ u)
node_ends letter state node session u =
    subst (Ends (λ b. b == letter)) (sym (append_assoc (node_lines session.nodes) (state_line session.last) u))
    (lines_end node_text 110 letter node_starts node session.nodes _ (state_ends letter session.last u state))

read_ends : (letter : ℕ) → (115 == letter) ≡ false → (110 == letter) ≡ false → (114 == letter) ≡ false → (session : Session) (u : List ℕ) → Ends (λ b. b == letter) (read_part session ++ u)
read_ends letter state node read session u =
    subst (Ends (λ b. b == letter)) (sym (append_assoc (read_lines session.reads) (node_part session) u))
    (lines_end read_line 114 letter read_starts read session.reads _ (node_ends letter state node session u))

watch_ends : (letter : ℕ) → (115 == letter) ≡ false → (110 == letter) ≡ false → (114 == letter) ≡ false → (119 == letter) ≡ false → (session : Session) (u : List ℕ) → Ends (λ b. b == letter) (watch_part session ++ u)
watch_ends letter state node read watch session u =
    subst (Ends (λ b. b == letter)) (sym (append_assoc (watch_lines session.watches) (read_part session) u))
    (lines_end watch_line 119 letter watch_starts watch session.watches _ (read_ends letter state node read session u))

ack_ends : (letter : ℕ) → (115 == letter) ≡ false → (110 == letter) ≡ false → (114 == letter) ≡ false → (119 == letter) ≡ false → (97 == letter) ≡ false → (session : Session) (u : List ℕ) → Ends (λ b. b == letter) (ack_part session ++ u)
ack_ends letter state node read watch ack session u =
    subst (Ends (λ b. b == letter)) (sym (append_assoc (ack_lines session.acks) (watch_part session) u))
    (lines_end ack_line 97 letter ack_starts ack session.acks _ (watch_ends letter state node read watch session u))

reply_ends : (session : Session) (u : List ℕ) → Ends (λ b. b == 98) (reply_part session ++ u)
reply_ends session u =
    subst (Ends (λ b. b == 98)) (sym (append_assoc (reply_lines session.replies) (ack_part session) u))
    (lines_end reply_line 116 98 reply_starts refl session.replies _ (ack_ends 98 refl refl refl refl refl session u))

pub report_tells : Tells IsTold report_of Same Any
unfolding report_of
report_tells =
    so (word_then (codes "report 1\n") (telling.then (part (λ s. s.batches) (batch_lines_tell 1) told_batches) (λ s u told any. reply_ends s u)
    (telling.then (part (λ s. s.replies) (lines_tell 116 reply_starts reply_tells) (λ s told. told.1.replies)) (λ s u told any. ack_ends 116 refl refl refl refl refl s u)
    (telling.then (part (λ s. s.acks) (lines_tell 97 ack_starts ack_tells) (λ s told. told.1.acks)) (λ s u told any. watch_ends 97 refl refl refl refl s u)
    (telling.then (part (λ s. s.watches) (lines_tell 119 watch_starts watch_tells) (λ s told. told.1.watches)) (λ s u told any. read_ends 119 refl refl refl s u)
    (telling.then (part (λ s. s.reads) (lines_tell 114 read_starts read_tells) told_reads) (λ s u told any. node_ends 114 refl refl s u)
    (telling.then (part (λ s. s.nodes) node_lines_tell told_nodes) (λ s u told any. state_ends 110 s.last u refl)
    (part (λ s. s.last) state_line_tells (λ s told. record { named = told.0.last; bounded = told.1.last })))))))))
    (λ a b k i. record {
      batches = k.0 i;
      replies = k.1.0 i;
      acks = k.1.1.0 i;
      watches = k.1.1.1.0 i;
      reads = k.1.1.1.1.0 i;
      nodes = k.1.1.1.1.1.0 i;
      last = k.1.1.1.1.1.1 i;
    })
  where
    told_batches : (session : Session) → IsTold session → AllByRecursion IsToldBatch session.batches
    told_batches session told = both_of (λ b. is_name b.queue) IsBoundedBatch session.batches told.0.queues told.1.batches

    told_reads : (session : Session) → IsTold session → AllByRecursion IsToldRead session.reads
    told_reads session told = both_of (λ r. is_good_found r.found) IsBoundedRead session.reads told.0.reads told.1.reads

    told_nodes : (session : Session) → IsTold session → AllByRecursion IsToldNode session.nodes
    told_nodes session told = both_of is_good_node IsBoundedNode session.nodes told.0.nodes told.1.nodes

pub reports_fix_sessions : ReportsFixSessions
reports_fix_sessions one other bounded also good fine same = alone report_tells tt one other (good, bounded) (fine, also) same
