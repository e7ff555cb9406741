-- A lawful session of a script, by its eight rules: the batches are a serial history, each task ended once, the
-- acknowledgements, watches and reads keep their rules, no watch begins before what its client knows, the records are
-- those of the nodes, and the last state and the order of all lists are right. It is this project's own.
use Rattle.std.specs.Prelude.{◌≡◌, ℕ, ◌==◌, ◌&&◌, ◌||◌, Bool, true, List, [], ◌∷◌, filter, map, nat_lt, bytes_eq, IsTrue}
use Rattle.std.specs.List.{AllByRecursion}
use Rattle.scripts.specs.declared.whole_script.Script.{Script}
use Rattle.scripts.specs.Scripts.{is_node}
use Rattle.session_law.specs.declared.reads.Read.{Read}
use Rattle.session_law.specs.declared.node_records.NodeRec.{NodeRec}
use Rattle.session_law.specs.declared.replies.AckReply.{AckReply}
use Rattle.session_law.specs.declared.replies.Reply.{Reply}
use Rattle.session_law.specs.declared.sessions.Session.{Session}
use Rattle.session_law.specs.declared.watches.Watch.{Watch}
use Rattle.session_law.specs.Acknowledgements.{IsAcknowledged}
use Rattle.session_law.specs.Endings.{EndsOnce}
use Rattle.session_law.specs.Histories.{world_after}
use Rattle.session_law.specs.NodeRecords.{node_record}
use Rattle.session_law.specs.Reads.{IsPlaced, IsRead}
use Rattle.session_law.specs.SerialHistories.{IsSerialHistory}
use Rattle.session_law.specs.Watches.{IsWatched}

-- ---- the nodes' records

abbrev pub records_of : List ℕ → List NodeRec → List NodeRec
records_of name records = filter (λ r. bytes_eq name r.node) records

-- each script node has one record, the one that the batches make, and there are no others
pub record IsRecorded (script : Script) (session : Session) : Type 0 where
  pub each : AllByRecursion (λ n. records_of n.name session.nodes ≡ node_record script session.batches n ∷ []) script.nodes
  pub known : AllByRecursion (λ r. IsTrue (is_node script r.node)) session.nodes

-- ---- the order of lists

-- whether a pair of client and step stands before another
abbrev pub is_before : ℕ → ℕ → ℕ → ℕ → Bool
is_before client step other later = nat_lt client other || ((client == other) && nat_lt step later)

abbrev pub is_reply_before : Reply → Reply → Bool
is_reply_before a b = is_before a.client a.step b.client b.step

abbrev pub is_ack_before : AckReply → AckReply → Bool
is_ack_before a b = is_before a.client a.step b.client b.step

abbrev pub is_read_before : Read → Read → Bool
is_read_before a b = is_before a.client a.step b.client b.step

abbrev pub is_watch_before : Watch → Watch → Bool
is_watch_before a b =
    is_before a.client a.step b.client b.step || ((a.client == b.client) && ((a.step == b.step) && nat_lt a.part b.part))

-- each item stands before the next one, so that none stands twice
abbrev pub rises_from : {A : Type 0} → (A → A → Bool) → A → List A → Bool
rises_from is_less a [] = true
rises_from is_less a (b ∷ bs) = is_less a b && rises_from is_less b bs

abbrev pub is_rising : {A : Type 0} → (A → A → Bool) → List A → Bool
is_rising is_less [] = true
is_rising is_less (a ∷ others) = rises_from is_less a others

-- replies, acknowledgements and reads by client and step, watches also by part
pub record AreInOrder (session : Session) : Type 0 where
  pub replies : IsTrue (is_rising is_reply_before session.replies)
  pub acks : IsTrue (is_rising is_ack_before session.acks)
  pub watches : IsTrue (is_rising is_watch_before session.watches)
  pub reads : IsTrue (is_rising is_read_before session.reads)

-- the last state is the one after all batches, and lists stand in their order, the nodes in the script's
pub record IsFinal (script : Script) (session : Session) : Type 0 where
  pub last : session.last ≡ (world_after script session.batches).state
  pub order : AreInOrder session
  pub nodes : map (λ r. r.node) session.nodes ≡ map (λ n. n.name) script.nodes

-- ---- the eight rules

pub record IsLawful (script : Script) (session : Session) : Type 0 where
  pub serial : IsSerialHistory script session.batches
  pub ended : EndsOnce script session.batches session.replies
  pub acknowledged : IsAcknowledged script session.batches session.acks
  pub watched : IsWatched script session.batches session.watches
  pub read : IsRead script session
  pub placed : AllByRecursion (IsPlaced script session) session.watches
  pub recorded : IsRecorded script session
  pub final : IsFinal script session
