-- What holds of a replayed session, whatever its script: its batches are a serial history, with what each client had seen;
-- each task ended once, as its batch says or at its deadline; each acknowledgement ended as its required nodes applied its
-- version, or at its deadline; each node's record is the one that the batches make; the last state is the one after all
-- batches; and the lists stand in order, the nodes in the script's. So its committed versions are 2, 3, 4, .. in order, and
-- no task stands in two batches.
use Rattle.std.specs.Prelude.{◌≡◌, ℕ, ◌≤◌, count_by, map}
use Rattle.scripts.specs.declared.whole_script.Script.{Script}
use Rattle.session_law.specs.declared.sessions.Session.{Session}
use Rattle.session_law.specs.Acknowledgements.{IsAcknowledged}
use Rattle.session_law.specs.Endings.{EndsOnce}
use Rattle.session_law.specs.Histories.{world_after}
use Rattle.session_law.specs.Lawful.{AreInOrder, IsRecorded}
use Rattle.session_law.specs.Laws.{AreVersionsInOrder}
use Rattle.session_law.specs.Outcomes.{holds}
use Rattle.session_law.specs.SerialHistories.{IsSerialHistory}

pub record IsSerialSession (script : Script) (session : Session) : Type 0 where
  pub serial : IsSerialHistory script session.batches
  pub ended : EndsOnce script session.batches session.replies
  pub acknowledged : IsAcknowledged script session.batches session.acks
  pub recorded : IsRecorded script session
  pub last : session.last ≡ (world_after script session.batches).state
  pub order : AreInOrder session
  pub nodes : map (λ r. r.node) session.nodes ≡ map (λ n. n.name) script.nodes
  pub versions : AreVersionsInOrder script session.batches
  pub once : (client step : ℕ) → count_by (holds client step) session.batches ≤ 1
