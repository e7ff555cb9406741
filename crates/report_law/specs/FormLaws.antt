-- The laws that sessions which keep the rules are of good form. They are this project's own.
use Rattle.std.specs.Prelude.{IsTrue}
use Rattle.std.specs.List.{list_all}
use Rattle.scripts.specs.declared.whole_script.Script.{Script}
use Rattle.scripts.specs.Scripts.{IsScript}
use Rattle.session_law.specs.declared.sessions.Session.{Session}
use Rattle.session_law.specs.Histories.{IsOrdered}
use Rattle.session_law.specs.Lawful.{IsFinal, IsLawful, IsRecorded}
use Rattle.report_law.specs.GoodForm.{IsGoodForm, is_good_found}

-- ---- a session is of good form whose entries, records, last state and order keep the rules, and whose reads are of good
-- ---- form, whatever came of its batches, tasks, acknowledgements and watches

abbrev pub KeptSessionsAreOfGoodForm : Type 0
KeptSessionsAreOfGoodForm =
    (script : Script) (session : Session) → IsScript script → IsOrdered script session.batches → IsRecorded script session → IsFinal script session →
    IsTrue (list_all (λ r. is_good_found r.found) session.reads) → IsGoodForm session

-- ---- a lawful session is of good form

abbrev pub LawfulSessionsAreOfGoodForm : Type 0
LawfulSessionsAreOfGoodForm = (script : Script) (session : Session) → IsScript script → IsLawful script session → IsGoodForm session
