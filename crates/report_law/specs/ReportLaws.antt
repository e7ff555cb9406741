-- The law that a report fixes its session. It is this project's own.
use Rattle.std.specs.Prelude.{◌≡◌}
use Rattle.session_law.specs.declared.sessions.Session.{Session}
use Rattle.report_law.specs.Bounds.{IsBoundedSession}
use Rattle.report_law.specs.GoodForm.{IsGoodForm}
use Rattle.session_law.specs.Reports.{report_of}

-- ---- a report fixes its session: no two sessions of good form have one report

abbrev pub ReportsFixSessions : Type 0
ReportsFixSessions =
    (one other : Session) → IsBoundedSession one → IsBoundedSession other → IsGoodForm one → IsGoodForm other → report_of one ≡ report_of other → one ≡ other
