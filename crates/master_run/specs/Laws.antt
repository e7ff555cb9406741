-- Laws of the machine: each event leaves a lawful beginning of a session one, and at rest that is lawful in the end. Each
-- is the contract of a function of its own.
use Rattle.std.specs.Prelude.{◌≡◌, ◌-◌, ◌^◌, ◌<◌, Some}
use Rattle.scripts.specs.declared.whole_script.Script.{Script}
use Rattle.scripts.specs.Built.{IsBuilt}
use Rattle.scripts.specs.Scripts.{IsScript}
use Rattle.master_run.specs.Courses.{Course}
use Rattle.master_run.specs.Events.{Event, event}
use Rattle.master_run.specs.Rests.{IsAtRest}
use Rattle.master_run.specs.SerialSessions.{IsSerialSession}
use Rattle.master_run.specs.Sessions.{session_of}
use Rattle.master_run.specs.SoFar.{IsLawfulSoFar}

-- a reading is one that a clock may give; of others nothing is asked
abbrev pub IsReadable : Event → Type 0
IsReadable (Event.Perform client at) = Unit {0}
IsReadable (Event.Serve queue at commit) = Unit {0}
IsReadable (Event.Apply node) = Unit {0}
IsReadable (Event.Expire id reading) = reading < 2 ^ 43 - 1
IsReadable (Event.ExpireAcks reading) = Unit {0}

-- whichever event it is, whatever its readings are
abbrev pub EventsKeepLawful : Type 0
EventsKeepLawful =
    (script : Script) (k now : Course) (e : Event) → IsScript script → IsLawfulSoFar script k → IsReadable e → event script e k ≡ Some now → IsLawfulSoFar script now

-- the session that is read off a course at rest is lawful, as far as it can be told
abbrev pub RestIsLawful : Type 0
RestIsLawful =
    (script : Script) (k : Course) → IsScript script → IsBuilt script → IsLawfulSoFar script k → IsAtRest script k → IsSerialSession script (session_of script k)
