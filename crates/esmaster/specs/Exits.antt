-- The status of each way in which a command may end. They are this project's own.
use Rattle.std.specs.Prelude.{ℕ}
use Rattle.esmaster.specs.declared.exits.Exit.{Exit}
use Rattle.esmaster.specs.declared.exits.Exit.TheVariants.{Done, Usage, ScriptRefused, ReadFault, WriteFault, OutOfMemory, TooLong}

abbrev pub status_of : Exit → ℕ
status_of Done = 0
status_of Usage = 1
status_of ScriptRefused = 2
status_of ReadFault = 3
status_of WriteFault = 4
status_of OutOfMemory = 5
status_of TooLong = 6
