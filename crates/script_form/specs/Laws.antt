-- A law of the form of scripts: the script that bytes spell is valid, and holds nothing that isn't performed yet. It is
-- this project's own.
use Rattle.std.specs.Prelude.{◌≡◌, ℕ, List, Ok}
use Rattle.scripts.specs.declared.whole_script.Script.{Script}
use Rattle.scripts.specs.Built.{IsBuilt}
use Rattle.scripts.specs.Scripts.{IsScript}
use Rattle.script_form.specs.Reading.{script_of}

abbrev pub ReadScriptsAreValid : Type 0
ReadScriptsAreValid = (bytes : List ℕ) (script : Script) → script_of bytes ≡ Ok script → IsScript script × IsBuilt script
