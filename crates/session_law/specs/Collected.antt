-- What a session lists of its script's steps, read off step by step. It is this project's own.
use Rattle.std.specs.Prelude.{List, flat_map}
use Rattle.scripts.specs.declared.whole_script.Script.{Script}
use Rattle.session_law.specs.ScriptSteps.{NumberedStep, numbered_steps}

-- the items of all steps, in the order of the steps
abbrev pub collected : {A : Type 0} → Script → (NumberedStep → List A) → List A
collected script items = flat_map items (numbered_steps script)
