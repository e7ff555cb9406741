-- What the program prints of a script that was not read, and the refusals' numbers. They are this project's own.
use Rattle.std.specs.Prelude.{ℕ, List, ◌++◌, codes}
use Rattle.script_form.specs.declared.limits.LimitName.{LimitName}
use Rattle.script_form.specs.declared.limits.LimitName.TheVariants.{Depth, Steps, Nodes, Queues, Clients, Faults, Schedule, Then, Work}
use Rattle.script_form.specs.declared.refusals.ScriptRefusal.{ScriptRefusal}
use Rattle.script_form.specs.declared.refusals.ScriptRefusal.TheVariants.{NotJson, BadShape, Limit, OutOfMemory}
use Rattle.script_form.specs.declared.rules.Rule.{Rule}
use Rattle.script_form.specs.declared.rules.Rule.TheVariants.{WrongType, Unknown, Missing, Range, Version, Name, Value, Reference, Master, Twice, Close, NotBuilt}

-- the word for a rule
abbrev pub rule_word : Rule → List ℕ
rule_word WrongType = codes "type"
rule_word Unknown = codes "unknown"
rule_word Missing = codes "missing"
rule_word Range = codes "range"
rule_word Version = codes "version"
rule_word Name = codes "name"
rule_word Value = codes "value"
rule_word Reference = codes "reference"
rule_word Master = codes "master"
rule_word Twice = codes "twice"
rule_word Close = codes "close"
rule_word NotBuilt = codes "not_built"

-- the word for a limit
abbrev pub limit_word : LimitName → List ℕ
limit_word Depth = codes "depth"
limit_word Steps = codes "steps"
limit_word Nodes = codes "nodes"
limit_word Queues = codes "queues"
limit_word Clients = codes "clients"
limit_word Faults = codes "faults"
limit_word Schedule = codes "schedule"
limit_word Then = codes "then"
limit_word Work = codes "work"

-- what stands after the word `refused`
abbrev pub refusal_text : ScriptRefusal → List ℕ
refusal_text NotJson = codes "not_json"
refusal_text (BadShape path rule) = codes "bad_shape " ++ (path ++ (codes " " ++ rule_word rule))
refusal_text (Limit name) = codes "limit " ++ limit_word name
refusal_text OutOfMemory = codes "out of memory"

abbrev pub script_refusal_number : ScriptRefusal → ℕ
script_refusal_number NotJson = 1
script_refusal_number (BadShape path rule) = 2
script_refusal_number (Limit name) = 3
script_refusal_number OutOfMemory = 4
