-- The refusals of tasks: the word and the number of each. They are this project's own.
use Rattle.std.specs.Prelude.{ℕ, List, codes}
use Rattle.executors.specs.declared.refusals.TaskRefusal.{TaskRefusal}
use Rattle.executors.specs.declared.refusals.TaskRefusal.TheVariants.{Exists, NotFound, InvalidName, FinalSetting, BadValue, AliasClash, NodeKnown, NodeUnknown, MasterMayNotLeave}

abbrev pub refusal_word : TaskRefusal → List ℕ
refusal_word Exists = codes "exists"
refusal_word NotFound = codes "not_found"
refusal_word InvalidName = codes "invalid_name"
refusal_word FinalSetting = codes "final_setting"
refusal_word BadValue = codes "bad_value"
refusal_word AliasClash = codes "alias_clash"
refusal_word NodeKnown = codes "node_known"
refusal_word NodeUnknown = codes "node_unknown"
refusal_word MasterMayNotLeave = codes "master_may_not_leave"

abbrev pub refusal_number : TaskRefusal → ℕ
refusal_number Exists = 1
refusal_number NotFound = 2
refusal_number InvalidName = 3
refusal_number FinalSetting = 4
refusal_number BadValue = 5
refusal_number AliasClash = 6
refusal_number NodeKnown = 7
refusal_number NodeUnknown = 8
refusal_number MasterMayNotLeave = 9
