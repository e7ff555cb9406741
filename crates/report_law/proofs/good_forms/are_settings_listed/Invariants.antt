use Rattle.std.proofs.Common.{◌≡◌}
use Rattle.std.specs.List.{list_all}
use Rattle.std.specs.Map.{keys_of}
use Rattle.executors.specs.SettingTasks.{is_key}
use Rattle.report_law.proofs.good_forms.are_settings_listed.Given as goal

-- all keys are keys of settings exactly where those that are left are
abbrev pub invariant-loop-key : goal.invariant-loop-key
invariant-loop-key l = list_all is_key (keys_of l.key-iterator) ≡ list_all is_key (keys_of l.fn.settings)
