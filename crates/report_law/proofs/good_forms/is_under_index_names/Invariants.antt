use Rattle.std.proofs.Common.{◌≡◌}
use Rattle.std.specs.List.{list_all}
use Rattle.std.specs.Map.{keys_of}
use Rattle.report_law.specs.GoodForm.{is_index_name}
use Rattle.report_law.proofs.good_forms.is_under_index_names.Given as goal

-- all keys are names exactly where those that are left are
abbrev pub invariant-loop-name : goal.invariant-loop-name
invariant-loop-name g l = list_all is_index_name (keys_of l.name-iterator) ≡ list_all is_index_name (keys_of l.fn.pairs)
