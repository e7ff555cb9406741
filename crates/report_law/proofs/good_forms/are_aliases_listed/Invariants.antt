use Rattle.std.proofs.Common.{◌≡◌}
use Rattle.std.specs.List.{list_all}
use Rattle.std.specs.Map.{keys_of}
use Rattle.report_law.specs.GoodForm.{is_index_name}
use Rattle.report_law.proofs.good_forms.are_aliases_listed.Given as goal

-- all aliases are names exactly where those that are left are
abbrev pub invariant-loop-alias : goal.invariant-loop-alias
invariant-loop-alias l = list_all is_index_name (keys_of l.alias-iterator) ≡ list_all is_index_name (keys_of l.fn.aliases)
