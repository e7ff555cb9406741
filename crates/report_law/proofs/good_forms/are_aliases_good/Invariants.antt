use Rattle.std.proofs.Common.{◌≡◌}
use Rattle.std.specs.List.{list_all}
use Rattle.report_law.specs.GoodForm.{is_good_alias}
use Rattle.report_law.proofs.good_forms.are_aliases_good.Given as goal

-- all aliases are good exactly where those that are left are
abbrev pub invariant-loop-alias : goal.invariant-loop-alias
invariant-loop-alias l = list_all is_good_alias l.alias-iterator ≡ list_all is_good_alias l.fn.aliases
