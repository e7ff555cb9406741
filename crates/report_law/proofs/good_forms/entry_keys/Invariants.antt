use Rattle.std.proofs.Common.{◌≡◌, ◌++◌, drop, map}
use Rattle.report_law.specs.GoodForm.{entry_key}
use Rattle.report_law.proofs.good_forms.entry_keys.Given as goal

abbrev pub invariant-loop-entry : goal.invariant-loop-entry
invariant-loop-entry l = l.keys.items ++ map entry_key (drop l.entry-index l.entries) ≡ map entry_key l.fn.entries
