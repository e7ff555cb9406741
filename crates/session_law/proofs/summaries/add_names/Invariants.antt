use Rattle.std.proofs.Common.{◌≡◌}
use Rattle.session_law.specs.Summaries.{with_keys}
use Rattle.session_law.proofs.summaries.add_names.Given as goal

-- to put in what is left leads where putting in all would
abbrev pub invariant-loop-name : goal.invariant-loop-name
invariant-loop-name l = with_keys l.name-iterator l.names ≡ with_keys l.fn.more l.fn.names
