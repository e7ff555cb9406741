use Rattle.std.proofs.Common.{◌≡◌, []}
use Rattle.session_law.specs.Summaries.{with_aliases_of}
use Rattle.session_law.proofs.summaries.aliases_in.Given as goal

-- to put in what is left leads where putting in all would
abbrev pub invariant-loop-index : goal.invariant-loop-index
invariant-loop-index l = with_aliases_of l.index-iterator l.names ≡ with_aliases_of l.fn.indices []
