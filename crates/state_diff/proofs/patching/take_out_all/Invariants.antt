use Rattle.std.proofs.Common.{◌≡◌}
use Rattle.state_diff.specs.MapDiffs.{without_all}
use Rattle.state_diff.proofs.patching.take_out_all.Given as goal

abbrev pub invariant-loop-key : goal.invariant-loop-key
invariant-loop-key g l = without_all l.key-iterator (g.M.Keyed.pairs l.map) ≡ without_all l.fn.deletes (g.M.Keyed.pairs l.fn.map)
