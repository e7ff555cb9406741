use Rattle.std.proofs.Common.{◌≡◌}
use Rattle.plain_data.specs.Agreements.{with_all}
use Rattle.state_diff.proofs.patching.put_all.Given as goal

abbrev pub invariant-loop-key : goal.invariant-loop-key
invariant-loop-key g l = with_all l.key-iterator (g.M.Keyed.pairs l.map) ≡ with_all l.fn.upserts (g.M.Keyed.pairs l.fn.map)
