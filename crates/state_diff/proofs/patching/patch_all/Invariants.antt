use Rattle.std.proofs.Common.{◌≡◌}
use Rattle.state_diff.specs.MapDiffs.{all_patched}
use Rattle.state_diff.proofs.patching.patch_all.Given as goal

abbrev pub invariant-loop-key : goal.invariant-loop-key
invariant-loop-key g l = all_patched g.V.Diffable.patched l.key-iterator (g.M.Keyed.pairs l.map) ≡ all_patched g.V.Diffable.patched l.fn.diffs (g.M.Keyed.pairs l.fn.map)
