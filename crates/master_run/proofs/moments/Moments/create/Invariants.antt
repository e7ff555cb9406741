use Rattle.std.proofs.Common.{◌≡◌, ◌++◌, drop, map, replicate}
use Rattle.master_run.proofs.moments.Moments.create.Given as goal

abbrev pub invariant-loop-steps : goal.invariant-loop-steps
invariant-loop-steps l = l.rows.items ++ map (λ steps. replicate steps 0) (drop l.steps-index l.lanes) ≡ map (λ steps. replicate steps 0) l.lanes
