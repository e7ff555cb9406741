use Rattle.std.proofs.Common.{◌≡◌, ◌++◌, drop, map}
use Rattle.master_run.proofs.replays.zeros.Given as goal

abbrev pub invariant-loop-steps : goal.invariant-loop-steps
invariant-loop-steps l = l.zeros ++ map (λ steps. 0) (drop l._steps-index l.script.clients) ≡ map (λ steps. 0) l.script.clients
