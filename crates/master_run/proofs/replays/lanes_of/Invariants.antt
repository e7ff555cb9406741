use Rattle.std.proofs.Common.{◌≡◌, ◌++◌, drop, length, map}
use Rattle.master_run.proofs.replays.lanes_of.Given as goal

abbrev pub invariant-loop-steps : goal.invariant-loop-steps
invariant-loop-steps l = l.lanes ++ map length (drop l.steps-index l.script.clients) ≡ map length l.script.clients
