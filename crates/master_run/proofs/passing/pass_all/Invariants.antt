use Rattle.publication.proofs.Walks.{HasGone}
use Rattle.master_run.proofs.PassedOn.{IsPassedOn, itself}
use Rattle.master_run.proofs.passing.pass_all.Given as goal

abbrev pub invariant-loop-place : goal.invariant-loop-place
invariant-loop-place l = HasGone itself IsPassedOn l.place l.initial.links l.links l.initial.nodes l.nodes
