use Rattle.publication.specs.Handings.{IsHanded}
use Rattle.publication.proofs.Walks.{HasGone}
use Rattle.publication.proofs.all_links.hand_all.Given as goal

abbrev pub invariant-loop-place : goal.invariant-loop-place
invariant-loop-place g l = HasGone g.L.Link.meaning IsHanded l.place l.initial.links l.links l.initial.answers l.answers
