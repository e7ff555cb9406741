use Rattle.std.proofs.Common.{◌≡◌, ◌++◌, drop}
use Rattle.publication.specs.Publications.{handed_places, places_from}
use Rattle.publication.proofs.publications.who_was_handed.Given as goal

abbrev pub invariant-loop-place : goal.invariant-loop-place
invariant-loop-place l = l.places ++ places_from (λ a. a.handed) l.place (drop l.place l.answers) ≡ handed_places l.answers
