use Rattle.std.proofs.Common.{◌≡◌, ◌++◌, drop}
use Rattle.publication.specs.Publications.{accepted_places, places_from}
use Rattle.publication.proofs.publications.who_accepted.Given as goal

abbrev pub invariant-loop-place : goal.invariant-loop-place
invariant-loop-place l = l.places ++ places_from (λ a. a.accepted) l.place (drop l.place l.answers) ≡ accepted_places l.answers
