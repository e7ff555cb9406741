-- A publication, as its caller is told of it: by the places of the links, from 0.
use Rattle.std.specs.Prelude.{◌≡◌, ◌+◌, ℕ, Bool, List, [], ◌∷◌, if◌then◌else◌}
use Rattle.meta_state.specs.declared.cluster_state.ClusterState.{ClusterState}
use Rattle.publication.specs.declared.deliveries.Answer.{Answer}
use Rattle.publication.specs.declared.deliveries.Delivery.{Delivery}
use Rattle.publication.specs.declared.publications.Publication.{Publication}
use Rattle.publication.specs.declared.publications.Publication.TheVariants.{Committed, NotCommitted}
use Rattle.publication.specs.Deliveries.{IsDelivery, diffs_in, fulls_in}
use Rattle.publication.specs.LinkMeanings.{LinkMeaning}

-- the places of those that pass a test, from a place on
abbrev pub places_from : (Answer → Bool) → ℕ → List Answer → List ℕ
places_from test place [] = []
places_from test place (answer ∷ more) = if test answer then place ∷ places_from test (place + 1) more else places_from test (place + 1) more

abbrev pub places_of : (Answer → Bool) → List Answer → List ℕ
places_of test answers = places_from test 0 answers

abbrev pub accepted_places : List Answer → List ℕ
accepted_places answers = places_of (λ a. a.accepted) answers

abbrev pub handed_places : List Answer → List ℕ
handed_places answers = places_of (λ a. a.handed) answers

-- how a delivery is told
abbrev pub publication_of : Delivery → Publication
publication_of delivery =
    if delivery.commits
    then Committed (diffs_in delivery.answers) (fulls_in delivery.answers) (accepted_places delivery.answers) (handed_places delivery.answers)
    else NotCommitted (diffs_in delivery.answers) (fulls_in delivery.answers) (accepted_places delivery.answers)

-- a publication over links: there is a delivery that it tells
pub record IsPublication (prev new : ClusterState) (before after : List LinkMeaning) (publication : Publication) : Type 0 where
  pub delivery : Delivery
  pub delivered : IsDelivery prev new before after delivery
  pub told : publication ≡ publication_of delivery
