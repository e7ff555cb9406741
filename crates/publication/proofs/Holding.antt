-- What a node holds after a delivery.
use Rattle.std.specs.Prelude.{◌≡◌, Bool, true, false, List, map, refl}
use Rattle.std.specs.List.{AllZip}
use Rattle.std.proofs.Common.{ap, inl, inr}
use Rattle.meta_state.specs.declared.cluster_state.ClusterState.{ClusterState}
use Rattle.publication.specs.declared.deliveries.Answer.{Answer}
use Rattle.publication.specs.declared.deliveries.Delivery.{Delivery}
use Rattle.publication.specs.Deliveries.{HoldsOldOrNew, IsDelivered, IsDelivery, held_if}
use Rattle.publication.specs.LinkMeanings.{LinkMeaning}
use Rattle.publication.specs.Threes.{AllThree}
use Rattle.publication.proofs.Threes.{three_by}
use Rattle.publication.proofs.Walks.{each_itself}

-- it is what it held, or the new state
pub holds_what_it_held : (new : ClusterState) (link : LinkMeaning) → HoldsOldOrNew new link link
holds_what_it_held new link = record { name = refl; held = inl refl }

holds_by : (new : ClusterState) (before after : LinkMeaning) (took : Bool) → after.name ≡ before.name → after.held ≡ held_if new before took → HoldsOldOrNew new before after
holds_by new before after true name held = record { name = name; held = inr held }
holds_by new before after false name held = record { name = name; held = inl held }

pub delivered_holds : (prev new : ClusterState) (commits : Bool) (before after : LinkMeaning) (answer : Answer) → IsDelivered prev new commits before after answer
    → HoldsOldOrNew new before after
delivered_holds prev new commits before after answer is =
    holds_by new before after answer.accepted (ap (λ l. l.name) is.link) (ap (λ l. l.held) is.link)

-- where nothing was sent
pub all_hold_what_they_held : {L : Type 0} (f : L → LinkMeaning) (new : ClusterState) (links : List L) → AllZip (HoldsOldOrNew new) (map f links) (map f links)
all_hold_what_they_held f new links = each_itself f (HoldsOldOrNew new) (holds_what_it_held new) links links refl

pub all_delivered_hold : (prev new : ClusterState) (commits : Bool) (before after : List LinkMeaning) (answers : List Answer)
    → AllThree (IsDelivered prev new commits) before after answers → AllZip (HoldsOldOrNew new) before after
all_delivered_hold prev new commits before after answers all =
    three_by (IsDelivered prev new commits) (λ before after answers. AllZip (HoldsOldOrNew new) before after) tt
    (λ b a answer more_b more_a more is each rest. (delivered_holds prev new commits b a answer is, rest)) before after answers all

pub delivery_holds : (prev new : ClusterState) (before after : List LinkMeaning) (delivery : Delivery) → IsDelivery prev new before after delivery
    → AllZip (HoldsOldOrNew new) before after
delivery_holds prev new before after delivery is = all_delivered_hold prev new delivery.commits before after delivery.answers is.each
