-- A commit handed over one link, and over all.
use Rattle.std.specs.Prelude.{◌≡◌, ◌≤◌, ◌<◌, ◌-◌, ℕ, Bool, true, false, ◌++◌, List, [], ◌∷◌, IsTrue, if◌then◌else◌}
use Rattle.meta_state.specs.declared.cluster_state.ClusterState.{ClusterState}
use Rattle.publication.specs.declared.deliveries.Answer.{Answer}
use Rattle.publication.specs.declared.deliveries.Delivery.{Delivery}
use Rattle.publication.specs.Deliveries.{does_commit}
use Rattle.publication.specs.Fours.{AllFour}
use Rattle.publication.specs.LinkMeanings.{Fails, LinkMeaning}

-- what a link has to be, so that it can be handed the new state
pub record IsReadyFor (new : ClusterState) (link : LinkMeaning) : Type 0 where
  pub held : link.held ≡ new
  pub ready : IsTrue link.ready
  pub room : 0 < link.room

-- where its node accepted the new state, a link can be handed it
abbrev pub CanBeHanded : ClusterState → LinkMeaning → Answer → Type 0
CanBeHanded new link answer = answer.accepted ≡ true → IsReadyFor new link

-- a link after a commit that its node got, or didn't
abbrev pub handed_link : LinkMeaning → Bool → ℕ → LinkMeaning
handed_link link got count =
    if got
    then record link { ready = false; handed = link.handed ++ link.held ∷ []; room = link.room - 1; faults = count; numbers = link.numbers ++ link.sent ∷ [] }
    else record link { faults = count }

-- whether a node that accepted got the commit, by what its link was and is
pub record IsHandedOver (before after : LinkMeaning) (got : Bool) : Type 0 where
  pub link : after ≡ handed_link before got after.faults
  pub faults : before.faults ≤ after.faults
  pub lost : got ≡ false → Fails before after

-- a link that was asked, after the commit: its node was handed it where it had accepted, but for a failure
pub record IsHanded (before after : LinkMeaning) (was is_now : Answer) : Type 0 where
  pub rest : is_now ≡ record was { handed = is_now.handed }
  pub passed : was.accepted ≡ false → (is_now.handed ≡ false) × (after ≡ before)
  pub over : was.accepted ≡ true → IsHandedOver before after is_now.handed

-- What was made of links over which a new state was sent, and of what came of it at each: where it commits, each that
-- accepted was handed the commit, but for a failure. Else they are as they were.
pub record IsSettled (new : ClusterState) (before after : List LinkMeaning) (was : List Answer) (delivery : Delivery) : Type 0 where
  pub commits : delivery.commits ≡ does_commit new was
  pub handed : delivery.commits ≡ true → AllFour IsHanded before after was delivery.answers
  pub kept : delivery.commits ≡ false → (after ≡ before) × (delivery.answers ≡ was)
