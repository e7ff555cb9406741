-- What comes of a message, and of a new state, at one link, before it is committed.
use Rattle.std.specs.Prelude.{◌≡◌, ◌≤◌, ◌&&◌, ℕ, Bool, true, false, Some}
use Rattle.meta_state.specs.declared.cluster_state.ClusterState.{ClusterState}
use Rattle.state_diff.specs.StateDiffs.{applied, state_between}
use Rattle.publication.specs.declared.deliveries.Answer.{Answer}
use Rattle.publication.specs.declared.messages.Message.{Message}
use Rattle.publication.specs.declared.messages.Message.TheVariants.{Full, Diff}
use Rattle.publication.specs.declared.offers.Offer.{Offer}
use Rattle.publication.specs.declared.offers.Offer.TheVariants as offer
use Rattle.publication.specs.declared.sendings.Brought.{Brought}
use Rattle.publication.specs.declared.sendings.Brought.TheVariants as brought
use Rattle.publication.specs.Deliveries.{is_sent_diff}
use Rattle.publication.specs.LinkMeanings.{Fails, LinkMeaning, after_noted, sent_with}
use Rattle.publication.specs.Messages.{is_accepted, received, target_id}

-- ---- one message

-- a link whose node holds a state now, with the message that leads to a state of this identifier noted
abbrev pub after_taken : ℕ → ClusterState → LinkMeaning → ℕ → LinkMeaning
after_taken id held link faults = record link { held = held; ready = true; faults = faults; last = Some id; sent = sent_with id link }

pub record IsAccepted (message : Message) (before after : LinkMeaning) : Type 0 where
  pub takes : is_accepted (received before.held message).0 ≡ true
  pub link : after ≡ after_taken (target_id message) (received before.held message).1 before after.faults
  pub faults : before.faults ≤ after.faults

pub record IsRefused (message : Message) (before after : LinkMeaning) : Type 0 where
  pub refuses : is_accepted (received before.held message).0 ≡ false
  pub link : after ≡ after_noted (target_id message) before after.faults
  pub faults : before.faults ≤ after.faults

-- by the identifier of the state to which the message leads
pub record IsMissed (id : ℕ) (before after : LinkMeaning) : Type 0 where
  pub link : after ≡ after_noted id before after.faults
  pub fails : Fails before after
  pub faults : before.faults ≤ after.faults

-- what came of a message: it was accepted, refused, or didn't reach the node
abbrev pub IsOffered : Message → LinkMeaning → LinkMeaning → Offer → Type 0
IsOffered message before after offer.Accepted = IsAccepted message before after
IsOffered message before after offer.Refused = IsRefused message before after
IsOffered message before after offer.Missed = IsMissed (target_id message) before after

-- ---- a new state

-- the state before, and the new one
pub record Change : Type 0 where
  pub prev : ClusterState
  pub new : ClusterState

-- the two messages that bring a new state
pub record AreMessagesOf (change : Change) (diff full : Message) : Type 0 where
  pub diff_is : diff ≡ Diff (state_between change.prev change.new)
  pub full_is : full ≡ Full change.new
  pub leads : applied (state_between change.prev change.new) change.prev ≡ Some change.new

-- its node has the new state, which is ready to be handed
pub record Holds (change : Change) (by_diff : Bool) (before after : LinkMeaning) : Type 0 where
  pub sent : is_sent_diff change.prev before ≡ by_diff
  pub link : after ≡ after_taken change.new.id change.new before after.faults
  pub faults : before.faults ≤ after.faults

abbrev pub IsBrought : Change → LinkMeaning → LinkMeaning → Brought → Type 0
IsBrought change before after brought.ByDiff = Holds change true before after
IsBrought change before after brought.InFull = Holds change false before after
IsBrought change before after brought.Missed = IsMissed change.new.id before after

-- the answer of a node that was sent it, before the commit, by how it was brought, whether the node counts for the
-- majority, and whether it is the master
abbrev pub is_taken : Brought → Bool
is_taken brought.ByDiff = true
is_taken brought.InFull = true
is_taken brought.Missed = false

abbrev pub is_by_diff : Brought → Bool
is_by_diff brought.ByDiff = true
is_by_diff brought.InFull = false
is_by_diff brought.Missed = false

abbrev pub answer_by : Brought → Bool → Bool → Answer
answer_by how eligible master = record {
  asked = true;
  accepted = is_taken how;
  by_diff = is_by_diff how;
  votes = is_taken how && eligible;
  leads = is_taken how && master;
  handed = false;
}
