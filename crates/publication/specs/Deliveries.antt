-- A new state delivered over links: what is sent to each, what it has then, and when the state is committed. That the
-- full state goes to a node that wasn't in the state before, or that doesn't have it, and a diff to the others, is
-- Elasticsearch's (`PublicationTransportHandler`). That it commits where the master and more than half of the eligible
-- nodes accepted, and ends there, is this project's own.
use Rattle.std.specs.Prelude.{◌≡◌, ◌≤◌, ◌<◌, ◌-◌, ◌==◌, ◌&&◌, ◌⊎◌, ℕ, Bool, true, false, not, List, [], ◌∷◌, ◌++◌, Option, Some, is_some, bytes_eq, count_by, if◌then◌else◌}
use Rattle.std.specs.List.{list_any}
use Rattle.edge_io.specs.Causes.{counted_up}
use Rattle.plain_data.specs.Pairs.{lookup}
use Rattle.meta_state.specs.declared.cluster_state.ClusterState.{ClusterState}
use Rattle.meta_state.specs.Voters.{is_eligible, is_majority}
use Rattle.publication.specs.declared.deliveries.Answer.{Answer}
use Rattle.publication.specs.declared.deliveries.Delivery.{Delivery}
use Rattle.publication.specs.LinkMeanings.{Fails, LinkMeaning}
use Rattle.publication.specs.Threes.{AllThree}

-- ---- one link

-- what a link has to be, so that a new state can be delivered over it: its node doesn't have that state yet and wasn't
-- sent it, has the state before where it has one of its identifier, and can be handed one commit more
pub record CanTake (prev new : ClusterState) (link : LinkMeaning) : Type 0 where
  pub other : link.held.id ≡ new.id → ⊥
  pub same : link.held.id ≡ prev.id → link.held ≡ prev
  pub room : 0 < link.room
  pub unsent : link.last ≡ Some new.id → ⊥

abbrev pub is_in : ClusterState → LinkMeaning → Bool
is_in state link = is_some (lookup link.name state.nodes)

-- whether what its node accepts is the diff from the state before: it was in that state, and has it
abbrev pub is_sent_diff : ClusterState → LinkMeaning → Bool
is_sent_diff prev link = is_in prev link && (link.held.id == prev.id)

-- what comes of it at a link, of which it is told whether its node accepted and whether it was handed the commit
abbrev pub answer_of : ClusterState → ClusterState → LinkMeaning → Bool → Bool → Answer
answer_of prev new link took got = record {
  asked = is_in new link;
  accepted = took;
  by_diff = took && is_sent_diff prev link;
  votes = took && is_eligible (lookup link.name new.nodes);
  leads = took && bytes_eq link.name new.master;
  handed = got;
}

-- what the link has then: a node that accepted holds the new state, and what it was handed grew by it. A node of the new
-- state was sent one publication more, and this is the number of what it was handed.
abbrev pub held_if : ClusterState → LinkMeaning → Bool → ClusterState
held_if new link took = if took then new else link.held

abbrev pub ready_if : LinkMeaning → Bool → Bool → Bool
ready_if link took got = if took then not got else link.ready

abbrev pub handed_if : ClusterState → LinkMeaning → Bool → List ClusterState
handed_if new link got = if got then link.handed ++ new ∷ [] else link.handed

abbrev pub room_if : LinkMeaning → Bool → ℕ
room_if link got = if got then link.room - 1 else link.room

abbrev pub last_if : ClusterState → LinkMeaning → Option ℕ
last_if new link = if is_in new link then Some new.id else link.last

abbrev pub sent_if : ClusterState → LinkMeaning → ℕ
sent_if new link = if is_in new link then counted_up link.sent else link.sent

abbrev pub numbers_if : ClusterState → LinkMeaning → Bool → List ℕ
numbers_if new link got = if got then link.numbers ++ sent_if new link ∷ [] else link.numbers

abbrev pub link_after : ClusterState → LinkMeaning → Bool → Bool → ℕ → LinkMeaning
link_after new link took got count = record {
  name = link.name;
  held = held_if new link took;
  ready = ready_if link took got;
  handed = handed_if new link got;
  room = room_if link got;
  faults = count;
  reliable = link.reliable;
  last = last_if new link;
  sent = sent_if new link;
  numbers = numbers_if new link got;
  base = link.base;
}

-- What was delivered over a link, by what it was before and is now. A node that isn't in the new state is sent nothing.
-- A node misses it, and a node that accepted misses the commit, only where the link failed.
pub record IsDelivered (prev new : ClusterState) (commits : Bool) (before after : LinkMeaning) (answer : Answer) : Type 0 where
  pub told : answer ≡ answer_of prev new before answer.accepted answer.handed
  pub link : after ≡ link_after new before answer.accepted answer.handed after.faults
  pub faults : before.faults ≤ after.faults
  pub outside : answer.asked ≡ false → (answer.accepted ≡ false) × (after.faults ≡ before.faults)
  pub missed : answer.asked ≡ true → answer.accepted ≡ false → Fails before after
  pub committed : answer.handed ≡ true → (commits ≡ true) × (answer.accepted ≡ true)
  pub lost : commits ≡ true → answer.accepted ≡ true → answer.handed ≡ false → Fails before after

-- a link for which memory was wanting: its node holds what it held, or the new state
pub record HoldsOldOrNew (new : ClusterState) (before after : LinkMeaning) : Type 0 where
  pub name : after.name ≡ before.name
  pub held : (after.held ≡ before.held) ⊎ (after.held ≡ new)

-- ---- all links

abbrev pub diffs_in : List Answer → ℕ
diffs_in answers = count_by (λ a. a.by_diff) answers

abbrev pub fulls_in : List Answer → ℕ
fulls_in answers = count_by (λ a. a.accepted && not a.by_diff) answers

abbrev pub votes_in : List Answer → ℕ
votes_in answers = count_by (λ a. a.votes) answers

-- whether it commits: the master and more than half of the eligible nodes accepted it
abbrev pub does_commit : ClusterState → List Answer → Bool
does_commit new answers = list_any (λ a. a.leads) answers && is_majority new.nodes (votes_in answers)

-- what was delivered over links
pub record IsDelivery (prev new : ClusterState) (before after : List LinkMeaning) (delivery : Delivery) : Type 0 where
  pub commits : delivery.commits ≡ does_commit new delivery.answers
  pub each : AllThree (IsDelivered prev new delivery.commits) before after delivery.answers
