-- What a caller may rely on at a link, and what each call makes of it. A count of faults shows the cause of each fault:
-- it never falls, and goes up by one where the node can't be reached (`Rose`). A link also counts the publications that
-- were sent over it: a message counts one more, unless it leads to the state to which the last one led. All of it is this
-- project's own.
use Rattle.std.specs.Prelude.{◌≡◌, ◌-◌, ◌==◌, ℕ, Bool, false, ◌||◌, List, [], ◌∷◌, ◌++◌, Option, Some, None, ◌⊎◌, if◌then◌else◌}
use Rattle.edge_io.specs.Causes.{Rose, counted_up}
use Rattle.meta_state.specs.declared.cluster_state.ClusterState.{ClusterState}
use Rattle.publication.specs.declared.messages.Message.{Message}
use Rattle.publication.specs.Messages.{is_accepted, received, target_id}

-- A link: its node's name, the state that the node holds, whether this is ready to be handed, the states that the node
-- was handed, for how many commits there is room, how many calls have failed, and whether none ever does. Then the
-- identifier of the state to which the last message led, how many publications were sent, and for each of the states that
-- the node was handed, how many these were as it was handed. Last the state of the last commit that was passed on from
-- the link, where one was and it is known: no call changes it.
pub record LinkMeaning : Type 0 where
  pub name : List ℕ
  pub held : ClusterState
  pub ready : Bool
  pub handed : List ClusterState
  pub room : ℕ
  pub faults : ℕ
  pub reliable : Bool
  pub last : Option ℕ
  pub sent : ℕ
  pub numbers : List ℕ
  pub base : Option ClusterState

-- ---- the count of publications

-- whether the last message led to a state of this identifier
abbrev pub is_last : Option ℕ → ℕ → Bool
is_last None id = false
is_last (Some last) id = last == id

-- how many publications were sent, with a message that leads to a state of this identifier
abbrev pub sent_with : ℕ → LinkMeaning → ℕ
sent_with id link = if is_last link.last id then link.sent else counted_up link.sent

-- ---- a call

-- a commit that couldn't reach the node: the fault was counted, and nothing else changed
abbrev pub after_fault : LinkMeaning → ℕ → LinkMeaning
after_fault link faults = record link { faults = faults }

-- a call failed: its fault was counted, and the link isn't one of which none fails
pub record Fails (before after : LinkMeaning) : Type 0 where
  pub rose : Rose before.faults after.faults
  pub can : before.reliable ≡ false

-- a message that leads to a state of this identifier, and that the node doesn't accept: it is noted, and nothing else
-- changed but for the count of faults
abbrev pub after_noted : ℕ → LinkMeaning → ℕ → LinkMeaning
after_noted id link faults = record link { faults = faults; last = Some id; sent = sent_with id link }

-- a message that couldn't reach the node: it is noted all the same
abbrev pub after_missed : Message → LinkMeaning → ℕ → LinkMeaning
after_missed message link faults = after_noted (target_id message) link faults

-- a message that reached the node: what is accepted is held, and ready to be handed
abbrev pub after_message : Message → LinkMeaning → ℕ → LinkMeaning
after_message message link faults = record link {
  held = (received link.held message).1;
  ready = is_accepted (received link.held message).0 || link.ready;
  faults = faults;
  last = Some (target_id message);
  sent = sent_with (target_id message) link;
}

-- a commit that reached the node: it has what it holds, at the count of publications, and holds it still
abbrev pub after_hand : LinkMeaning → ℕ → LinkMeaning
after_hand link faults = record link {
  ready = false;
  handed = link.handed ++ link.held ∷ [];
  room = link.room - 1;
  faults = faults;
  numbers = link.numbers ++ link.sent ∷ [];
}

-- a message for which memory was wanting: what is held is what was held, or what the message would have left, and the
-- message may be noted or not
pub record HoldsOldOrSent (message : Message) (old new : LinkMeaning) : Type 0 where
  pub held : (new.held ≡ old.held) ⊎ (new.held ≡ (received old.held message).1)
  pub rest : new ≡ record old { held = new.held; ready = new.ready; faults = new.faults; last = new.last; sent = new.sent }

-- how a script fails what is sent to a node: the message isn't received, or the commit isn't handed
pub data ScriptedFault : Type 0 where
  Unreachable : ScriptedFault
  LostCommit : ScriptedFault

-- How a link follows a script, where it tells: the identifier of the state to which the last message led, how many
-- publications were sent to it, its fault at each count, and at which count it was handed each of the states. Of a call
-- at which the count of strays rises, or whose message it doesn't carry, it tells nothing; a steady link has no strays
-- and carries every message.
pub record ScriptMeaning : Type 0 where
  pub last : Option ℕ
  pub publications : ℕ
  pub fault_at : ℕ → Option ScriptedFault
  pub numbers : List ℕ
  pub strays : ℕ
  pub carries : Message → Bool
  pub steady : Bool
