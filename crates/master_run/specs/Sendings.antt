-- The links to a script's nodes, and what is sent over them for a batch: nothing where it is settled, and else the
-- proposed state. The clock is read once, and only where that is committed.
use Rattle.std.specs.Prelude.{◌≡◌, ℕ, ◌+◌, ◌<◌, ◌≤◌, ◌^◌, Bool, true, List, Option, Some, None, map, IsTrue}
use Rattle.std.specs.List.{AllByRecursion}
use Rattle.publication.specs.Deliveries.{CanTake, IsDelivery, does_commit}
use Rattle.publication.specs.LinkMeanings.{LinkMeaning}
use Rattle.scripts.specs.declared.whole_script.ScriptNode.{ScriptNode}
use Rattle.session_law.specs.declared.worlds.World.{World}
use Rattle.master_run.specs.declared.plans.Plan.{Plan}
use Rattle.master_run.specs.declared.plans.Plan.TheVariants.{Settled, Proposed}
use Rattle.master_run.specs.declared.plans.Planned.{Planned}
use Rattle.master_run.specs.declared.plans.Proposal.{Proposal}
use Rattle.master_run.specs.declared.sendings.Sent.{Sent}
use Rattle.master_run.specs.Touching.{AgreeOutsideThese}

-- the state to which a last message led, if there was one, was proposed; the proposals are those so far
abbrev pub WasProposed : ℕ → Option ℕ → Type 0
WasProposed proposals None = Unit {0}
WasProposed proposals (Some id) = id ≤ proposals + 1

-- One link for each node of a script, in its order. Each holds what its node last accepted, has counted the publications
-- that were sent to it, and carried no state that isn't proposed yet.
pub record AreLinksOf (nodes : List ScriptNode) (world : World) (links : List LinkMeaning) : Type 0 where
  pub names : map (λ l. l.name) links ≡ map (λ n. n.name) nodes
  pub held : map (λ l. l.held) links ≡ map (λ n. n.accepted) world.nodes
  pub sent : map (λ l. l.sent) links ≡ map (λ n. n.sent) world.nodes
  pub last : AllByRecursion (λ l. WasProposed world.proposals l.last) links

abbrev pub HaveRoom : List LinkMeaning → Type 0
HaveRoom links = AllByRecursion (λ l. 0 < l.room) links

-- a proposal may be sent
pub record IsSendable (planned : Planned) (world : World) (proposal : Proposal) (links : List LinkMeaning) : Type 0 where
  pub differ : world.state.id ≡ proposal.new.id → ⊥
  pub each : AllByRecursion (CanTake world.state proposal.new) links
  pub bound : proposal.new.version < 2 ^ 32
  pub agree : AgreeOutsideThese planned.touched world.state proposal.new

abbrev pub CanSend : Planned → World → List LinkMeaning → Plan → Type 0
CanSend planned world links (Settled stepped) = Unit {0}
CanSend planned world links (Proposed proposal) = IsSendable planned world proposal links

-- a proposal was sent: it was delivered, and a commit has a reading that the clock may give
pub record IsProposed (world : World) (may_read : ℕ → Bool) (before after : List LinkMeaning) (sent : Sent) (proposal : Proposal) : Type 0 where
  pub delivered : IsDelivery world.state proposal.new before after sent.delivery
  pub read : sent.delivery.commits ≡ true → IsTrue (may_read sent.commit)

-- what was sent for a plan
abbrev pub IsSentFor : World → (ℕ → Bool) → List LinkMeaning → List LinkMeaning → Sent → Plan → Type 0
IsSentFor world may_read before after sent (Settled stepped) = after ≡ before
IsSentFor world may_read before after sent (Proposed proposal) = IsProposed world may_read before after sent proposal

-- a proposal commits where its answers say so
abbrev pub IsDecided : Sent → Plan → Type 0
IsDecided sent (Settled stepped) = Unit {0}
IsDecided sent (Proposed proposal) = sent.delivery.commits ≡ does_commit proposal.new sent.delivery.answers
