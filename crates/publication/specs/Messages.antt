-- Messages to a node, and what a node makes of them: the state that it holds then, and its receipt. A diff is accepted
-- where it was made from the state that is held, or leads to it (Elasticsearch's `PublicationTransportHandler`).
use Rattle.std.specs.Prelude.{◌≡◌, ℕ, Bool, true, false, Option, Some, None}
use Rattle.meta_state.specs.declared.cluster_state.ClusterState.{ClusterState}
use Rattle.state_diff.specs.declared.state_diffs.DiffParts.{DiffParts}
use Rattle.state_diff.specs.StateDiffs.{applied}
use Rattle.publication.specs.declared.messages.Message.{Message}
use Rattle.publication.specs.declared.messages.Message.TheVariants.{Full, Diff}
use Rattle.publication.specs.declared.messages.MessageKind.{MessageKind}
use Rattle.publication.specs.declared.messages.MessageKind.TheVariants as kinds
use Rattle.publication.specs.declared.receipts.Receipt.{Receipt}
use Rattle.publication.specs.declared.receipts.Receipt.TheVariants.{Accepted, Incompatible}

-- the identifier of the state that a message leads to
abbrev pub target_id : Message → ℕ
target_id (Full state) = state.id
target_id (Diff diff) = diff.to_id

abbrev pub kind_of : Message → MessageKind
kind_of (Full _) = kinds.Full
kind_of (Diff _) = kinds.Diff

-- what comes of a diff that makes this of what is held: where it makes nothing, what is held stays
abbrev pub received_diff : DiffParts → ClusterState → Option ClusterState → Receipt × ClusterState
received_diff diff held None = (Incompatible held.id diff.from_id, held)
received_diff diff held (Some made) = (Accepted, made)

-- what a diff makes of what is held, where it can be applied
unfoldable pub made_of : DiffParts → ClusterState → Option ClusterState
made_of diff held = applied diff held

-- the receipt of a message, and what is held then
unfoldable pub received : ClusterState → Message → Receipt × ClusterState
received held (Full state) = (Accepted, state)
received held (Diff diff) = received_diff diff held (made_of diff held)

abbrev pub is_accepted : Receipt → Bool
is_accepted Accepted = true
is_accepted (Incompatible _ _) = false

-- what was accepted is the message's state
abbrev pub AcceptsTarget : Receipt → ClusterState → Message → Type 0
AcceptsTarget Accepted held message = held.id ≡ target_id message
AcceptsTarget (Incompatible _ _) held message = Unit {0}
