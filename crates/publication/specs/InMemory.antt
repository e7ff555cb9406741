-- The link in memory, as contracts see it. It numbers its calls from 0, and those that are listed can't reach the node.
-- The number stands still at 2^64 - 1.
use Rattle.std.specs.Prelude.{◌==◌, ℕ, Bool, true, false, List, [], ◌∷◌, ◌++◌, None, if◌then◌else◌}
use Rattle.std.specs.List.{list_any}
use Rattle.edge_io.specs.Causes.{counted_up}
use Rattle.meta_state.specs.declared.cluster_state.ClusterState.{ClusterState}
use Rattle.publication.specs.declared.messages.Message.{Message}
use Rattle.publication.specs.declared.messages.MessageKind.{MessageKind}
use Rattle.publication.specs.LinkMeanings.{LinkMeaning, after_hand, after_message, after_missed}
use Rattle.publication.specs.Messages.{kind_of}

-- a link, the numbers of the calls that fail, how many calls there were, and the kinds of the messages that were answered
pub record MemLinkView : Type 0 where
  pub meaning : LinkMeaning
  pub failing : List ℕ
  pub calls : ℕ
  pub kinds : List MessageKind

-- whether no call is one of those that fail
abbrev pub is_nil : List ℕ → Bool
is_nil [] = true
is_nil (_ ∷ _) = false

abbrev pub new_mem_link : List ℕ → ClusterState → ℕ → List ℕ → MemLinkView
new_mem_link name held room failing = record {
  meaning = record {
    name = name;
    held = held;
    ready = false;
    handed = [];
    room = room;
    faults = 0;
    reliable = is_nil failing;
    last = None;
    sent = 0;
    numbers = [];
    base = None;
  };
  failing = failing;
  calls = 0;
  kinds = [];
}

-- whether the next call is one of those that fail
abbrev pub does_fail : MemLinkView → Bool
does_fail link = list_any (λ call. call == link.calls) link.failing

-- whether it fails, and the link with the call and its fault counted
abbrev pub counted_call : MemLinkView → Bool × MemLinkView
counted_call link = (
  does_fail link,
  record link {
    meaning = record link.meaning { faults = if does_fail link then counted_up link.meaning.faults else link.meaning.faults };
    calls = counted_up link.calls;
  },
)

-- a message that couldn't reach the node
abbrev pub mem_missed : Message → MemLinkView → MemLinkView
mem_missed message link = record link { meaning = after_missed message link.meaning link.meaning.faults }

-- a message that was answered
abbrev pub mem_received : Message → MemLinkView → MemLinkView
mem_received message link = record link {
  meaning = after_message message link.meaning link.meaning.faults;
  kinds = link.kinds ++ kind_of message ∷ [];
}

-- a commit that was handed
abbrev pub mem_handed : MemLinkView → MemLinkView
mem_handed link = record link { meaning = after_hand link.meaning link.meaning.faults }
