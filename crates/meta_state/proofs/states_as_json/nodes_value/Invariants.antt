use Rattle.std.proofs.Common.{◌≡◌}
use Rattle.serde_json.specs.Data.{no_members}
use Rattle.serde_json.specs.View.{members_view}
use Rattle.meta_state.specs.Json.{with_members, node_data}
use Rattle.meta_state.proofs.states_as_json.nodes_value.Given as goal

-- to put in what is left leads where putting in all would
abbrev pub invariant-loop-name : goal.invariant-loop-name
invariant-loop-name l = with_members node_data l.name-iterator (members_view l.members.entries) ≡ with_members node_data l.fn.nodes no_members
