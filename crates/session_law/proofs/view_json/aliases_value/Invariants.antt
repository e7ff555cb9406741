use Rattle.std.proofs.Common.{◌≡◌}
use Rattle.serde_json.specs.Data.{no_members}
use Rattle.session_law.specs.ViewJson.{index_names_data}
use Rattle.serde_json.specs.View.{members_view}
use Rattle.meta_state.specs.Json.{with_members}
use Rattle.session_law.proofs.view_json.aliases_value.Given as goal

-- to put in what is left leads where putting in all would
abbrev pub invariant-loop-alias : goal.invariant-loop-alias
invariant-loop-alias l = with_members index_names_data l.alias-iterator (members_view l.members.entries) ≡ with_members index_names_data l.fn.aliases no_members
