use Rattle.std.proofs.Common.{◌≡◌}
use Rattle.serde_json.specs.Data.{no_members, string}
use Rattle.serde_json.specs.View.{members_view}
use Rattle.meta_state.specs.Json.{with_members}
use Rattle.session_law.proofs.view_json.values_value.Given as goal

-- to put in what is left leads where putting in all would
abbrev pub invariant-loop-key : goal.invariant-loop-key
invariant-loop-key l = with_members string l.key-iterator (members_view l.members.entries) ≡ with_members string l.fn.values no_members
