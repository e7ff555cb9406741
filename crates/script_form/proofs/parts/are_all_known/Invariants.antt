use Rattle.std.proofs.Common.{◌≡◌, map}
use Rattle.std.specs.Prelude.{bytes_eq, string_bytes}
use Rattle.std.specs.List.{list_all, list_any}
use Rattle.serde_json.specs.View.{members_view}
use Rattle.script_form.specs.Parts.{are_known}
use Rattle.script_form.proofs.parts.are_all_known.Given as goal

-- the members so far are known, so all are exactly if those that are left are
abbrev pub invariant-loop-key : goal.invariant-loop-key
invariant-loop-key l = list_all (λ key. list_any (λ name. bytes_eq (string_bytes key) name.now) l.known) l.key-iterator ≡ are_known (map (λ k. k.now) l.known) (members_view l.members.entries)
