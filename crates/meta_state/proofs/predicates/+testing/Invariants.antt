use Rattle.std.proofs.Common.{◌≡◌, map, drop}
use Rattle.std.specs.List.{list_all, list_any}
use Rattle.meta_state.specs.Predicates.{is_met}
use Rattle.meta_state.proofs.predicates.+testing.Given as goal

-- all are met exactly where those that are left are
abbrev pub invariant-are_all_met-loop-part : goal.invariant-are_all_met-loop-part
invariant-are_all_met-loop-part l = list_all (λ b. b) (map (is_met l.state) (drop l.part-index l.parts)) ≡ list_all (λ b. b) (map (is_met l.state) l.parts)

-- one is met exactly where one that is left is
abbrev pub invariant-is_any_met-loop-part : goal.invariant-is_any_met-loop-part
invariant-is_any_met-loop-part l = list_any (λ b. b) (map (is_met l.state) (drop l.part-index l.parts)) ≡ list_any (λ b. b) (map (is_met l.state) l.parts)
