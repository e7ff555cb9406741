-- A countdown has no more failures than nodes whose answer was given.
use Rattle.std.specs.Prelude.{◌≡◌, ℕ, ◌+◌, ◌≤◌, Bool, true, false, List, length}
use Rattle.std.proofs.Common.{arith, sym, subst}
use Rattle.std.proofs.lemmas.List.{length-set}
use Rattle.ack_words.specs.Countdowns.{IsCounted}
use Rattle.ack_words.specs.Masks.{has_node, without_node}
use Rattle.ack_words.proofs.Masks.{node_count-without_node, node_count_falls, node_count_within}

pub none_counted : (missing : List Bool) → IsCounted missing 0
none_counted missing = record { within = let room = node_count_within missing in omega arith }

pub answer_counted : (before after : List Bool) (failures node : ℕ) → IsCounted before failures → after ≡ without_node node before → IsCounted after failures
answer_counted before after failures node counted after_is =
    subst (λ (missing : List Bool). IsCounted missing failures) (sym after_is)
    (record { within = let room = counted.within in omega (arith, node_count_falls node before, length-set before node false) })

pub failure_counted : (before after : List Bool) (failures node : ℕ) → IsCounted before failures → after ≡ without_node node before → has_node node before ≡ true → IsCounted after (failures + 1)
failure_counted before after failures node counted after_is missing =
    subst (λ (missing : List Bool). IsCounted missing (failures + 1)) (sym after_is)
    (record { within = let room = counted.within in omega (arith, node_count-without_node node before missing, length-set before node false) })

pub failure_fits : (missing : List Bool) (failures : ℕ) → IsCounted missing failures → length missing ≡ 30 → failures ≤ 30
failure_fits missing failures counted long = let room = counted.within in omega arith
