-- Whose answers are missing: one of some node is exactly where a countdown's set of nodes isn't empty.
use Rattle.std.specs.Prelude.{◌≡◌, ℕ, zero, suc, Bool, true, false, not, ◌||◌, List, [], ◌∷◌, Option, Some, None, slice_get, refl}
use Rattle.std.proofs.Common.{sym, ◌∙◌}
use Rattle.std.proofs.Math.Bool.{true≢false}
use Rattle.ack_words.specs.Countdowns.{Countdown}
use Rattle.ack_words.specs.Masks.{has_node, is_without_nodes}
use Rattle.ack_words.proofs.Masks.{has_node-without_nodes, without_nodes_from}
use Rattle.scripts.specs.declared.whole_script.ScriptNode.{ScriptNode}
use Rattle.master_run.specs.AckCounts.{is_missing_at, is_missing_so}
use Rattle.master_run.specs.AckCourses.{Acked, awaits_some, is_missing}
use Rattle.master_run.specs.Nodes.{NodeCourse}
use Rattle.master_run.proofs.Keeping.{false_from, neither}

pub awaits_none : (a : Acked) (nodes : List ScriptNode) (have : List NodeCourse) → ((number : ℕ) → is_missing_at a nodes have number ≡ false) → awaits_some a nodes have ≡ false
awaits_none a [] have none = refl
awaits_none a (_ ∷ _) [] none = refl
awaits_none a (node ∷ more) (has ∷ others) none = λ i. none 0 i || awaits_none a more others (λ (number : ℕ). none (suc number)) i

so_none : (a : Acked) (node : Option ScriptNode) → is_missing_so a node None ≡ false
so_none a None = refl
so_none a (Some node) = refl

pub missing_none : (a : Acked) (nodes : List ScriptNode) (have : List NodeCourse) → awaits_some a nodes have ≡ false → (number : ℕ) → is_missing_at a nodes have number ≡ false
missing_none a [] have none number = refl
missing_none a (node ∷ more) [] none number = so_none a (slice_get (node ∷ more) number)
missing_none a (node ∷ more) (has ∷ others) none zero = (neither (is_missing a node has) (awaits_some a more others) none).0
missing_none a (node ∷ more) (has ∷ others) none (suc number) =
    missing_none a more others (neither (is_missing a node has) (awaits_some a more others) none).1 number

awaits_by : (a : Acked) (nodes : List ScriptNode) (have : List NodeCourse) (countdown : Countdown) (b : Bool) → awaits_some a nodes have ≡ b
    → ((number : ℕ) → has_node number countdown.missing ≡ is_missing_at a nodes have number) → is_without_nodes countdown.missing ≡ not b
awaits_by a nodes have countdown false e same = without_nodes_from countdown.missing (λ number. same number ∙ missing_none a nodes have e number)
awaits_by a nodes have countdown true e same = false_from (is_without_nodes countdown.missing) (λ none.
    true≢false (sym e ∙ awaits_none a nodes have (λ number. sym (same number) ∙ has_node-without_nodes countdown.missing number none)))

pub missing_awaits : (a : Acked) (nodes : List ScriptNode) (have : List NodeCourse) (countdown : Countdown)
    → ((number : ℕ) → has_node number countdown.missing ≡ is_missing_at a nodes have number) → is_without_nodes countdown.missing ≡ not (awaits_some a nodes have)
missing_awaits a nodes have countdown same = awaits_by a nodes have countdown (awaits_some a nodes have) refl same
