-- Counts over the steps of all clients.
use Rattle.std.proofs.Common.{◌≡◌, ◌+◌, true, List, [], ◌∷◌, ◌++◌, length, refl, arith}
use Rattle.std.specs.Prelude.{Bool, count_by, flat_map, nat_le}
use Rattle.std.specs.List.{list_all}
use Rattle.std.specs.Cmp.Derive.{both_true}
use Rattle.std.proofs.lemmas.Bool.{and_parts}
use Rattle.std.proofs.lemmas.Grind.{common_steps}
use Rattle.scripts.specs.declared.whole_script.ScriptNode.{ScriptNode}
use Rattle.scripts.specs.declared.queues.QueueSpec.{QueueSpec}
use Rattle.scripts.specs.declared.steps.Step.{Step}
use Rattle.scripts.specs.ValidSteps.{is_client}

count_append : (test : Step → Bool) (steps more : List Step) → count_by test (steps ++ more) ≡ count_by test steps + count_by test more
count_append test [] more = grind (arith, common_steps)
count_append test (first ∷ steps) more = grind (arith, common_steps, count_append test steps more)

-- the count over a client and those after it
pub count_client : (test : Step → Bool) (steps : List Step) (clients : List (List Step)) → count_by test (flat_map (λ s. s) (steps ∷ clients)) ≡ count_by test steps + count_by test (flat_map (λ s. s) clients)
count_client test steps clients = count_append test steps (flat_map (λ s. s) clients)

pub clients_are_short : (nodes : List ScriptNode) (queues : List QueueSpec) (clients : List (List Step)) → list_all (is_client nodes queues) clients ≡ true → list_all (λ steps. nat_le (length steps) 4096) clients ≡ true
clients_are_short nodes queues [] valid = refl
clients_are_short nodes queues (steps ∷ clients) valid =
    let parts = and_parts _ _ valid in
    both_true (and_parts _ _ parts.0).0 (clients_are_short nodes queues clients parts.1)
