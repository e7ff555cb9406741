-- At most one step of a script closes, and steps stay valid as one more is added.
use Rattle.std.proofs.Common.{◌≡◌, ℕ, ◌+◌, ◌≤◌, true, false, List, [], ◌∷◌, ◌++◌, length, refl, arith, append_assoc}
use Rattle.std.specs.Prelude.{Bool, ◌&&◌, ◌||◌, count_by, flat_map}
use Rattle.std.specs.List.{list_any}
use Rattle.std.specs.Cmp.Derive.{both_true}
use Rattle.std.proofs.lemmas.Bool.{and_parts}
use Rattle.std.proofs.lemmas.Grind.{common_steps}
use Rattle.std.proofs.lemmas.List.{append-nil}
use Rattle.std.proofs.lemmas.List.Folds.{list_all-append}
use Rattle.scripts.specs.declared.whole_script.ScriptNode.{ScriptNode}
use Rattle.scripts.specs.declared.queues.QueueSpec.{QueueSpec}
use Rattle.scripts.specs.declared.steps.Step.{Step}
use Rattle.scripts.specs.Scripts.{is_close}
use Rattle.scripts.specs.ValidSteps.{are_steps, is_step}
use Rattle.script_form.specs.Clients.{AreClients, AreSteps, closes, do_close, one_if_so}

are_steps_after : (nodes : List ScriptNode) (queues : List QueueSpec) (before steps : List Step) (next : Step) → are_steps nodes queues before steps ≡ true → is_step nodes queues (before ++ steps) next ≡ true → are_steps nodes queues before (steps ++ next ∷ []) ≡ true
are_steps_after nodes queues before [] next valid one = both_true (rw (append-nil before) at one) refl
are_steps_after nodes queues before (first ∷ steps) next valid one =
    let parts = and_parts _ _ valid in
    both_true parts.0 (are_steps_after nodes queues (before ++ first ∷ []) steps next parts.1 (rw (append_assoc before (first ∷ []) steps) one))

-- ---- steps that close

none_counted : (steps : List Step) → list_any is_close steps ≡ false → count_by is_close steps ≡ 0
none_counted [] none = refl
none_counted (first ∷ steps) none = grind (arith, common_steps, none_counted steps)

count_push : (steps : List Step) (next : Step) → count_by is_close (steps ++ next ∷ []) ≡ count_by is_close steps + one_if_so (is_close next)
count_push [] next = grind (arith, common_steps)
count_push (first ∷ steps) next = grind (arith, common_steps, count_push steps next)

count_append : (steps more : List Step) → count_by is_close (steps ++ more) ≡ count_by is_close steps + count_by is_close more
count_append [] more = grind (arith, common_steps)
count_append (first ∷ steps) more = grind (arith, common_steps, count_append steps more)

once_more : (closed closes : Bool) (count : ℕ) (here : Bool) → (closes ≡ false → count ≡ 0) → one_if_so closed + count ≤ 1 → (here && (closed || closes)) ≡ false → one_if_so closed + (count + one_if_so here) ≤ 1
once_more closed closes count here none once may = grind (arith, common_steps)

pub steps_push : (nodes : List ScriptNode) (queues : List QueueSpec) (closed : Bool) (steps : List Step) (next : Step)
    → AreSteps nodes queues closed steps → is_step nodes queues steps next ≡ true → (is_close next && (closed || list_any is_close steps)) ≡ false
    → AreSteps nodes queues closed (steps ++ next ∷ [])
steps_push nodes queues closed steps next all valid may = record {
  valid = are_steps_after nodes queues [] steps next all.valid valid;
  once = rw (count_push steps next) (once_more closed (list_any is_close steps) (count_by is_close steps) (is_close next) (none_counted steps) all.once may);
}

-- ---- clients whose steps close

closes_push : (clients : List (List Step)) (steps : List Step) → closes (clients ++ steps ∷ []) ≡ closes clients + count_by is_close steps
closes_push [] steps = grind (arith, common_steps, count_append steps [])
closes_push (first ∷ clients) steps = grind (arith, common_steps, closes_push clients steps, count_append first (flat_map (λ s. s) (clients ++ steps ∷ [])), count_append first (flat_map (λ s. s) clients))

none_closes : (clients : List (List Step)) → do_close clients ≡ false → closes clients ≡ 0
none_closes [] none = refl
none_closes (first ∷ clients) none = grind (arith, common_steps, none_closes clients, none_counted first, count_append first (flat_map (λ s. s) clients))

once_by : (closed : Bool) (before here : ℕ) → (closed ≡ false → before ≡ 0) → before ≤ 1 → one_if_so closed + here ≤ 1 → before + here ≤ 1
once_by closed before here none once more = grind (arith, common_steps)

pub clients_push : (nodes : List ScriptNode) (queues : List QueueSpec) (clients : List (List Step)) (steps : List Step)
    → AreClients nodes queues clients → length steps ≤ 4096 → AreSteps nodes queues (do_close clients) steps → AreClients nodes queues (clients ++ steps ∷ [])
clients_push nodes queues clients steps all few more = record {
  valid = grind (arith, common_steps, list_all-append, all.valid, more.valid);
  once = rw (closes_push clients steps) (once_by (do_close clients) (closes clients) (count_by is_close steps) (none_closes clients) all.once more.once);
}
