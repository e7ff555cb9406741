-- What a book keeps of its world whatever its links do, at the first world and after each batch.
use Rattle.std.specs.Prelude.{◌≡◌, ℕ, ◌+◌, Bool, true, false, List, [], ◌∷◌, ◌++◌, length, map, is_some, refl, if◌then◌else◌}
use Rattle.std.proofs.Common.{sym, ◌∙◌, ap, subst, arith}
use Rattle.std.specs.List.{AllByRecursion, zip}
use Rattle.std.proofs.lemmas.List.{length-append, length-map}
use Rattle.plain_data.specs.Pairs.{lookup}
use Rattle.meta_state.specs.declared.cluster_state.ClusterState.{ClusterState}
use Rattle.scripts.specs.declared.whole_script.Script.{Script}
use Rattle.scripts.specs.declared.whole_script.ScriptNode.{ScriptNode}
use Rattle.session_law.specs.declared.batches.Batch.{Batch}
use Rattle.session_law.specs.declared.batches.Entry.{Entry}
use Rattle.session_law.specs.declared.worlds.NodeWorld.{NodeWorld}
use Rattle.session_law.specs.declared.worlds.Stepped.{Stepped}
use Rattle.session_law.specs.declared.worlds.World.{World}
use Rattle.session_law.specs.BatchSteps.{BatchInput, batch_step, commit_step, drop_step}
use Rattle.session_law.specs.Histories.{queued_in, queued_of}
use Rattle.session_law.specs.Publications.{does_accept, does_commit, reach_of, sent_more, sent_on}
use Rattle.session_law.specs.Worlds.{first_node, first_state_of, first_world}
use Rattle.meta_state.specs.States.{zero_state}
use Rattle.session_law.proofs.Counts.{IsCounted, step_counted, world_counted}
use Rattle.master_run.specs.declared.plans.Plan.{Plan}
use Rattle.master_run.specs.declared.plans.Plan.TheVariants.{Settled, Proposed}
use Rattle.master_run.specs.declared.plans.Proposal.{Proposal}
use Rattle.master_run.specs.Ledgers.{AreProposed, IsKnownTo, IsLedger}
use Rattle.master_run.specs.Plans.{concluded, plan_of}
use Rattle.master_run.proofs.Keeping.{placed_push}
use Rattle.master_run.proofs.Planning.{IsFresh, ProposesFresh, plan_fresh, reach_cut, step_is}

-- ---- at first

first_known : (member : Bool) (script : Script) (world : World) → world.state ≡ first_state_of script → world.proposals ≡ 0
    → IsKnownTo world (record { accepted = if member then first_state_of script else zero_state script.cluster; sent = 0 })
first_known true script world e none = record { proposed = omega arith; same = λ h. sym e }
first_known false script world e none = record { proposed = omega arith; same = λ h. absurd (let id = ap (λ (s : ClusterState). s.id) e in omega arith) }

all_known_first : (script : Script) (world : World) (nodes : List ScriptNode) → world.state ≡ first_state_of script → world.proposals ≡ 0
    → AllByRecursion (IsKnownTo world) (map (first_node (first_state_of script) (zero_state script.cluster)) nodes)
all_known_first script world [] e none = tt
all_known_first script world (node ∷ nodes) e none = (first_known node.member script world e none, all_known_first script world nodes e none)

pub ledger_first : (script : Script) → IsLedger [] (first_world script)
unfolding first_world
ledger_first script = record {
  counted = world_counted script [];
  proposed = record { state = omega arith; nodes = all_known_first script (first_world script) script.nodes refl refl };
}

-- ---- after a publication

-- a node that didn't accept is known as it was, and one that accepted is known by the new state
record AreKnownAfter (world after : World) (new : ClusterState) : Type 0 where
  kept : (has : NodeWorld) (sent : ℕ) → IsKnownTo world has → IsKnownTo after (record { accepted = has.accepted; sent = sent })
  made : (sent : ℕ) → IsKnownTo after (record { accepted = new; sent = sent })

one_known : (inside accepts : Bool) (world after : World) (new : ClusterState) (has : NodeWorld) → AreKnownAfter world after new → IsKnownTo world has
    → IsKnownTo after (if inside then sent_more new has accepts else has)
one_known true true world after new has are known = are.made (has.sent + 1)
one_known true false world after new has are known = are.kept has (has.sent + 1) known
one_known false accepts world after new has are known = are.kept has has.sent known

all_known : (cut : List ℕ → ℕ → Bool) (world after : World) (new : ClusterState) (nodes : List ScriptNode) (have : List NodeWorld) → AreKnownAfter world after new
    → AllByRecursion (IsKnownTo world) have → AllByRecursion (IsKnownTo after) (map (sent_on cut new) (zip nodes have))
all_known cut world after new [] have are known = tt
all_known cut world after new (node ∷ nodes) [] are known = tt
all_known cut world after new (node ∷ nodes) (has ∷ have) are known =
    (one_known (is_some (lookup node.name new.nodes)) (does_accept cut new (node, has)) world after new has are known.0, all_known cut world after new nodes have are known.1)

published_proposed : (commits : Bool) (input : BatchInput) (world : World) (proposal : Proposal) → AreProposed world → IsFresh world proposal
    → AreProposed (if commits then commit_step input world proposal.new proposal.marks (reach_cut input world proposal) else drop_step input world proposal.new (reach_cut input world proposal)).1
unfolding reach_of
published_proposed true input world proposal are fresh =
    let after = (commit_step input world proposal.new proposal.marks (reach_cut input world proposal)).1 in
    let id = fresh.id in
    record {
      state = omega arith;
      nodes = all_known input.cut world after proposal.new input.nodes world.nodes
          (record {
            kept = λ has sent known. record { proposed = let p = known.proposed in omega arith; same = λ e. absurd (let p = known.proposed in omega arith) };
            made = λ sent. record { proposed = omega arith; same = λ e. refl };
          })
          are.nodes;
    }
published_proposed false input world proposal are fresh =
    let after = (drop_step input world proposal.new (reach_cut input world proposal)).1 in
    let id = fresh.id in
    let state = are.state in
    record {
      state = omega arith;
      nodes = all_known input.cut world after proposal.new input.nodes world.nodes
          (record {
            kept = λ has sent known. record { proposed = let p = known.proposed in omega arith; same = known.same };
            made = λ sent. record { proposed = omega arith; same = λ e. absurd (omega arith) };
          })
          are.nodes;
    }

concluded_proposed : (input : BatchInput) (world : World) (plan : Plan) → AreProposed world → ProposesFresh world plan → AreProposed (concluded (reach_cut input world) input world plan).1
concluded_proposed input world (Settled stepped) are fresh = are
concluded_proposed input world (Proposed proposal) are fresh =
    published_proposed (does_commit proposal.new (reach_cut input world proposal)) input world proposal are fresh

step_proposed : (input : BatchInput) (world : World) → AreProposed world → AreProposed (batch_step input world).1
step_proposed input world are =
    subst (λ (s : Stepped × World). AreProposed s.1) (sym (step_is input world))
    (concluded_proposed input world (plan_of input.kind input.tasks world) are (plan_fresh input.kind input.tasks world))

-- ---- after a batch

entries_push : (batches : List Batch) (batch : Batch) → length (queued_of (batches ++ batch ∷ [])) ≡ length (queued_of batches) + length batch.entries
entries_push batches batch =
    ap length (placed_push batches batch) ∙ length-append (queued_of batches) (queued_in batch)
    ∙ ap (λ n. length (queued_of batches) + n) (length-map batch.entries (λ (e : Entry). record { queue = batch.queue; entry = e }))

pub ledger_next : (batches : List Batch) (batch : Batch) (input : BatchInput) (world : World) → length input.tasks ≡ length batch.entries → IsLedger batches world
    → IsLedger (batches ++ batch ∷ []) (batch_step input world).1
ledger_next batches batch input world each ledger =
    let after = (batch_step input world).1 in
    let counted = step_counted (length (queued_of batches)) (length batches) input world ledger.counted in
    let entries : length (queued_of batches) + length input.tasks ≡ length (queued_of (batches ++ batch ∷ [])) =
    ap (λ n. length (queued_of batches) + n) each ∙ sym (entries_push batches batch) in
    record {
      counted = subst (λ (n : ℕ). IsCounted n (length (batches ++ batch ∷ [])) after) entries
          (subst (λ (p : ℕ). IsCounted (length (queued_of batches) + length input.tasks) p after) (sym (length-append batches (batch ∷ []))) counted);
      proposed = step_proposed input world ledger.proposed;
    }
