-- The states of a valid script's history: each is of the script's cluster and master, all its names are names, and its
-- maps stand in byte order.
use Rattle.std.specs.Prelude.{◌≡◌, ℕ, ◌+◌, Bool, true, false, not, ◌&&◌, List, [], ◌∷◌, fold, refl, IsTrue, if◌then◌else◌}
use Rattle.std.proofs.Common.{sym}
use Rattle.std.specs.List.{AllByRecursion, list_all}
use Rattle.std.proofs.lemmas.Bool.{and_parts, true≢false}
use Rattle.meta_state.specs.declared.cluster_state.ClusterState.{ClusterState}
use Rattle.meta_state.specs.declared.node_info.NodeInfo.{NodeInfo}
use Rattle.meta_state.specs.declared.versions.Next.TheVariants.{Same, Changed}
use Rattle.meta_state.specs.Exact.{state_eq}
use Rattle.meta_state.specs.States.{first_name, with_nodes, zero_state}
use Rattle.meta_state.specs.Versions.{content_of, metadata_version, stamped}
use Rattle.executors.specs.declared.contexts.Mark.{Mark}
use Rattle.executors.specs.declared.executions.Executed.{Executed}
use Rattle.executors.specs.declared.executions.Executed.TheVariants.{Made, Failed}
use Rattle.executors.specs.Contexts.{numbered}
use Rattle.executors.specs.Executions.{executed}
use Rattle.executors.specs.Kinds.{needs_master}
use Rattle.scripts.specs.declared.whole_script.Script.{Script}
use Rattle.scripts.specs.declared.whole_script.ScriptNode.{ScriptNode}
use Rattle.scripts.specs.Names.{is_name}
use Rattle.scripts.specs.Scripts.{IsScript, has_master}
use Rattle.session_law.specs.declared.batches.Batch.{Batch}
use Rattle.session_law.specs.declared.worlds.Reach.{Reach}
use Rattle.session_law.specs.declared.worlds.Stepped.{Stepped}
use Rattle.session_law.specs.declared.worlds.World.{World}
use Rattle.session_law.specs.BatchSteps.{BatchInput, batch_step, commit_step, drop_step, executed_step, next_step}
use Rattle.session_law.specs.Histories.{after, history_on, history_of, input_of, world_after}
use Rattle.session_law.specs.Publications.{does_commit, reach_of}
use Rattle.session_law.specs.Worlds.{first_state_of, first_world, members_of, node_info_of}
use Rattle.report_law.proofs.NamedMaps.{IsGoodMap, good_empty, good_put}
use Rattle.report_law.proofs.NamedStates.{IsNamedIndex, IsNamedNode, IsNamedOf, IsNamedResult, IsNamedSetting, executed_named, is_named_task}
use Rattle.report_law.proofs.NamedTasks.{tasks_named}

-- ---- one batch

module _ (cluster master : List ℕ) where
  abbrev Named : World → Type 0
  Named world = IsNamedOf cluster master world.state

  stamped_named : (made : ClusterState) (id version metadata : ℕ) → IsNamedOf cluster master made → IsNamedOf cluster master (stamped made id version metadata)
  stamped_named made id version metadata h = record {
    of_cluster = h.of_cluster;
    of_master = h.of_master;
    maps = record { nodes = h.maps.nodes; indices = h.maps.indices; settings = h.maps.settings };
  }

  publish_named : (commits : Bool) (input : BatchInput) (world : World) (new : ClusterState) (marks : List Mark) (reach : Reach) → Named world → IsNamedOf cluster master new
      → Named (if commits then commit_step input world new marks reach else drop_step input world new reach).1
  publish_named true input world new marks reach h made = made
  publish_named false input world new marks reach h made = h

  next_named : (same : Bool) (input : BatchInput) (world : World) (made : ClusterState) (marks : List Mark) → Named world → IsNamedOf cluster master made
      → Named (next_step input world marks
      (if same then Same else Changed (stamped made (world.proposals + 2) (world.state.version + 1) (metadata_version world.state.metadata made.metadata)))).1
  next_named true input world made marks h new_named = h
  next_named false input world made marks h new_named =
      let new = stamped made (world.proposals + 2) (world.state.version + 1) (metadata_version world.state.metadata made.metadata) in
      let reach = reach_of input.cut world.state new input.nodes world.nodes in
      publish_named (does_commit new reach) input world new marks reach h (stamped_named made _ _ _ new_named)

  made_named : (input : BatchInput) (world : World) (made : Executed) → Named world → IsNamedResult cluster master made → Named (executed_step input world made).1
  made_named input world (Failed position refusal) h result = h
  made_named input world (Made state marks) h result = next_named (state_eq (content_of world.state) (content_of state)) input world state marks h result

  office_named : (refused : Bool) (none some : Stepped × World) → Named none.1 → Named some.1 → Named (if refused then none else some).1
  office_named true none some a b = a
  office_named false none some a b = b

  step_named : (input : BatchInput) (world : World) → AllByRecursion (λ t. IsTrue (is_named_task t)) input.tasks → Named world → Named (batch_step input world).1
  unfolding batch_step
  step_named input world all h =
      office_named (needs_master input.kind && not world.in_office) _ _ h
      (made_named input world (executed input.kind world.state (numbered 0 input.tasks)) h (executed_named cluster master input.kind world.state input.tasks all h))

  -- ---- a history

  module _ (script : Script) (valid : IsScript script) where
    batch_named : (world : World) (batch : Batch) → Named world → Named (after script world batch)
    batch_named world batch h = step_named (input_of script batch) world (tasks_named script valid batch.entries) h

    history_named : (world : World) (batches : List Batch) → Named world → AllByRecursion (λ s. IsNamedOf cluster master s.world.state) (history_on script world batches)
    history_named world [] h = tt
    history_named world (batch ∷ batches) h =
        let one = batch_named world batch h in
        (one, history_named (after script world batch) batches one)

    last_named : (world : World) (batches : List Batch) → Named world → Named (fold (after script) world batches)
    last_named world [] h = h
    last_named world (batch ∷ batches) h = last_named (after script world batch) batches (batch_named world batch h)

-- ---- the states in which nodes begin

pub zero_named : (cluster : List ℕ) → IsNamedOf cluster [] (zero_state cluster)
zero_named cluster = record {
  of_cluster = refl;
  of_master = refl;
  maps = record { nodes = good_empty IsNamedNode; indices = good_empty IsNamedIndex; settings = good_empty IsNamedSetting };
}

put_members : (nodes : List NodeInfo) (made : List (List ℕ × NodeInfo)) → AllByRecursion (λ n. IsTrue (is_name n.name)) nodes → IsGoodMap IsNamedNode made
    → IsGoodMap IsNamedNode (with_nodes nodes made)
put_members [] made all good = good
put_members (node ∷ nodes) made all good = put_members nodes _ all.1 (good_put IsNamedNode node.name node made (record { name = all.0; own = refl }) good)

member_or_not : (member : Bool) (info : NodeInfo) (infos : List NodeInfo) → IsTrue (is_name info.name) → AllByRecursion (λ n. IsTrue (is_name n.name)) infos
    → AllByRecursion (λ (n : NodeInfo). IsTrue (is_name n.name)) (if member then info ∷ infos else infos)
member_or_not true info infos one all = (one, all)
member_or_not false info infos one all = all

members_named : (nodes : List ScriptNode) → list_all (λ n. is_name n.name) nodes ≡ true → AllByRecursion (λ n. IsTrue (is_name n.name)) (members_of nodes)
members_named [] e = tt
members_named (node ∷ nodes) e = member_or_not node.member (node_info_of node) (members_of nodes) (and_parts _ _ e).0 (members_named nodes (and_parts _ _ e).1)

pub master_of : Script → List ℕ
master_of script = first_name (members_of script.nodes)

pub first_named : (script : Script) → IsScript script → IsNamedOf script.cluster (master_of script) (first_state_of script)
unfolding master_of
first_named script valid = record {
  of_cluster = refl;
  of_master = refl;
  maps = record {
    nodes = put_members (members_of script.nodes) [] (members_named script.nodes valid.nodes_named) (good_empty IsNamedNode);
    indices = good_empty IsNamedIndex;
    settings = good_empty IsNamedSetting;
  };
}

first_member : (member : Bool) (info : NodeInfo) (infos : List NodeInfo) → member ≡ true → IsTrue (is_name info.name) → IsTrue (is_name (first_name (if member then info ∷ infos else infos)))
first_member true info infos e named = named
first_member false info infos e named = absurd (true≢false (sym e))

master_by : (nodes : List ScriptNode) → has_master nodes ≡ true → list_all (λ n. is_name n.name) nodes ≡ true → IsTrue (is_name (first_name (members_of nodes)))
master_by [] e named = absurd (true≢false (sym e))
master_by (node ∷ nodes) e named = first_member node.member (node_info_of node) (members_of nodes) (and_parts node.eligible node.member e).1 (and_parts _ _ named).0

pub master_named : (script : Script) → IsScript script → IsTrue (is_name (master_of script))
unfolding master_of
master_named script valid = master_by script.nodes valid.master valid.nodes_named

-- ---- all states of a script's history

pub states_named : (script : Script) → IsScript script → (batches : List Batch)
    → AllByRecursion (λ s. IsNamedOf script.cluster (master_of script) s.world.state) (history_of script batches)
unfolding first_world
states_named script valid batches = history_named script.cluster (master_of script) script valid (first_world script) batches (first_named script valid)

pub end_named : (script : Script) → IsScript script → (batches : List Batch) → IsNamedOf script.cluster (master_of script) (world_after script batches).state
unfolding first_world
end_named script valid batches = last_named script.cluster (master_of script) script valid (first_world script) batches (first_named script valid)
