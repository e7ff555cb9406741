-- How high the counters of a world can stand: at most one above the tasks and the batches that led to it. And a kept
-- book holds no more tasks than its script has steps.
use Rattle.std.specs.Prelude.{◌≡◌, ℕ, ◌+◌, ◌≤◌, Bool, true, false, not, ◌&&◌, List, [], ◌∷◌, ◌++◌, length, map, fold, filter_map, Option, Some, None, is_some, refl, if◌then◌else◌}
use Rattle.std.proofs.Common.{sym, subst, arith}
use Rattle.std.specs.List.{AllByRecursion, cons_option, zip}
use Rattle.std.proofs.lemmas.List.{length-append, length-map}
use Rattle.plain_data.specs.Pairs.{lookup}
use Rattle.meta_state.specs.declared.cluster_state.ClusterState.{ClusterState}
use Rattle.meta_state.specs.declared.versions.Next.TheVariants.{Same, Changed}
use Rattle.meta_state.specs.Exact.{state_eq, metadata_eq}
use Rattle.meta_state.specs.States.{zero_state}
use Rattle.meta_state.specs.Versions.{content_of, contents_of, metadata_version, stamped}
use Rattle.executors.specs.declared.contexts.Mark.{Mark}
use Rattle.executors.specs.declared.executions.Executed.{Executed}
use Rattle.executors.specs.declared.executions.Executed.TheVariants.{Made, Failed}
use Rattle.scripts.specs.declared.whole_script.Script.{Script}
use Rattle.scripts.specs.declared.whole_script.ScriptNode.{ScriptNode}
use Rattle.executors.specs.Contexts.{numbered}
use Rattle.executors.specs.Executions.{executed}
use Rattle.executors.specs.Kinds.{needs_master}
use Rattle.executors.proofs.Counts.{IsCountedState, state_later, IsCountedResult, executed_counted}
use Rattle.session_law.specs.declared.batches.Batch.{Batch}
use Rattle.session_law.specs.declared.worlds.NodeWorld.{NodeWorld}
use Rattle.session_law.specs.declared.worlds.Reach.{Reach}
use Rattle.session_law.specs.declared.worlds.Stepped.{Stepped}
use Rattle.session_law.specs.declared.worlds.World.{World}
use Rattle.session_law.specs.Histories.{Queued, after, input_of, queued_in, queued_of, task_at, tasks_at, world_after}
use Rattle.session_law.specs.Publications.{does_accept, does_commit, reach_of, sent_more, sent_on}
use Rattle.session_law.specs.BatchSteps.{BatchInput, batch_step, commit_step, drop_step, executed_step, next_step}
use Rattle.session_law.specs.Worlds.{first_world, first_node, first_state_of}

-- ---- a world after n tasks and p batches

pub record IsCounted (n p : ℕ) (world : World) : Type 0 where
  pub id : world.state.id ≤ p + 1
  pub version : world.state.version ≤ p + 1
  pub metadata_version : world.state.metadata.version ≤ p + 1
  pub state : IsCountedState n world.state
  pub proposals : world.proposals ≤ p
  pub sent : AllByRecursion (λ node. node.sent ≤ p) world.nodes

sent_later : (p q : ℕ) (nodes : List NodeWorld) → p ≤ q → AllByRecursion (λ node. node.sent ≤ p) nodes → AllByRecursion (λ node. node.sent ≤ q) nodes
sent_later p q [] h c = tt
sent_later p q (node ∷ nodes) h c = ((let x = c.0 in omega arith), sent_later p q nodes h c.1)

later : (n m p q : ℕ) (world : World) → n ≤ m → p ≤ q → IsCounted n p world → IsCounted m q world
later n m p q world h k c = record {
  id = let x = c.id in omega arith;
  version = let x = c.version in omega arith;
  metadata_version = let x = c.metadata_version in omega arith;
  state = state_later n m world.state h c.state;
  proposals = let x = c.proposals in omega arith;
  sent = sent_later p q world.nodes k c.sent;
}

-- a node is sent one publication more, or none
one_sent : (inside accepts : Bool) (new : ClusterState) (has : NodeWorld) (p : ℕ) → has.sent ≤ p → (if inside then sent_more new has accepts else has).sent ≤ p + 1
one_sent false accepts new has p h = omega arith
one_sent true true new has p h = omega arith
one_sent true false new has p h = omega arith

reach_sent : (cut : List ℕ → ℕ → Bool) (new : ClusterState) (p : ℕ) (nodes : List ScriptNode) (have : List NodeWorld) → AllByRecursion (λ node. node.sent ≤ p) have
    → AllByRecursion (λ node. node.sent ≤ p + 1) (map (sent_on cut new) (zip nodes have))
reach_sent cut new p [] have h = tt
reach_sent cut new p (node ∷ nodes) [] h = tt
reach_sent cut new p (node ∷ nodes) (has ∷ more) h =
    (one_sent (is_some (lookup node.name new.nodes)) (does_accept cut new (node, has)) new has p h.0, reach_sent cut new p nodes more h.1)

metadata_rises : (b : Bool) (v : ℕ) → (if b then v else v + 1) ≤ v + 1
metadata_rises true v = omega arith
metadata_rises false v = omega arith

publish_counted : (commits : Bool) (n m p : ℕ) (input : BatchInput) (world : World) (made : ClusterState) (marks : List Mark) (reach : Reach)
    → IsCounted n p world → IsCountedState m made → n ≤ m → AllByRecursion (λ node. node.sent ≤ p + 1) reach.nodes
    → let new = stamped made (world.proposals + 2) (world.state.version + 1) (metadata_version world.state.metadata made.metadata) in
    IsCounted m (p + 1) (if commits then commit_step input world new marks reach else drop_step input world new reach).1
publish_counted true n m p input world made marks reach c s h r = record {
  id = let x = c.proposals in omega arith;
  version = let x = c.version in omega arith;
  metadata_version = let x = c.metadata_version in let y = metadata_rises (metadata_eq (contents_of world.state.metadata) (contents_of made.metadata)) world.state.metadata.version in omega arith;
  state = record { term = s.term; created = s.created; indices = s.indices };
  proposals = let x = c.proposals in omega arith;
  sent = r;
}
publish_counted false n m p input world made marks reach c s h r = record {
  id = let x = c.id in omega arith;
  version = let x = c.version in omega arith;
  metadata_version = let x = c.metadata_version in omega arith;
  state = state_later n m world.state h c.state;
  proposals = let x = c.proposals in omega arith;
  sent = r;
}

next_counted : (same : Bool) (n m p : ℕ) (input : BatchInput) (world : World) (made : ClusterState) (marks : List Mark)
    → IsCounted n p world → IsCountedState m made → n ≤ m
    → IsCounted m (p + 1) (next_step input world marks
    (if same then Same else Changed (stamped made (world.proposals + 2) (world.state.version + 1) (metadata_version world.state.metadata made.metadata)))).1
unfolding reach_of
next_counted true n m p input world made marks c s h = later n m p (p + 1) world h (omega arith) c
next_counted false n m p input world made marks c s h =
    let new = stamped made (world.proposals + 2) (world.state.version + 1) (metadata_version world.state.metadata made.metadata) in
    let reach = reach_of input.cut world.state new input.nodes world.nodes in
    publish_counted (does_commit new reach) n m p input world made marks reach c s h (reach_sent input.cut new p input.nodes world.nodes c.sent)

office_counted : (refused : Bool) (n m p : ℕ) (world : World) (none some : Stepped × World) → none.1 ≡ world → IsCounted n p world → n ≤ m → IsCounted m (p + 1) some.1
    → IsCounted m (p + 1) (if refused then none else some).1
office_counted true n m p world none some e c h s = subst (IsCounted m (p + 1)) (sym e) (later n m p (p + 1) world h (omega arith) c)
office_counted false n m p world none some e c h s = s

executed_step_counted : (n m p : ℕ) (input : BatchInput) (world : World) (made : Executed)
    → IsCounted n p world → n ≤ m → IsCountedResult m made → IsCounted m (p + 1) (executed_step input world made).1
executed_step_counted n m p input world (Failed position refusal) c h s = later n m p (p + 1) world h (omega arith) c
executed_step_counted n m p input world (Made state marks) c h s =
    next_counted (state_eq (content_of world.state) (content_of state)) n m p input world state marks c s h

pub step_counted : (n p : ℕ) (input : BatchInput) (world : World) → IsCounted n p world → IsCounted (n + length input.tasks) (p + 1) (batch_step input world).1
unfolding batch_step
step_counted n p input world c =
    let m = n + length input.tasks in
    office_counted (needs_master input.kind && not world.in_office) n m p world _ _ refl c (omega arith)
    (executed_step_counted n m p input world (executed input.kind world.state (numbered 0 input.tasks)) c (omega arith)
    (executed_counted n input.kind world.state input.tasks c.state))

-- ---- a history

option_shorter : {Y : Type 0} (o : Option Y) (ys : List Y) → length (cons_option o ys) ≤ length ys + 1
option_shorter None ys = omega arith
option_shorter (Some y) ys = omega arith

pub filter_map_shorter : {X Y : Type 0} (h : X → Option Y) (xs : List X) → length (filter_map h xs) ≤ length xs
filter_map_shorter h [] = omega arith
filter_map_shorter h (x ∷ xs) = let one = option_shorter (h x) (filter_map h xs) in let rest = filter_map_shorter h xs in omega arith

-- a batch counts for its entries
batch_counted : (script : Script) (n p : ℕ) (world : World) (batch : Batch) → IsCounted n p world
    → IsCounted (n + length batch.entries) (p + 1) (after script world batch)
batch_counted script n p world batch c =
    let tasks = tasks_at script batch.entries in
    let shorter = filter_map_shorter (task_at script) batch.entries in
    later (n + length tasks) (n + length batch.entries) (p + 1) (p + 1) (after script world batch) (omega arith) (omega arith)
    (step_counted n p (input_of script batch) world c)

pub placed_count : (batch : Batch) (more : List Queued) → length (queued_in batch ++ more) ≡ length batch.entries + length more
placed_count batch more = simp (length-append, length-map) refl

history_counted : (script : Script) (batches : List Batch) (n p : ℕ) (world : World) → IsCounted n p world
    → IsCounted (n + length (queued_of batches)) (p + length batches) (fold (after script) world batches)
history_counted script [] n p world c = later n (n + 0) p (p + 0) world (omega arith) (omega arith) c
history_counted script (batch ∷ batches) n p world c =
    let count = placed_count batch (queued_of batches) in
    later (n + length batch.entries + length (queued_of batches)) (n + length (queued_of (batch ∷ batches))) (p + 1 + length batches) (p + length (batch ∷ batches))
    (fold (after script) (after script world batch) batches) (omega arith) (omega arith)
    (history_counted script batches (n + length batch.entries) (p + 1) (after script world batch) (batch_counted script n p world batch c))

first_sent : (first zero : ClusterState) (nodes : List ScriptNode) → AllByRecursion (λ node. node.sent ≤ 0) (map (first_node first zero) nodes)
first_sent first zero [] = tt
first_sent first zero (node ∷ nodes) = (omega arith, first_sent first zero nodes)

-- the world after batches, by how many tasks and batches they are
pub world_counted : (script : Script) (batches : List Batch) → IsCounted (length (queued_of batches)) (length batches) (world_after script batches)
unfolding first_world
world_counted script batches =
    let first : IsCounted 0 0 (first_world script) = record {
      id = omega arith;
      version = omega arith;
      metadata_version = omega arith;
      state = record { term = omega arith; created = omega arith; indices = tt };
      proposals = omega arith;
      sent = first_sent (first_state_of script) (zero_state script.cluster) script.nodes;
    } in
    later (0 + length (queued_of batches)) (length (queued_of batches)) (0 + length batches) (length batches) (world_after script batches) (omega arith) (omega arith)
    (history_counted script batches 0 0 (first_world script) first)
