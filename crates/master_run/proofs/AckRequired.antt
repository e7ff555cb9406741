-- The nodes that an acknowledgement waits for, as the code keeps them: the mask of a list of nodes has those that are
-- required, and where a batch published a state there is one.
use Rattle.std.specs.Prelude.{◌≡◌, ◌≢◌, ℕ, zero, suc, ◌+◌, ◌<◌, ◌≤◌, Bool, true, false, not, cond, ◌&&◌, ◌||◌, List, [], ◌∷◌, filter, get_or, set, length, Option, Some, None, slice_get, is_some, bytes_eq, IsFalse, refl, if◌then◌else◌}
use Rattle.std.proofs.Common.{sym, ◌∙◌, ap, subst, arith}
use Rattle.std.proofs.Math.Bool.{true≢false}
use Rattle.std.proofs.lemmas.List.{get_or-set_same, get_or-set_other, length-set}
use Rattle.std.specs.List.{list_any, zip}
use Rattle.plain_data.specs.Pairs.{lookup}
use Rattle.ack_words.specs.Masks.{has_node, is_without_nodes, no_nodes, with_node}
use Rattle.ack_words.proofs.Masks.{has_node-no_nodes, has_node-without_nodes, length-no_nodes}
use Rattle.meta_state.specs.declared.cluster_state.ClusterState.{ClusterState}
use Rattle.meta_state.specs.declared.versions.Next.{Next}
use Rattle.meta_state.specs.declared.versions.Next.TheVariants.{Same, Changed}
use Rattle.meta_state.specs.Versions.{next_of}
use Rattle.meta_state.specs.Voters.{is_majority}
use Rattle.executors.specs.declared.contexts.Mark.{Mark}
use Rattle.executors.specs.declared.executions.Executed.{Executed}
use Rattle.executors.specs.declared.executions.Executed.TheVariants.{Made, Failed}
use Rattle.executors.specs.Contexts.{numbered}
use Rattle.executors.specs.Executions.{executed}
use Rattle.executors.specs.Kinds.{needs_master}
use Rattle.scripts.specs.declared.whole_script.ScriptNode.{ScriptNode}
use Rattle.scripts.specs.declared.steps.Ack.{Ack}
use Rattle.session_law.specs.declared.worlds.NodeWorld.{NodeWorld}
use Rattle.session_law.specs.declared.worlds.Reach.{Reach}
use Rattle.session_law.specs.declared.worlds.Stepped.{Stepped}
use Rattle.session_law.specs.declared.worlds.World.{World}
use Rattle.session_law.specs.Acknowledgements.{is_asked}
use Rattle.session_law.specs.BatchSteps.{BatchInput, batch_step, commit_step, drop_step, executed_step, next_step, refused_step}
use Rattle.session_law.specs.Committed.{is_published}
use Rattle.session_law.specs.Histories.{commit_of}
use Rattle.session_law.specs.Publications.{does_accept, does_commit, reach_of}
use Rattle.master_run.specs.AckBooks.{required_from, required_mask}
use Rattle.master_run.specs.AckCourses.{is_required}
use Rattle.master_run.proofs.Alls.{either}
use Rattle.master_run.proofs.Keeping.{both_first, both_second, false_from, or_left, or_right}

-- ---- the mask, node by node

-- whether the node of a number is required, if there is one
abbrev pub required_at : Ack → ClusterState → Option ScriptNode → Bool
required_at asked state None = false
required_at asked state (Some node) = is_required asked state node.name

-- the mask with one node more, or not
abbrev mask_by : Bool → ℕ → List Bool → List Bool
mask_by b number mask = if b then with_node number mask else mask

mask_length : (b : Bool) (number : ℕ) (mask : List Bool) → length (mask_by b number mask) ≡ length mask
mask_length true number mask = length-set mask number true
mask_length false number mask = refl

mask_other : (b : Bool) (number other : ℕ) (mask : List Bool) → other ≢ number → has_node other (mask_by b number mask) ≡ has_node other mask
mask_other true number other mask apart = get_or-set_other mask number other true false apart
mask_other false number other mask apart = refl

mask_same : (b : Bool) (number : ℕ) (mask : List Bool) → number < length mask → has_node number mask ≡ false → has_node number (mask_by b number mask) ≡ b
mask_same true number mask within e = get_or-set_same mask number true false within
mask_same false number mask within e = e

apart_from : (a b : ℕ) → a < b → a ≢ b
apart_from a b less e = absurd (omega (arith, less, e))

-- those before stay
mask_before : (first other : ℕ) (asked : Ack) (state : ClusterState) (nodes : List ScriptNode) (mask : List Bool) → other < first
    → has_node other (required_from first asked state nodes mask) ≡ has_node other mask
mask_before first other asked state [] mask less = refl
mask_before first other asked state (node ∷ more) mask less =
    let b = is_required asked state node.name in
    mask_before (first + 1) other asked state more (mask_by b first mask) (omega (arith, less)) ∙ mask_other b first other mask (apart_from other first less)

mask_from : (first number : ℕ) (asked : Ack) (state : ClusterState) (nodes : List ScriptNode) (mask : List Bool) → first + length nodes ≤ length mask
    → ((n : ℕ) → has_node (first + n) mask ≡ false) → has_node (first + number) (required_from first asked state nodes mask) ≡ required_at asked state (slice_get nodes number)
mask_from first number asked state [] mask room none = none number
mask_from first zero asked state (node ∷ more) mask room none =
    let b = is_required asked state node.name in
    let here : first + 0 ≡ first = omega arith in
    ap (λ (n : ℕ). has_node n (required_from (first + 1) asked state more (mask_by b first mask))) here
    ∙ mask_before (first + 1) first asked state more (mask_by b first mask) (omega arith)
    ∙ mask_same b first mask (omega (arith, room)) (ap (λ (n : ℕ). has_node n mask) (sym here) ∙ none 0)
mask_from first (suc number) asked state (node ∷ more) mask room none =
    let b = is_required asked state node.name in
    let next : first + suc number ≡ first + 1 + number = omega arith in
    let long = mask_length b first mask in
    ap (λ (n : ℕ). has_node n (required_from (first + 1) asked state more (mask_by b first mask))) next
    ∙ mask_from (first + 1) number asked state more (mask_by b first mask) (omega (arith, room, long))
    (λ n.
    let step : first + 1 + n ≡ first + suc n = omega arith in
    mask_other b first (first + 1 + n) mask (λ e. omega (arith, e)) ∙ ap (λ (m : ℕ). has_node m mask) step ∙ none (suc n))

pub mask_has : (asked : Ack) (state : ClusterState) (nodes : List ScriptNode) (number : ℕ) → length nodes ≤ 30
    → has_node number (required_mask asked state nodes) ≡ required_at asked state (slice_get nodes number)
mask_has asked state nodes number few =
    let long = length-no_nodes in
    let here : number ≡ 0 + number = omega arith in
    ap (λ (n : ℕ). has_node n (required_mask asked state nodes)) here
    ∙ mask_from 0 number asked state nodes no_nodes (omega (arith, few, long)) (λ n. has_node-no_nodes (0 + n))

-- ---- a state that was published has its master among the script's nodes

abbrev is_master_of : ClusterState → ScriptNode → Bool
is_master_of state node = is_some (lookup node.name state.nodes) && bytes_eq node.name state.master

abbrev HasMaster : List ScriptNode → Stepped × World → Type 0
HasMaster nodes step = is_published step.0.result ≡ true → list_any (is_master_of step.1.state) nodes ≡ true

or_map : (a b c : Bool) → (b ≡ true → c ≡ true) → (a || b) ≡ true → (a || c) ≡ true
or_map true b c f h = refl
or_map false b c f h = f h

abbrev is_named_so : ClusterState → ScriptNode × NodeWorld → Bool
is_named_so new p = bytes_eq p.0.name new.master

accept_by : (new : ClusterState) (node : ScriptNode) (has : NodeWorld) (rest : List (ScriptNode × NodeWorld)) (inside free more : Bool) → (list_any (is_named_so new) rest ≡ true → more ≡ true)
    → list_any (is_named_so new) (cond (inside && free) ((node, has) ∷ rest) rest) ≡ true → ((inside && bytes_eq node.name new.master) || more) ≡ true
accept_by new node has rest true true more f h = or_map (bytes_eq node.name new.master) (list_any (is_named_so new) rest) more f h
accept_by new node has rest true false more f h = or_right (bytes_eq node.name new.master) more (f h)
accept_by new node has rest false free more f h = f h

accepting_master : (cut : List ℕ → ℕ → Bool) (new : ClusterState) (nodes : List ScriptNode) (have : List NodeWorld)
    → list_any (is_named_so new) (filter (does_accept cut new) (zip nodes have)) ≡ true → list_any (is_master_of new) nodes ≡ true
accepting_master cut new [] have h = h
accepting_master cut new (node ∷ nodes) [] h = absurd (true≢false (sym h))
accepting_master cut new (node ∷ nodes) (has ∷ have) h =
    accept_by new node has (filter (does_accept cut new) (zip nodes have)) (is_some (lookup node.name new.nodes)) (not (cut node.name (has.sent + 1))) (list_any (is_master_of new) nodes)
    (accepting_master cut new nodes have) h

reach_master : (cut : List ℕ → ℕ → Bool) (prev new : ClusterState) (nodes : List ScriptNode) (have : List NodeWorld) → (reach_of cut prev new nodes have).master ≡ true
    → list_any (is_master_of new) nodes ≡ true
unfolding reach_of
reach_master cut prev new nodes have h = accepting_master cut new nodes have h

commit_master : (commits : Bool) (input : BatchInput) (world : World) (new : ClusterState) (marks : List Mark) (reach : Reach) → (commits ≡ true → list_any (is_master_of new) input.nodes ≡ true)
    → HasMaster input.nodes (if commits then commit_step input world new marks reach else drop_step input world new reach)
commit_master true input world new marks reach h e = h refl
commit_master false input world new marks reach h e = absurd (true≢false (sym e))

next_master : (input : BatchInput) (world : World) (marks : List Mark) (next : Next) → HasMaster input.nodes (next_step input world marks next)
next_master input world marks Same e = absurd (true≢false (sym e))
next_master input world marks (Changed new) e =
    let reach = reach_of input.cut world.state new input.nodes world.nodes in
    commit_master (does_commit new reach) input world new marks reach
    (λ h. reach_master input.cut world.state new input.nodes world.nodes (both_first reach.master (is_majority new.nodes reach.votes) h)) e

executed_master : (input : BatchInput) (world : World) (made : Executed) → HasMaster input.nodes (executed_step input world made)
executed_master input world (Failed position refusal) e = absurd (true≢false (sym e))
executed_master input world (Made state marks) e = next_master input world marks (next_of world.state state (world.proposals + 2)) e

pub step_master : (input : BatchInput) (world : World) → is_published (batch_step input world).0.result ≡ true
    → list_any (λ (node : ScriptNode). is_some (lookup node.name (batch_step input world).1.state.nodes) && bytes_eq node.name (batch_step input world).1.state.master) input.nodes ≡ true
unfolding batch_step
step_master input world =
    let made = executed input.kind world.state (numbered 0 input.tasks) in
    either (HasMaster input.nodes) (needs_master input.kind && not world.in_office) (refused_step input world) (executed_step input world made)
    (λ e. absurd (true≢false (sym e))) (executed_master input world made)

-- ---- so one is required

-- a node that passes a test, by its number
record IsSomeNode (p : ScriptNode → Bool) (nodes : List ScriptNode) : Type 0 where
  number : ℕ
  node : ScriptNode
  at : slice_get nodes number ≡ Some node
  passes : p node ≡ true

some_node_by : (p : ScriptNode → Bool) (node : ScriptNode) (nodes : List ScriptNode) (b : Bool) → p node ≡ b → (list_any p nodes ≡ true → IsSomeNode p nodes) → (b || list_any p nodes) ≡ true
    → IsSomeNode p (node ∷ nodes)
some_node_by p node nodes true e rest h = record { number = 0; node = node; at = refl; passes = e }
some_node_by p node nodes false e rest h = let later = rest h in record { number = suc later.number; node = later.node; at = later.at; passes = later.passes }

some_node : (p : ScriptNode → Bool) (nodes : List ScriptNode) → list_any p nodes ≡ true → IsSomeNode p nodes
some_node p [] h = absurd (true≢false (sym h))
some_node p (node ∷ nodes) h = some_node_by p node nodes (p node) refl (some_node p nodes) h

required_master : (asked : Ack) (state : ClusterState) (node : ScriptNode) (a b c : Bool) → (a && b) ≡ true → (a && (b || c)) ≡ true
required_master asked state node true b c h = or_left b c h
required_master asked state node false b c h = absurd (true≢false (sym h))

some_required : (asked : Ack) (state : ClusterState) (nodes : List ScriptNode) → length nodes ≤ 30 → IsSomeNode (is_master_of state) nodes → is_without_nodes (required_mask asked state nodes) ≡ true → ⊥
some_required asked state nodes few some none =
    let has = mask_has asked state nodes some.number few ∙ ap (required_at asked state) some.at in
    let is = required_master asked state some.node (is_some (lookup some.node.name state.nodes)) (bytes_eq some.node.name state.master) (is_asked asked.nodes some.node.name) some.passes in
    true≢false (sym is ∙ sym has ∙ has_node-without_nodes (required_mask asked state nodes) some.number none)

-- where a batch published a state, some node is required
pub mask_some : (asked : Ack) (input : BatchInput) (world : World) → length input.nodes ≤ 30 → is_published (batch_step input world).0.result ≡ true
    → is_without_nodes (required_mask asked (batch_step input world).1.state input.nodes) ≡ false
mask_some asked input world few e =
    let state = (batch_step input world).1.state in
    false_from (is_without_nodes (required_mask asked state input.nodes)) (some_required asked state input.nodes few (some_node (is_master_of state) input.nodes (step_master input world e)))

-- ---- a batch that published a state did so at the reading of its input

abbrev HasReading : ℕ → Stepped × World → Type 0
HasReading at step = is_published step.0.result ≡ true → commit_of step.0.result ≡ at

next_reading : (input : BatchInput) (world : World) (marks : List Mark) (next : Next) → HasReading input.commit (next_step input world marks next)
next_reading input world marks Same e = absurd (true≢false (sym e))
next_reading input world marks (Changed new) e =
    let reach = reach_of input.cut world.state new input.nodes world.nodes in
    either (HasReading input.commit) (does_commit new reach) (commit_step input world new marks reach) (drop_step input world new reach) (λ f. refl) (λ f. absurd (true≢false (sym f))) e

executed_reading : (input : BatchInput) (world : World) (made : Executed) → HasReading input.commit (executed_step input world made)
executed_reading input world (Failed position refusal) e = absurd (true≢false (sym e))
executed_reading input world (Made state marks) e = next_reading input world marks (next_of world.state state (world.proposals + 2)) e

pub step_reading : (input : BatchInput) (world : World) → is_published (batch_step input world).0.result ≡ true → commit_of (batch_step input world).0.result ≡ input.commit
unfolding batch_step
step_reading input world =
    let made = executed input.kind world.state (numbered 0 input.tasks) in
    either (HasReading input.commit) (needs_master input.kind && not world.in_office) (refused_step input world) (executed_step input world made)
    (λ e. absurd (true≢false (sym e))) (executed_reading input world made)
