-- What is so of the predicates, acknowledgements and steps of a script as the definitions read them.
use Rattle.std.proofs.Common.{◌≡◌, ℕ, zero, suc, ◌+◌, ◌≤◌, true, List, [], ◌∷◌, ◌++◌, Some, None, Ok, length, refl, arith, ap, sym, ◌∙◌}
use Rattle.std.specs.Prelude.{Option, Result, IfOk, nat_le, map, codes, bytes_eq, slice_get}
use Rattle.std.specs.List.{list_all, list_any}
use Rattle.std.specs.Cmp.Derive.{both_true}
use Rattle.std.proofs.lemmas.Bool.{le-leb}
use Rattle.serde_json.specs.Data.{Data, Items}
use Rattle.serde_json.specs.Find.{as_str, as_array}
use Rattle.meta_state.specs.declared.predicates.Pred.{Pred, fold-roll-Pred}
use Rattle.meta_state.specs.declared.predicates.Pred.TheOpen.{Pred-F}
use Rattle.meta_state.specs.declared.predicates.Pred.TheVariants as pred
use Rattle.scripts.specs.ValidSteps.{are_asked, deepest, depth_of, depth_step, is_ack, is_goal, is_if_some, is_positive_time, is_pred, is_step, is_task_of, is_time}
use Rattle.script_form.specs.declared.limits.LimitName.TheVariants.{Depth, Then}
use Rattle.script_form.specs.declared.misfits.Misfit.{Misfit}
use Rattle.script_form.specs.declared.rules.Rule.TheVariants.{Reference, Twice, Value}
use Rattle.script_form.specs.Misfits.{◌>>=◌, bad, over, within, at_member}
use Rattle.executors.specs.Kinds.{form_of}
use Rattle.scripts.specs.declared.queues.QueueSpec.{QueueSpec}
use Rattle.scripts.specs.declared.steps.Goal.TheVariants as goal
use Rattle.scripts.specs.declared.steps.Step.{Step}
use Rattle.scripts.specs.declared.steps.Step.TheVariants as step
use Rattle.scripts.specs.declared.whole_script.ScriptNode.{ScriptNode}
use Rattle.script_form.specs.Parts.{check_members, each, items_list, list_of, object_of, optional, positive_of, required, short_list, text_of, time_of, whole_of, word_of}
use Rattle.script_form.specs.Nodes.{node_named}
use Rattle.script_form.specs.Queues.{kind_at, queue_named}
use Rattle.script_form.specs.Tasks.{task_of}
use Rattle.script_form.specs.Steps.{ack_of, asked_in, asked_of, await_of, close_of, earlier_of, fit_asked, goal_named, look_of, next_asked, next_watch_of, read_of, sleep_of, some_ack_of, some_time_of, step_as, step_of, submit_of, watch_of, watched_of}
use Rattle.script_form.specs.Predicates.{choice_of, pred_by, pred_of, preds_by, setting_pred_of, thens_of}
use Rattle.script_form.proofs.Depths.{are_preds_by_depth, deepest_push}
use Rattle.script_form.proofs.Names.{are_asked_push}
use Rattle.script_form.proofs.Submits.{is_submit_valid}
use Rattle.script_form.proofs.Readings.{Any, IsNamed, each_holds, if_any, if_both, if_either, if_optional, if_required, if_short, if_tested, if_then, if_untested, if_weaker, if_within, list_counts, named_required, named_valid, positive_valid, queue_named_valid, task_valid, then_any, time_valid}

-- ---- predicates

depth_of_index : (name : List ℕ) → depth_of (pred.Index name) ≡ 1
depth_of_index name = ap depth_of (sym (pred.rolls-Index name)) ∙ fold-roll-Pred ℕ depth_step (Pred-F.Index name)

depth_of_not : (inner : Pred) → depth_of (pred.Not inner) ≡ depth_of inner + 1
depth_of_not inner = ap depth_of (sym (pred.rolls-Not inner)) ∙ fold-roll-Pred ℕ depth_step (Pred-F.Not inner)

depth_of_all : (parts : List Pred) → depth_of (pred.All parts) ≡ deepest (map depth_of parts) + 1
depth_of_all parts = ap depth_of (sym (pred.rolls-All parts)) ∙ fold-roll-Pred ℕ depth_step (Pred-F.All parts)

depth_of_any : (parts : List Pred) → depth_of (pred.Any parts) ≡ deepest (map depth_of parts) + 1
depth_of_any parts = ap depth_of (sym (pred.rolls-Any parts)) ∙ fold-roll-Pred ℕ depth_step (Pred-F.Any parts)

setting_made : (key content : List ℕ) → IfOk {E = Misfit} (Ok (pred.Setting key content)) (λ p. depth_of p ≡ 1)
setting_made key content = ap depth_of (sym (pred.rolls-Setting key content)) ∙ fold-roll-Pred ℕ depth_step (Pred-F.Setting key content)

pub setting_valid : (d : Data) → IfOk (setting_pred_of d) (λ p. depth_of p ≡ 1)
unfolding setting_pred_of
setting_valid d =
    then_any _ (check_members (codes "key" ∷ codes "value" ∷ []) d) _ (λ _.
    then_any _ (required (codes "key") text_of d) _ (λ key.
    then_any _ (required (codes "value") text_of d) _ (λ content. setting_made key content)))

preds_deep : (most : ℕ) (deeper : Data → Result Pred Misfit) (ds : List Data) → ((d : Data) → IfOk (deeper d) (λ p. depth_of p ≤ most)) → IfOk (preds_by deeper [] ds) (λ ps. deepest (map depth_of ps) ≤ most)
preds_deep most deeper ds all =
    each_holds (λ ps. deepest (map depth_of ps) ≤ most) (λ earlier d. deeper d) (λ before d low. if_weaker (λ p. depth_of p ≤ most) _ (deeper d) (λ p one. deepest_push most before p low one) (all d)) [] ds (omega arith)

one_deep : (left : ℕ) (make : List ℕ → Pred) (d : Data) → ((name : List ℕ) → depth_of (make name) ≡ 1) → IfOk (text_of d >>= λ name. Ok (make name)) (λ p. depth_of p ≤ left + 1)
one_deep left make d one = if_then Any _ (text_of d) (λ name. Ok (make name)) (if_any (text_of d)) (λ name _. let e = one name in omega (arith, e))

depth_of_alias : (name : List ℕ) → depth_of (pred.Alias name) ≡ 1
depth_of_alias name = ap depth_of (sym (pred.rolls-Alias name)) ∙ fold-roll-Pred ℕ depth_step (Pred-F.Alias name)

depth_of_node : (name : List ℕ) → depth_of (pred.Node name) ≡ 1
depth_of_node name = ap depth_of (sym (pred.rolls-Node name)) ∙ fold-roll-Pred ℕ depth_step (Pred-F.Node name)

depth_of_version : (version : ℕ) → depth_of (pred.Version version) ≡ 1
depth_of_version version = ap depth_of (sym (pred.rolls-Version version)) ∙ fold-roll-Pred ℕ depth_step (Pred-F.Version version)

parts_deep : (left : ℕ) (deeper : Data → Result Pred Misfit) (make : List Pred → Pred) (d : Data) → ((d : Data) → IfOk (deeper d) (λ p. depth_of p ≤ left))
    → ((parts : List Pred) → depth_of (make parts) ≡ deepest (map depth_of parts) + 1)
    → IfOk (list_of d >>= preds_by deeper [] >>= (λ parts. Ok (make parts))) (λ p. depth_of p ≤ left + 1)
parts_deep left deeper make d all one =
    if_then (λ ps. deepest (map depth_of ps) ≤ left) _ (list_of d >>= preds_by deeper []) (λ parts. Ok (make parts))
    (if_then Any _ (list_of d) (preds_by deeper []) (if_any (list_of d)) (λ ds _. preds_deep left deeper ds all))
    (λ parts low. let e = one parts in omega (arith, e, low))

by_valid : (left : ℕ) (deeper : Data → Result Pred Misfit) (word : List ℕ) (d : Data) → ((d : Data) → IfOk (deeper d) (λ p. depth_of p ≤ left)) → IfOk (pred_by deeper word d) (λ p. depth_of p ≤ left + 1)
unfolding pred_by
by_valid left deeper word d all =
    if_either _ (bytes_eq word (codes "index")) _ _ (one_deep left pred.Index d depth_of_index)
    (if_either _ (bytes_eq word (codes "alias")) _ _ (one_deep left pred.Alias d depth_of_alias)
    (if_either _ (bytes_eq word (codes "node")) _ _ (one_deep left pred.Node d depth_of_node)
    (if_either _ (bytes_eq word (codes "version")) _ _ (if_then Any _ (whole_of d) (λ version. Ok (pred.Version version)) (if_any (whole_of d)) (λ version _. let e = depth_of_version version in omega (arith, e)))
    (if_either _ (bytes_eq word (codes "setting")) _ _ (if_weaker (λ p. depth_of p ≡ 1) _ (setting_pred_of d) (λ p e. omega (arith, e)) (setting_valid d))
    (if_either _ (bytes_eq word (codes "not")) _ _ (if_then (λ p. depth_of p ≤ left) _ (deeper d) (λ inner. Ok (pred.Not inner)) (all d) (λ inner low. let e = depth_of_not inner in omega (arith, e, low)))
    (if_either _ (bytes_eq word (codes "all")) _ _ (parts_deep left deeper pred.All d all depth_of_all)
    (if_either _ (bytes_eq word (codes "any")) _ _ (parts_deep left deeper pred.Any d all depth_of_any) tt)))))))

pred_deep : (left : ℕ) (d : Data) → IfOk (pred_of left d) (λ p. depth_of p ≤ left)
unfolding pred_of
pred_deep zero d = if_then Any _ (choice_of d) (λ chosen. over Depth) (if_any (choice_of d)) (λ chosen _. tt)
pred_deep (suc left) d =
    if_then Any _ (choice_of d) (λ chosen. within (at_member chosen.0) (pred_by (pred_of left) chosen.0 chosen.1)) (if_any (choice_of d))
    (λ chosen _. if_within _ (at_member chosen.0) (pred_by (pred_of left) chosen.0 chosen.1)
    (if_weaker (λ p. depth_of p ≤ left + 1) _ (pred_by (pred_of left) chosen.0 chosen.1) (λ p low. omega (arith, low)) (by_valid left (pred_of left) chosen.0 chosen.1 (pred_deep left))))

pub pred_valid : (d : Data) → IfOk (pred_of 16 d) (λ p. is_pred p ≡ true)
pred_valid d = if_weaker (λ p. depth_of p ≤ 16) _ (pred_of 16 d) (λ p low. le-leb (depth_of p) 16 low) (pred_deep 16 d)

abbrev pub AreThens : List Pred → Type 0
AreThens preds = (nat_le (length preds) 8 ≡ true) × (list_all is_pred preds ≡ true)

pub thens_valid : (d : Data) → IfOk (thens_of d) AreThens
thens_valid d =
    if_then (λ ds. length ds ≤ 8) _ (short_list 8 Then d) (preds_by (pred_of 16) []) (if_short 8 Then d)
    (λ ds few. if_both (λ ps. length ps ≡ length ds) (λ ps. deepest (map depth_of ps) ≤ 16) AreThens (preds_by (pred_of 16) [] ds)
    (λ ps count low. (le-leb (length ps) 8 (omega (arith, count, few)), are_preds_by_depth ps low)) (list_counts (λ earlier d. pred_of 16 d) ds) (preds_deep 16 (pred_of 16) ds (pred_deep 16)))

-- ---- acknowledgements

next_asked_valid : (nodes : List ScriptNode) (before : List (List ℕ)) (d : Data) → are_asked nodes before ≡ true → IfOk (next_asked nodes before d) (λ name. are_asked nodes (before ++ name ∷ []) ≡ true)
next_asked_valid nodes before d all =
    if_then (IsNamed nodes) _ (node_named nodes d) (fit_asked before) (named_valid nodes d)
    (λ node named. if_untested _ (list_any (bytes_eq node.name) before) node.name (bad Twice) tt (λ apart. are_asked_push nodes before node.name all named.known apart))

asked_by : (nodes : List ScriptNode) (text : Option (List ℕ)) (items : Option Items) → IfOk (asked_in nodes text items) (λ names. is_if_some (are_asked nodes) names ≡ true)
asked_by nodes (Some text) items = if_tested _ (bytes_eq text (codes "all")) None (bad Value) (λ _. refl) tt
asked_by nodes None None = tt
asked_by nodes None (Some ds) =
    if_then (λ names. are_asked nodes names ≡ true) _ (each (next_asked nodes) [] (items_list ds)) _
    (each_holds (λ names. are_asked nodes names ≡ true) (next_asked nodes) (next_asked_valid nodes) [] (items_list ds) refl) (λ names valid. valid)

asked_valid : (nodes : List ScriptNode) (d : Data) → IfOk (asked_of nodes d) (λ names. is_if_some (are_asked nodes) names ≡ true)
asked_valid nodes d = asked_by nodes (as_str d) (as_array d)

some_time_valid : (d : Data) → IfOk (some_time_of d) (λ ms. is_if_some is_time ms ≡ true)
some_time_valid d = if_then (λ ms. is_time ms ≡ true) _ (time_of d) _ (time_valid d) (λ ms valid. valid)

ack_valid : (nodes : List ScriptNode) (d : Data) → IfOk (ack_of nodes d) (λ ack. is_ack nodes ack ≡ true)
unfolding ack_of
ack_valid nodes d =
    then_any _ (check_members (codes "nodes" ∷ codes "timeout" ∷ []) d) _ (λ _.
    if_then (λ names. is_if_some (are_asked nodes) names ≡ true) _ (required (codes "nodes") (asked_of nodes) d) _ (if_required _ (codes "nodes") (asked_of nodes) d (asked_valid nodes)) (λ names asked.
    if_then (λ ms. is_if_some is_time ms ≡ true) _ (optional (codes "timeout") None some_time_of d) _ (if_optional _ (codes "timeout") None some_time_of d refl some_time_valid) (λ ms time.
    both_true asked time)))

some_ack_valid : (nodes : List ScriptNode) (d : Data) → IfOk (some_ack_of nodes d) (λ ack. is_if_some (is_ack nodes) ack ≡ true)
some_ack_valid nodes d = if_then (λ ack. is_ack nodes ack ≡ true) _ (ack_of nodes d) _ (ack_valid nodes d) (λ ack valid. valid)

-- ---- steps

submit_valid : (nodes : List ScriptNode) (queues : List QueueSpec) (before : List Step) (d : Data) → IfOk (submit_of nodes queues d) (λ s. is_step nodes queues before s ≡ true)
unfolding submit_of
submit_valid nodes queues before d =
    then_any _ (check_members (codes "do" ∷ codes "queue" ∷ codes "task" ∷ codes "timeout" ∷ codes "ack" ∷ []) d) _ (λ _.
    if_then (λ q. kind_at queues q.0 ≡ Some q.1) _ (required (codes "queue") (queue_named queues) d) _ (if_required _ (codes "queue") (queue_named queues) d (queue_named_valid queues)) (λ queue there.
    if_then (λ made. is_task_of nodes (form_of queue.1) made ≡ true) _ (required (codes "task") (task_of nodes (form_of queue.1)) d) _
    (if_required _ (codes "task") (task_of nodes (form_of queue.1)) d (task_valid nodes (form_of queue.1))) (λ made valid.
    if_then (λ ms. is_time ms ≡ true) _ (optional (codes "timeout") 0 time_of d) _ (if_optional _ (codes "timeout") 0 time_of d refl time_valid) (λ ms time.
    if_then (λ ack. is_if_some (is_ack nodes) ack ≡ true) _ (optional (codes "ack") None (some_ack_of nodes) d) _ (if_optional _ (codes "ack") None (some_ack_of nodes) d refl (some_ack_valid nodes)) (λ ack asked.
    is_submit_valid nodes queues queue.0 queue.1 made ms ack there valid time asked)))))

await_valid : (nodes : List ScriptNode) (queues : List QueueSpec) (before : List Step) (d : Data) → IfOk (await_of before d) (λ s. is_step nodes queues before s ≡ true)
unfolding await_of
await_valid nodes queues before d =
    then_any _ (check_members (codes "do" ∷ codes "step" ∷ codes "for" ∷ []) d) _ (λ _.
    then_any _ (required (codes "step") (earlier_of before) d) _ (λ number.
    then_any _ (required (codes "for") (word_of goal_named) d) _ (λ awaited.
    if_tested _ (is_goal awaited (slice_get before number)) (step.Await number awaited) (within (at_member (codes "step")) (bad Reference)) (λ suits. suits) tt)))

watch_valid : (nodes : List ScriptNode) (queues : List QueueSpec) (before : List Step) (d : Data) → IfOk (watch_of nodes d) (λ s. is_step nodes queues before s ≡ true)
unfolding watch_of
watch_valid nodes queues before d =
    then_any _ (check_members (codes "do" ∷ codes "node" ∷ codes "pred" ∷ codes "then" ∷ codes "timeout" ∷ []) d) _ (λ _.
    if_then (IsNamed nodes) _ (required (codes "node") (node_named nodes) d) _ (named_required nodes d) (λ node named.
    if_then (λ p. is_pred p ≡ true) _ (required (codes "pred") (pred_of 16) d) _ (if_required _ (codes "pred") (pred_of 16) d pred_valid) (λ p one.
    if_then AreThens _ (optional (codes "then") [] thens_of d) _ (if_optional AreThens (codes "then") [] thens_of d (refl, refl) thens_valid) (λ ps all.
    if_then (λ ms. is_positive_time ms ≡ true) _ (required (codes "timeout") positive_of d) _ (if_required _ (codes "timeout") positive_of d positive_valid) (λ ms time.
    both_true named.known (both_true (both_true one (both_true all.0 all.1)) time))))))

watched_valid : (before : List Step) (d : Data) → IfOk (watched_of before d) (λ n. is_goal goal.Watch (slice_get before n) ≡ true)
watched_valid before d = then_any _ (whole_of d) _ (λ n. if_tested _ (is_goal goal.Watch (slice_get before n)) n (bad Reference) (λ suits. suits) tt)

next_valid : (nodes : List ScriptNode) (queues : List QueueSpec) (before : List Step) (d : Data) → IfOk (next_watch_of before d) (λ s. is_step nodes queues before s ≡ true)
unfolding next_watch_of
next_valid nodes queues before d =
    then_any _ (check_members (codes "do" ∷ codes "watch" ∷ codes "pred" ∷ codes "then" ∷ codes "timeout" ∷ []) d) _ (λ _.
    if_then (λ n. is_goal goal.Watch (slice_get before n) ≡ true) _ (required (codes "watch") (watched_of before) d) _ (if_required _ (codes "watch") (watched_of before) d (watched_valid before)) (λ number suits.
    if_then (λ p. is_pred p ≡ true) _ (required (codes "pred") (pred_of 16) d) _ (if_required _ (codes "pred") (pred_of 16) d pred_valid) (λ p one.
    if_then AreThens _ (optional (codes "then") [] thens_of d) _ (if_optional AreThens (codes "then") [] thens_of d (refl, refl) thens_valid) (λ ps all.
    if_then (λ ms. is_positive_time ms ≡ true) _ (required (codes "timeout") positive_of d) _ (if_required _ (codes "timeout") positive_of d positive_valid) (λ ms time.
    both_true suits (both_true (both_true one (both_true all.0 all.1)) time))))))

read_valid : (nodes : List ScriptNode) (queues : List QueueSpec) (before : List Step) (d : Data) → IfOk (read_of nodes d) (λ s. is_step nodes queues before s ≡ true)
unfolding read_of
read_valid nodes queues before d =
    then_any _ (check_members (codes "do" ∷ codes "node" ∷ codes "index" ∷ codes "alias" ∷ codes "setting" ∷ []) d) _ (λ _.
    if_then (IsNamed nodes) _ (required (codes "node") (node_named nodes) d) _ (named_required nodes d) (λ node named.
    then_any _ (look_of d) _ (λ look. named.known)))

sleep_valid : (nodes : List ScriptNode) (queues : List QueueSpec) (before : List Step) (d : Data) → IfOk (sleep_of d) (λ s. is_step nodes queues before s ≡ true)
unfolding sleep_of
sleep_valid nodes queues before d =
    then_any _ (check_members (codes "do" ∷ codes "ms" ∷ []) d) _ (λ _.
    if_then (λ ms. is_time ms ≡ true) _ (required (codes "ms") time_of d) _ (if_required _ (codes "ms") time_of d time_valid) (λ ms time. time))

close_valid : (nodes : List ScriptNode) (queues : List QueueSpec) (before : List Step) (d : Data) → IfOk (close_of d) (λ s. is_step nodes queues before s ≡ true)
unfolding close_of
close_valid nodes queues before d = then_any _ (check_members (codes "do" ∷ []) d) _ (λ _. refl)

step_by : (nodes : List ScriptNode) (queues : List QueueSpec) (before : List Step) (word : List ℕ) (d : Data) → IfOk (step_as nodes queues before word d) (λ s. is_step nodes queues before s ≡ true)
unfolding step_as
step_by nodes queues before word d =
    if_either _ (bytes_eq word (codes "submit")) _ _ (submit_valid nodes queues before d)
    (if_either _ (bytes_eq word (codes "await")) _ _ (await_valid nodes queues before d)
    (if_either _ (bytes_eq word (codes "watch")) _ _ (watch_valid nodes queues before d)
    (if_either _ (bytes_eq word (codes "next")) _ _ (next_valid nodes queues before d)
    (if_either _ (bytes_eq word (codes "read")) _ _ (read_valid nodes queues before d)
    (if_either _ (bytes_eq word (codes "sleep")) _ _ (sleep_valid nodes queues before d)
    (if_either _ (bytes_eq word (codes "close")) _ _ (close_valid nodes queues before d) tt))))))

pub step_valid : (nodes : List ScriptNode) (queues : List QueueSpec) (before : List Step) (d : Data) → IfOk (step_of nodes queues before d) (λ s. is_step nodes queues before s ≡ true)
unfolding step_of
step_valid nodes queues before d = then_any _ (object_of d) _ (λ _. then_any _ (required (codes "do") text_of d) _ (λ word. step_by nodes queues before word d))
