-- What is so of the parts of a script as the definitions read them: names, nodes, queues, tasks and turns.
use Rattle.std.proofs.Common.{◌≡◌, ℕ, ◌+◌, ◌≤◌, true, List, [], ◌∷◌, ◌++◌, Some, None, Ok, Err, length, refl, arith, rules, ap, sym, ◌∙◌, subst, append_assoc}
use Rattle.std.specs.Prelude.{Bool, ◌&&◌, false, Option, Result, IfOk, codes, if◌then◌else◌, bytes_eq, option_map, slice_get}
use Rattle.std.specs.List.{list_any}
use Rattle.std.proofs.lemmas.Grind.{common_steps}
use Rattle.std.proofs.lemmas.List.{length-append}
use Rattle.serde_json.specs.Data.{Data}
use Rattle.serde_json.specs.Find.{get}
use Rattle.executors.specs.declared.kinds.Kind.{Kind}
use Rattle.executors.specs.declared.task_forms.TaskForm.{TaskForm}
use Rattle.executors.specs.declared.task_forms.TaskForm.TheVariants as form
use Rattle.scripts.specs.declared.whole_script.ScriptNode.{ScriptNode}
use Rattle.scripts.specs.declared.queues.QueueSpec.{QueueSpec}
use Rattle.scripts.specs.Names.{is_name}
use Rattle.scripts.specs.ValidSteps.{is_node_among, is_node_so, is_positive_time, is_task_of, is_time}
use Rattle.script_form.specs.declared.limits.LimitName.{LimitName}
use Rattle.script_form.specs.declared.limits.LimitName.TheVariants.{Nodes, Queues}
use Rattle.script_form.specs.declared.misfits.Misfit.{Misfit}
use Rattle.script_form.specs.declared.rules.Rule.{Rule}
use Rattle.script_form.specs.declared.rules.Rule.TheVariants.{Master, Name, Range, Reference, Twice}
use Rattle.script_form.specs.Misfits.{◌>>=◌, bad, if_so, some_or, within, at_member, at_place}
use Rattle.script_form.specs.Naming.{AreNamed}
use Rattle.script_form.specs.Nodes.{AreLed, AreNodes, find_node, fit_node, next_node, node_named, node_of, nodes_of, some_nodes}
use Rattle.script_form.specs.Parts.{check_members, each, if_there, member_or, name_of, optional, positive_of, required, short_list, text_of, time_of, whole_of, word_of}
use Rattle.script_form.specs.Queues.{find_queue, fit_queue, kind_at, queue_after, queue_name, queue_named, queue_of, queues_of}
use Rattle.script_form.specs.Tasks.{alias_task_of, cluster_setting_of, creation_of, deletion_of, index_setting_of, joining_named, node_task, node_task_of, opening_of, reelection_of, task_of}
use Rattle.script_form.proofs.Names.{is_node_found, is_node_so_found, led_nodes, led_push, names_push}

-- ---- what is read, and what is read then

abbrev pub Any : {A : Type 0} → A → Type 0
Any a = Unit {0}

pub if_any : {A : Type 0} (r : Result A Misfit) → IfOk r Any
if_any (Ok a) = tt
if_any (Err m) = tt

pub if_then : {A B : Type 0} (P : A → Type 0) (Q : B → Type 0) (r : Result A Misfit) (f : A → Result B Misfit) → IfOk r P → ((a : A) → P a → IfOk (f a) Q) → IfOk (r >>= f) Q
if_then P Q (Ok a) f p next = next a p
if_then P Q (Err m) f p next = tt

pub then_any : {A B : Type 0} (Q : B → Type 0) (r : Result A Misfit) (f : A → Result B Misfit) → ((a : A) → IfOk (f a) Q) → IfOk (r >>= f) Q
then_any Q (Ok a) f next = next a
then_any Q (Err m) f next = tt

pub if_weaker : {A : Type 0} (P Q : A → Type 0) (r : Result A Misfit) → ((a : A) → P a → Q a) → IfOk r P → IfOk r Q
if_weaker P Q (Ok a) then_so p = then_so a p
if_weaker P Q (Err m) then_so p = tt

pub if_both : {A : Type 0} (P Q R : A → Type 0) (r : Result A Misfit) → ((a : A) → P a → Q a → R a) → IfOk r P → IfOk r Q → IfOk r R
if_both P Q R (Ok a) both p q = both a p q
if_both P Q R (Err m) both p q = tt

pub if_within : {A : Type 0} (P : A → Type 0) (lead : List ℕ → List ℕ) (r : Result A Misfit) → IfOk r P → IfOk (within lead r) P
if_within P lead (Ok a) p = p
if_within P lead (Err m) p = tt

pub if_either : {A : Type 0} (P : A → Type 0) (b : Bool) (r s : Result A Misfit) → IfOk r P → IfOk s P → IfOk (if b then r else s) P
if_either P true r s p q = p
if_either P false r s p q = q

pub if_tested : {A : Type 0} (P : A → Type 0) (b : Bool) (a : A) (r : Result A Misfit) → (b ≡ true → P a) → IfOk r P → IfOk (if b then Ok a else r) P
if_tested P true a r p q = p refl
if_tested P false a r p q = q

pub if_untested : {A : Type 0} (P : A → Type 0) (b : Bool) (a : A) (r : Result A Misfit) → IfOk r P → (b ≡ false → P a) → IfOk (if b then r else Ok a) P
if_untested P true a r q p = q
if_untested P false a r q p = p refl

pub if_some : {A : Type 0} (P : A → Type 0) (rule : Rule) (found : Option A) → ((a : A) → found ≡ Some a → P a) → IfOk (some_or rule found) P
if_some P rule None p = tt
if_some P rule (Some a) p = p a refl

required_by : {A : Type 0} (P : A → Type 0) (key : List ℕ) (reading : Data → Result A Misfit) → ((m : Data) → IfOk (reading m) P)
    → (found : Option Data) → IfOk (member_or key found >>= λ m. within (at_member key) (reading m)) P
required_by P key reading all None = tt
required_by P key reading all (Some m) = if_within P (at_member key) (reading m) (all m)

pub if_required : {A : Type 0} (P : A → Type 0) (key : List ℕ) (reading : Data → Result A Misfit) (d : Data) → ((m : Data) → IfOk (reading m) P) → IfOk (required key reading d) P
if_required P key reading d all = required_by P key reading all (get key d)

optional_by : {A : Type 0} (P : A → Type 0) (key : List ℕ) (default : A) (reading : Data → Result A Misfit) → P default → ((m : Data) → IfOk (reading m) P)
    → (found : Option Data) → IfOk (if_there key default reading found) P
optional_by P key default reading p all None = p
optional_by P key default reading p all (Some m) = if_within P (at_member key) (reading m) (all m)

pub if_optional : {A : Type 0} (P : A → Type 0) (key : List ℕ) (default : A) (reading : Data → Result A Misfit) (d : Data) → P default → ((m : Data) → IfOk (reading m) P)
    → IfOk (optional key default reading d) P
if_optional P key default reading d p all = optional_by P key default reading p all (get key d)

-- ---- lists

pub each_holds : {A : Type 0} (Holds : List A → Type 0) (reading : List A → Data → Result A Misfit)
    → ((before : List A) (d : Data) → Holds before → IfOk (reading before d) (λ a. Holds (before ++ a ∷ [])))
    → (before : List A) (ds : List Data) → Holds before → IfOk (each reading before ds) Holds
each_holds Holds reading next before [] h = h
each_holds Holds reading next before (d ∷ ds) h =
    if_then (λ a. Holds (before ++ a ∷ [])) Holds (within (at_place (length before)) (reading before d)) (λ a. each reading (before ++ a ∷ []) ds)
    (if_within _ (at_place (length before)) (reading before d) (next before d h)) (λ a more. each_holds Holds reading next (before ++ a ∷ []) ds more)

pub each_counts : {A : Type 0} (reading : List A → Data → Result A Misfit) (before : List A) (ds : List Data) → IfOk (each reading before ds) (λ all. length all ≡ length before + length ds)
each_counts reading before [] = omega arith
each_counts reading before (d ∷ ds) =
    if_then Any _ (within (at_place (length before)) (reading before d)) (λ a. each reading (before ++ a ∷ []) ds) (if_any _)
    (λ a _. if_weaker (λ all. length all ≡ length (before ++ a ∷ []) + length ds) _ (each reading (before ++ a ∷ []) ds)
    (λ all e. let one = length-append before (a ∷ []) in omega (arith, e)) (each_counts reading (before ++ a ∷ []) ds))

pub list_counts : {A : Type 0} (reading : List A → Data → Result A Misfit) (ds : List Data) → IfOk (each reading [] ds) (λ all. length all ≡ length ds)
list_counts reading ds = if_weaker (λ all. length all ≡ 0 + length ds) _ (each reading [] ds) (λ all e. omega (arith, e)) (each_counts reading [] ds)

pub if_short : (most : ℕ) (name : LimitName) (d : Data) → IfOk (short_list most name d) (λ ds. length ds ≤ most)
if_short most name d = search (rules, common_steps, if_then, if_any, if_untested)

-- ---- texts and numbers

pub name_valid : (d : Data) → IfOk (name_of d) (λ name. is_name name ≡ true)
name_valid d = if_then Any _ (text_of d) (if_so Name is_name) (if_any (text_of d)) (λ name _. if_tested _ (is_name name) name (bad Name) (λ e. e) tt)

pub time_valid : (d : Data) → IfOk (time_of d) (λ ms. is_time ms ≡ true)
time_valid d = if_then Any _ (whole_of d) (if_so Range is_time) (if_any (whole_of d)) (λ ms _. if_tested _ (is_time ms) ms (bad Range) (λ e. e) tt)

pub positive_valid : (d : Data) → IfOk (positive_of d) (λ ms. is_positive_time ms ≡ true)
positive_valid d = if_then Any _ (whole_of d) (if_so Range is_positive_time) (if_any (whole_of d)) (λ ms _. if_tested _ (is_positive_time ms) ms (bad Range) (λ e. e) tt)

-- ---- nodes

pub node_valid : (d : Data) → IfOk (node_of d) (λ node. is_name node.name ≡ true)
unfolding node_of
node_valid d = search (rules, if_then, if_any, if_required, name_valid)

check_valid : (before : List ScriptNode) (node : ScriptNode) → AreLed before → is_name node.name ≡ true → IfOk (fit_node before node) (λ n. AreLed (before ++ n ∷ []))
check_valid [] node led named =
    if_tested _ (node.eligible && node.member) node (bad Master) (λ e. led_push [] node led (record { named = named; apart = refl }) e) tt
check_valid (first ∷ before) node led named =
    if_untested _ (is_node_among (first ∷ before) node.name) node (within (at_member (codes "name")) (bad Twice)) tt
    (λ e. led_push (first ∷ before) node led (record { named = named; apart = e }) refl)

next_node_valid : (before : List ScriptNode) (d : Data) → AreLed before → IfOk (next_node before d) (λ n. AreLed (before ++ n ∷ []))
next_node_valid before d led = if_then (λ n. is_name n.name ≡ true) _ (node_of d) (fit_node before) (node_valid d) (λ node named. check_valid before node led named)

some_valid : (ds : List Data) → length ds ≤ 30 → IfOk (some_nodes ds) AreNodes
some_valid [] few = tt
some_valid (d ∷ ds) few =
    if_both (λ nodes. length nodes ≡ length (d ∷ ds)) AreLed AreNodes (each next_node [] (d ∷ ds))
    (λ nodes count led. record { limit = omega (arith, count, few); names = led.names; master = led_nodes nodes (omega (arith, count)) led.led })
    (list_counts next_node (d ∷ ds)) (each_holds AreLed next_node next_node_valid [] (d ∷ ds) (record { names = record { named = refl; distinct = refl }; led = refl }))

pub nodes_valid : (d : Data) → IfOk (nodes_of d) AreNodes
nodes_valid d = if_then (λ ds. length ds ≤ 30) _ (short_list 30 Nodes d) some_nodes (if_short 30 Nodes d) some_valid

-- the node that a text names
pub record IsNamed (nodes : List ScriptNode) (node : ScriptNode) : Type 0 where
  pub known : is_node_among nodes node.name ≡ true
  pub so : is_node_so nodes node.name node.eligible ≡ true

pub named_valid : (nodes : List ScriptNode) (d : Data) → IfOk (node_named nodes d) (IsNamed nodes)
named_valid nodes d =
    if_then Any _ (text_of d) (λ name. some_or Reference (find_node nodes name)) (if_any (text_of d))
    (λ name _. if_some _ Reference (find_node nodes name) (λ node found. record { known = is_node_found nodes name node found; so = is_node_so_found nodes name node found }))

pub named_required : (nodes : List ScriptNode) (d : Data) → IfOk (required (codes "node") (node_named nodes) d) (IsNamed nodes)
named_required nodes d = if_required (IsNamed nodes) (codes "node") (node_named nodes) d (named_valid nodes)

-- ---- queues

pub queue_valid : (d : Data) → IfOk (queue_of d) (λ queue. is_name queue.name ≡ true)
unfolding queue_of
queue_valid d = search (rules, if_then, if_any, if_required, name_valid)

queue_after_valid : (before : List QueueSpec) (d : Data) → AreNamed queue_name before → IfOk (queue_after before d) (λ q. AreNamed queue_name (before ++ q ∷ []))
queue_after_valid before d all =
    if_then (λ q. is_name q.name ≡ true) _ (queue_of d) (fit_queue before) (queue_valid d)
    (λ queue named. if_untested _ (list_any (λ q. bytes_eq queue.name q.name) before) queue (within (at_member (codes "name")) (bad Twice)) tt
    (λ e. names_push queue_name before queue all (record { named = named; apart = e })))

pub queues_valid : (d : Data) → IfOk (queues_of d) (λ queues. AreNamed queue_name queues × (length queues ≤ 64))
queues_valid d =
    if_then (λ ds. length ds ≤ 64) _ (short_list 64 Queues d) (each queue_after []) (if_short 64 Queues d)
    (λ ds few. if_both (λ queues. length queues ≡ length ds) (AreNamed queue_name) _ (each queue_after [] ds) (λ queues count all. (all, omega (arith, count, few)))
    (list_counts queue_after ds) (each_holds (AreNamed queue_name) queue_after queue_after_valid [] ds (record { named = refl; distinct = refl })))

place_after : {A : Type 0} (before : List A) (a : A) (rest : List A) → slice_get (before ++ a ∷ rest) (length before) ≡ Some a
place_after [] a rest = refl
place_after (b ∷ before) a rest = place_after before a rest

abbrev or_else : {A : Type 0} → A → Option A → A
or_else a None = a
or_else a (Some b) = b

some_same : {A : Type 0} (a b : A) → Some a ≡ Some b → a ≡ b
some_same a b e = ap (or_else a) e

found_at : (before rest : List QueueSpec) (queue : QueueSpec) (b : Bool) (name : List ℕ) (q : ℕ × Kind)
    → (find_queue (length before + 1) rest name ≡ Some q → kind_at (before ++ queue ∷ rest) q.0 ≡ Some q.1)
    → (if b then Some (length before, queue.executor) else find_queue (length before + 1) rest name) ≡ Some q → kind_at (before ++ queue ∷ rest) q.0 ≡ Some q.1
found_at before rest queue true name q later e =
    subst (λ (p : ℕ × Kind). kind_at (before ++ queue ∷ rest) p.0 ≡ Some p.1) (some_same _ _ e) (ap (option_map (λ (q : QueueSpec). q.executor)) (place_after before queue rest))
found_at before rest queue false name q later e = later e

find_at : (before rest : List QueueSpec) (name : List ℕ) (q : ℕ × Kind) → find_queue (length before) rest name ≡ Some q → kind_at (before ++ rest) q.0 ≡ Some q.1
find_at before [] name q e = absurd cc
find_at before (queue ∷ rest) name q e =
    found_at before rest queue (bytes_eq name queue.name) name q
    (λ later. ap (λ (all : List QueueSpec). kind_at all q.0) (sym (append_assoc before (queue ∷ []) rest))
    ∙ find_at (before ++ queue ∷ []) rest name q (ap (λ n. find_queue n rest name) (length-append before (queue ∷ [])) ∙ later)) e

-- the queue that a text names
pub queue_named_valid : (queues : List QueueSpec) (d : Data) → IfOk (queue_named queues d) (λ q. kind_at queues q.0 ≡ Some q.1)
queue_named_valid queues d =
    if_then Any _ (text_of d) (λ name. some_or Reference (find_queue 0 queues name)) (if_any (text_of d))
    (λ name _. if_some _ Reference (find_queue 0 queues name) (λ q found. find_at [] queues name q found))

-- ---- tasks

pub creation_valid : (nodes : List ScriptNode) (d : Data) → IfOk (creation_of d) (λ made. is_task_of nodes form.CreateIndex made ≡ true)
unfolding creation_of
creation_valid nodes d = search (rules, if_then, if_any)

pub deletion_valid : (nodes : List ScriptNode) (d : Data) → IfOk (deletion_of d) (λ made. is_task_of nodes form.DeleteIndex made ≡ true)
unfolding deletion_of
deletion_valid nodes d = search (rules, if_then, if_any)

pub index_setting_valid : (nodes : List ScriptNode) (d : Data) → IfOk (index_setting_of d) (λ made. is_task_of nodes form.IndexSetting made ≡ true)
unfolding index_setting_of
index_setting_valid nodes d = search (rules, if_then, if_any)

pub opening_valid : (nodes : List ScriptNode) (d : Data) → IfOk (opening_of d) (λ made. is_task_of nodes form.OpenClose made ≡ true)
unfolding opening_of
opening_valid nodes d = search (rules, if_then, if_any)

pub alias_task_valid : (nodes : List ScriptNode) (d : Data) → IfOk (alias_task_of d) (λ made. is_task_of nodes form.Alias made ≡ true)
unfolding alias_task_of
alias_task_valid nodes d = search (rules, if_then, if_any)

pub cluster_setting_valid : (nodes : List ScriptNode) (d : Data) → IfOk (cluster_setting_of d) (λ made. is_task_of nodes form.ClusterSetting made ≡ true)
unfolding cluster_setting_of
cluster_setting_valid nodes d = search (rules, if_then, if_any)

pub reelection_valid : (nodes : List ScriptNode) (d : Data) → IfOk (reelection_of d) (λ made. is_task_of nodes form.Reelect made ≡ true)
unfolding reelection_of
reelection_valid nodes d = search (rules, if_then, if_any)

made_valid : (nodes : List ScriptNode) (node : ScriptNode) (joins : Bool) → IsNamed nodes node
    → IfOk {E = Misfit} (Ok (node_task node joins)) (λ made. is_task_of nodes form.Node made ≡ true)
made_valid nodes node true p = p.so
made_valid nodes node false p = p.known

pub node_task_valid : (nodes : List ScriptNode) (d : Data) → IfOk (node_task_of nodes d) (λ made. is_task_of nodes form.Node made ≡ true)
unfolding node_task_of
node_task_valid nodes d =
    then_any _ (check_members (codes "node" ∷ codes "action" ∷ []) d) _ (λ _.
    if_then (IsNamed nodes) _ (required (codes "node") (node_named nodes) d) _ (named_required nodes d) (λ node named.
    then_any _ (required (codes "action") (word_of joining_named) d) _ (λ joins. made_valid nodes node joins named)))

pub task_valid : (nodes : List ScriptNode) (form : TaskForm) (d : Data) → IfOk (task_of nodes form d) (λ made. is_task_of nodes form made ≡ true)
task_valid nodes form.CreateIndex d = creation_valid nodes d
task_valid nodes form.DeleteIndex d = deletion_valid nodes d
task_valid nodes form.IndexSetting d = index_setting_valid nodes d
task_valid nodes form.OpenClose d = opening_valid nodes d
task_valid nodes form.Alias d = alias_task_valid nodes d
task_valid nodes form.ClusterSetting d = cluster_setting_valid nodes d
task_valid nodes form.Node d = node_task_valid nodes d
task_valid nodes form.Reelect d = reelection_valid nodes d
