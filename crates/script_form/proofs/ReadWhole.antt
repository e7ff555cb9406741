-- What is so of the clients, faults and schedule of a script as the definitions read them, and of the whole.
use Rattle.std.proofs.Common.{◌≡◌, ℕ, ◌≤◌, true, false, List, [], ◌∷◌, ◌++◌, Some, None, Ok, Err, length, refl, arith, ◌∙◌, subst}
use Rattle.std.specs.Prelude.{Bool, ◌&&◌, ◌||◌, ◌==◌, Option, Result, IfOk, codes, nat_lt}
use Rattle.std.specs.List.{list_all, list_any}
use Rattle.std.specs.Cmp.Derive.{both_true}
use Rattle.std.proofs.lemmas.Bool.{eqb-true}
use Rattle.std.proofs.lemmas.Grind.{common_steps}
use Rattle.std.proofs.lemmas.List.Folds.{list_all-append}
use Rattle.serde_json.specs.Data.{Data}
use Rattle.scripts.specs.declared.faults.Fault.{Fault}
use Rattle.scripts.specs.declared.queues.QueueSpec.{QueueSpec}
use Rattle.scripts.specs.declared.steps.Step.{Step}
use Rattle.scripts.specs.declared.whole_script.Script.{Script}
use Rattle.scripts.specs.declared.whole_script.ScriptNode.{ScriptNode}
use Rattle.scripts.specs.declared.whole_script.ScriptTurn.{ScriptTurn}
use Rattle.scripts.specs.declared.whole_script.ScriptTurn.TheVariants as turn
use Rattle.scripts.specs.Built.{IsBuilt, is_built}
use Rattle.scripts.specs.Names.{is_name}
use Rattle.scripts.specs.Scripts.{IsScript, is_close, is_fault, is_master, is_turn}
use Rattle.scripts.specs.ValidSteps.{is_node_among, is_positive_time, is_step}
use Rattle.script_form.specs.declared.limits.LimitName.TheVariants.{Clients, Faults, Schedule, Steps, Work}
use Rattle.script_form.specs.declared.misfits.Misfit.{Misfit}
use Rattle.script_form.specs.declared.refusals.ScriptRefusal.{ScriptRefusal}
use Rattle.script_form.specs.declared.rules.Rule.TheVariants.{Close, Master, NotBuilt, Reference, Twice, Version}
use Rattle.script_form.specs.Clients.{AreClients, AreSteps, clients_of, do_close, fit_step, next_client, step_after, starts_once, steps_of}
use Rattle.script_form.specs.Faults.{AreFaults, fault_named, fault_of, faults_of, fit_fault, fit_follower, follower_of, is_same_place, next_fault}
use Rattle.script_form.specs.Misfits.{◌>>=◌, bad, over}
use Rattle.script_form.specs.Naming.{AreNamed}
use Rattle.script_form.specs.Nodes.{AreNodes, find_node, node_named, nodes_of}
use Rattle.script_form.specs.Parts.{check_members, data_of, each, name_of, optional, positive_of, required, short_list, text_of, whole_of, word_of}
use Rattle.script_form.specs.Queues.{queue_name, queues_of}
use Rattle.script_form.specs.Reading.{AreParts, check_built, check_work, is_workable, parts_of, script_members, script_of, script_of_data, script_or_refusal, version_of, whole_script}
use Rattle.script_form.specs.Steps.{step_of}
use Rattle.script_form.specs.Turns.{turn_of_client, is_decimal, turn_of_master, named_turn, next_turn, node_turn, number_of, schedule_of, turn_in, turn_of}
use Rattle.script_form.proofs.Closing.{clients_push, steps_push}
use Rattle.script_form.proofs.Names.{is_node_found}
use Rattle.script_form.proofs.Places.{faults_push}
use Rattle.script_form.proofs.Readings.{IsNamed, each_holds, if_both, if_either, if_optional, if_required, if_short, if_tested, if_then, if_untested, if_weaker, list_counts, name_valid, named_valid, nodes_valid, positive_valid, queues_valid, then_any}
use Rattle.script_form.proofs.ReadSteps.{step_valid}
use Rattle.script_form.proofs.Valid.{script_is_valid}

-- ---- clients

step_after_valid : (nodes : List ScriptNode) (queues : List QueueSpec) (closed : Bool) (before : List Step) (d : Data) → AreSteps nodes queues closed before
    → IfOk (step_after nodes queues closed before d) (λ s. AreSteps nodes queues closed (before ++ s ∷ []))
step_after_valid nodes queues closed before d all =
    if_then (λ s. is_step nodes queues before s ≡ true) _ (step_of nodes queues before d) (fit_step (closed || list_any is_close before)) (step_valid nodes queues before d)
    (λ s valid. if_untested _ (is_close s && (closed || list_any is_close before)) s (bad Close) tt (λ once. steps_push nodes queues closed before s all valid once))

abbrev ShortSteps : List ScriptNode → List QueueSpec → Bool → List Step → Type 0
ShortSteps nodes queues closed steps = AreSteps nodes queues closed steps × (length steps ≤ 4096)

steps_valid : (nodes : List ScriptNode) (queues : List QueueSpec) (closed : Bool) (d : Data) → IfOk (steps_of nodes queues closed d) (ShortSteps nodes queues closed)
steps_valid nodes queues closed d =
    if_then (λ ds. length ds ≤ 4096) _ (short_list 4096 Steps d) _ (if_short 4096 Steps d)
    (λ ds few. if_both (λ steps. length steps ≡ length ds) (AreSteps nodes queues closed) _ (each (step_after nodes queues closed) [] ds)
    (λ steps count all. (all, omega (arith, count, few))) (list_counts (step_after nodes queues closed) ds)
    (each_holds (AreSteps nodes queues closed) (step_after nodes queues closed) (step_after_valid nodes queues closed) [] ds (record { valid = refl; once = starts_once closed })))

next_client_valid : (nodes : List ScriptNode) (queues : List QueueSpec) (before : List (List Step)) (d : Data) → AreClients nodes queues before
    → IfOk (next_client nodes queues before d) (λ steps. AreClients nodes queues (before ++ steps ∷ []))
next_client_valid nodes queues before d all =
    if_weaker (ShortSteps nodes queues (do_close before)) _ (steps_of nodes queues (do_close before) d)
    (λ steps short. clients_push nodes queues before steps all short.1 short.0) (steps_valid nodes queues (do_close before) d)

abbrev FewClients : List ScriptNode → List QueueSpec → List (List Step) → Type 0
FewClients nodes queues clients = AreClients nodes queues clients × (length clients ≤ 32)

clients_valid : (nodes : List ScriptNode) (queues : List QueueSpec) (d : Data) → IfOk (clients_of nodes queues d) (FewClients nodes queues)
clients_valid nodes queues d =
    if_then (λ ds. length ds ≤ 32) _ (short_list 32 Clients d) _ (if_short 32 Clients d)
    (λ ds few. if_both (λ clients. length clients ≡ length ds) (AreClients nodes queues) _ (each (next_client nodes queues) [] ds)
    (λ clients count all. (all, omega (arith, count, few))) (list_counts (next_client nodes queues) ds)
    (each_holds (AreClients nodes queues) (next_client nodes queues) (next_client_valid nodes queues) [] ds (record { valid = refl; once = starts_once false })))

-- ---- faults

abbrev IsFollower : List ScriptNode → List ℕ → Type 0
IsFollower nodes name = (is_node_among nodes name ≡ true) × (is_master nodes name ≡ false)

follower_valid : (nodes : List ScriptNode) (d : Data) → IfOk (follower_of nodes d) (IsFollower nodes)
follower_valid nodes d =
    if_then (IsNamed nodes) _ (node_named nodes d) (fit_follower nodes) (named_valid nodes d)
    (λ node named. if_untested _ (is_master nodes node.name) node.name (bad Master) tt (λ follows. (named.known, follows)))

fault_made : (nodes : List ScriptNode) (fault : Fault) → IsFollower nodes fault.node → is_positive_time fault.publication ≡ true → is_fault nodes fault ≡ true
fault_made nodes fault follows time = grind (arith, common_steps)

fault_valid : (nodes : List ScriptNode) (d : Data) → IfOk (fault_of nodes d) (λ f. is_fault nodes f ≡ true)
unfolding fault_of
fault_valid nodes d =
    then_any _ (check_members (codes "node" ∷ codes "publication" ∷ codes "kind" ∷ []) d) _ (λ _.
    if_then (IsFollower nodes) _ (required (codes "node") (follower_of nodes) d) _ (if_required (IsFollower nodes) (codes "node") (follower_of nodes) d (follower_valid nodes)) (λ node follows.
    if_then (λ n. is_positive_time n ≡ true) _ (required (codes "publication") positive_of d) _ (if_required _ (codes "publication") positive_of d positive_valid) (λ publication time.
    then_any _ (required (codes "kind") (word_of fault_named) d) _ (λ kind. fault_made nodes (record { node = node; publication = publication; kind = kind }) follows time))))

next_fault_valid : (nodes : List ScriptNode) (before : List Fault) (d : Data) → AreFaults nodes before → IfOk (next_fault nodes before d) (λ f. AreFaults nodes (before ++ f ∷ []))
next_fault_valid nodes before d all =
    if_then (λ f. is_fault nodes f ≡ true) _ (fault_of nodes d) (fit_fault before) (fault_valid nodes d)
    (λ f valid. if_untested _ (list_any (is_same_place f) before) f (bad Twice) tt (λ apart. faults_push nodes before f all valid apart))

abbrev FewFaults : List ScriptNode → List Fault → Type 0
FewFaults nodes faults = AreFaults nodes faults × (length faults ≤ 1024)

faults_valid : (nodes : List ScriptNode) (d : Data) → IfOk (faults_of nodes d) (FewFaults nodes)
faults_valid nodes d =
    if_then (λ ds. length ds ≤ 1024) _ (short_list 1024 Faults d) _ (if_short 1024 Faults d)
    (λ ds few. if_both (λ faults. length faults ≡ length ds) (AreFaults nodes) _ (each (next_fault nodes) [] ds)
    (λ faults count all. (all, omega (arith, count, few))) (list_counts (next_fault nodes) ds)
    (each_holds (AreFaults nodes) (next_fault nodes) (next_fault_valid nodes) [] ds (record { valid = refl; distinct = refl })))

-- ---- the schedule

turn_of_client_valid : (nodes : List ScriptNode) (count : ℕ) (digits : List ℕ) → IfOk (turn_of_client count digits) (λ t. is_turn nodes count t ≡ true)
turn_of_client_valid nodes count digits =
    if_either _ (is_decimal digits) _ _ (if_tested _ (nat_lt (number_of digits) count) (turn.Client (number_of digits)) (bad Reference) (λ less. less) tt) tt

node_turn_valid : (nodes : List ScriptNode) (count : ℕ) (name : List ℕ) (found : Option ScriptNode) → find_node nodes name ≡ found → IfOk (node_turn found) (λ t. is_turn nodes count t ≡ true)
node_turn_valid nodes count name None e = tt
node_turn_valid nodes count name (Some node) e = is_node_found nodes name node e

named_turn_valid : (nodes : List ScriptNode) (count : ℕ) (rest : List ℕ) → IfOk (named_turn nodes rest) (λ t. is_turn nodes count t ≡ true)
named_turn_valid nodes count [] = tt
named_turn_valid nodes count (b ∷ name) = if_either _ (b == 0x3A) _ _ (node_turn_valid nodes count name (find_node nodes name) refl) tt

turn_of_master_valid : (nodes : List ScriptNode) (count : ℕ) (rest : List ℕ) → IfOk (turn_of_master rest) (λ t. is_turn nodes count t ≡ true)
turn_of_master_valid nodes count [] = refl
turn_of_master_valid nodes count (_ ∷ _) = tt

turn_by : (nodes : List ScriptNode) (count : ℕ) (text : List ℕ) → IfOk (turn_in nodes count text) (λ t. is_turn nodes count t ≡ true)
turn_by nodes count [] = tt
turn_by nodes count (b ∷ rest) =
    if_either _ (b == 0x6D) _ _ (turn_of_master_valid nodes count rest)
    (if_either _ (b == 0x63) _ _ (turn_of_client_valid nodes count rest)
    (if_either _ (b == 0x6E) _ _ (named_turn_valid nodes count rest) tt))

turns_push : (nodes : List ScriptNode) (count : ℕ) (before : List ScriptTurn) (t : ScriptTurn) → list_all (is_turn nodes count) before ≡ true → is_turn nodes count t ≡ true
    → list_all (is_turn nodes count) (before ++ t ∷ []) ≡ true
turns_push nodes count before t all valid = list_all-append (is_turn nodes count) before (t ∷ []) ∙ both_true all (both_true valid refl)

next_turn_valid : (nodes : List ScriptNode) (count : ℕ) (before : List ScriptTurn) (d : Data) → list_all (is_turn nodes count) before ≡ true
    → IfOk (next_turn nodes count before d) (λ t. list_all (is_turn nodes count) (before ++ t ∷ []) ≡ true)
unfolding turn_of
next_turn_valid nodes count before d all = then_any _ (text_of d) _ (λ text. if_weaker (λ t. is_turn nodes count t ≡ true) _ (turn_in nodes count text) (λ t valid. turns_push nodes count before t all valid) (turn_by nodes count text))

abbrev FewTurns : List ScriptNode → ℕ → List ScriptTurn → Type 0
FewTurns nodes count turns = (list_all (is_turn nodes count) turns ≡ true) × (length turns ≤ 65536)

schedule_valid : (nodes : List ScriptNode) (count : ℕ) (d : Data) → IfOk (schedule_of nodes count d) (FewTurns nodes count)
schedule_valid nodes count d =
    if_then (λ ds. length ds ≤ 65536) _ (short_list 65536 Schedule d) _ (if_short 65536 Schedule d)
    (λ ds few. if_both (λ turns. length turns ≡ length ds) (λ turns. list_all (is_turn nodes count) turns ≡ true) _ (each (next_turn nodes count) [] ds)
    (λ turns long all. (all, omega (arith, long, few))) (list_counts (next_turn nodes count) ds)
    (each_holds (λ turns. list_all (is_turn nodes count) turns ≡ true) (next_turn nodes count) (next_turn_valid nodes count) [] ds refl))

-- ---- the whole

abbrev FewQueues : List QueueSpec → Type 0
FewQueues queues = AreNamed queue_name queues × (length queues ≤ 64)

version_valid : (d : Data) → IfOk (version_of d) (λ version. version ≡ 1)
version_valid d = then_any _ (whole_of d) _ (λ version. if_tested _ (version == 1) version (bad Version) (λ e. eqb-true version 1 e) tt)

parts_valid : (d : Data) → IfOk (parts_of d) AreParts
unfolding parts_of
parts_valid d =
    then_any _ (check_members script_members d) _ (λ _.
    if_then (λ version. version ≡ 1) _ (required (codes "version") version_of d) _ (if_required _ (codes "version") version_of d version_valid) (λ version one.
    if_then (λ name. is_name name ≡ true) _ (required (codes "cluster") name_of d) _ (if_required _ (codes "cluster") name_of d name_valid) (λ cluster named.
    if_then AreNodes _ (required (codes "nodes") nodes_of d) _ (if_required AreNodes (codes "nodes") nodes_of d nodes_valid) (λ nodes led.
    if_then FewQueues _ (required (codes "queues") queues_of d) _ (if_required FewQueues (codes "queues") queues_of d queues_valid) (λ queues few.
    if_then (FewClients nodes queues) _ (required (codes "clients") (clients_of nodes queues) d) _ (if_required (FewClients nodes queues) (codes "clients") (clients_of nodes queues) d (clients_valid nodes queues)) (λ clients all.
    if_then (FewFaults nodes) _ (optional (codes "faults") [] (faults_of nodes) d) _
    (if_optional (FewFaults nodes) (codes "faults") [] (faults_of nodes) d (record { valid = refl; distinct = refl }, omega arith) (faults_valid nodes)) (λ faults apart.
    if_then (FewTurns nodes (length clients)) _ (optional (codes "schedule") [] (schedule_of nodes (length clients)) d) _
    (if_optional (FewTurns nodes (length clients)) (codes "schedule") [] (schedule_of nodes (length clients)) d (refl, omega arith) (schedule_valid nodes (length clients))) (λ schedule turns.
    record {
      version = one;
      cluster = named;
      nodes = led;
      queues = few.0;
      queues_limit = few.1;
      clients_limit = all.1;
      clients = all.0;
      faults_limit = apart.1;
      faults = apart.0;
      schedule_limit = turns.1;
      schedule = turns.0;
    }))))))))

abbrev pub IsReady : Script → Type 0
IsReady script = IsScript script × IsBuilt script

whole_valid : (d : Data) → IfOk (whole_script d) IsReady
unfolding whole_script
whole_valid d =
    if_then IsScript _ (parts_of d >>= check_work) check_built
    (if_then AreParts _ (parts_of d) check_work (parts_valid d) (λ script parts. if_tested IsScript (is_workable script) script (over Work) (λ work. script_is_valid script parts work) tt))
    (λ script valid. if_tested IsReady (is_built script) script (bad NotBuilt) (λ built. (valid, built)) tt)

refused_or : (read : Result Script Misfit) → IfOk read IsReady → IfOk (script_or_refusal read) IsReady
refused_or (Ok script) ready = ready
refused_or (Err m) ready = tt

data_valid : (found : Option Data) → IfOk (script_of_data found) IsReady
data_valid None = tt
data_valid (Some d) = refused_or (whole_script d) (whole_valid d)

script_valid : (bytes : List ℕ) → IfOk (script_of bytes) IsReady
unfolding script_of
script_valid bytes = data_valid (data_of bytes)

pub read_valid : (bytes : List ℕ) (script : Script) → script_of bytes ≡ Ok script → IsReady script
read_valid bytes script e = subst (λ (r : Result Script ScriptRefusal). IfOk r IsReady) e (script_valid bytes)

pub whole_read : (d : Data) (script : Script) → whole_script d ≡ Ok script → IsReady script
whole_read d script e = subst (λ (r : Result Script Misfit). IfOk r IsReady) e (whole_valid d)

pub parts_read : (d : Data) (script : Script) → parts_of d ≡ Ok script → AreParts script
parts_read d script e = subst (λ (r : Result Script Misfit). IfOk r AreParts) e (parts_valid d)
