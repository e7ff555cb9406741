-- When a script is valid: every name, reference, range and limit of the script's form. Layers above have it as a
-- condition. All of it is this project's own.
use Rattle.std.specs.Prelude.{◌≡◌, ℕ, ◌*◌, ◌≤◌, Bool, true, false, not, ◌==◌, ◌&&◌, List, [], ◌∷◌, length, map, nat_lt, bytes_eq, IsTrue, count_by, flat_map}
use Rattle.std.specs.List.{list_all, list_any}
use Rattle.meta_state.specs.declared.looks.Look.TheVariants.{Alias}
use Rattle.scripts.specs.declared.faults.Fault.{Fault}
use Rattle.scripts.specs.declared.whole_script.Script.{Script}
use Rattle.scripts.specs.declared.whole_script.ScriptNode.{ScriptNode}
use Rattle.scripts.specs.declared.whole_script.ScriptTurn.{ScriptTurn}
use Rattle.scripts.specs.declared.whole_script.ScriptTurn.TheVariants as turn
use Rattle.scripts.specs.declared.steps.Step.{Step}
use Rattle.scripts.specs.declared.steps.Step.TheVariants as step
use Rattle.scripts.specs.Names.{are_distinct, is_name}
use Rattle.scripts.specs.ValidSteps.{is_between, is_client, is_node_among}

-- ---- faults and turns

-- the first node is the master, which no fault names
abbrev pub is_master : List ScriptNode → List ℕ → Bool
is_master [] name = false
is_master (node ∷ _) name = bytes_eq name node.name

abbrev pub is_fault : List ScriptNode → Fault → Bool
is_fault nodes fault = is_node_among nodes fault.node && (not (is_master nodes fault.node) && is_between 1 4294967295 fault.publication)

-- no publication to a node has two faults
abbrev pub are_faults_distinct : List Fault → Bool
are_faults_distinct [] = true
are_faults_distinct (fault ∷ faults) =
    not (list_any (λ f. bytes_eq fault.node f.node && (fault.publication == f.publication)) faults) && are_faults_distinct faults

-- a turn of the master, of one of so many clients, or of one of these nodes
abbrev pub is_turn : List ScriptNode → ℕ → ScriptTurn → Bool
is_turn nodes clients turn.Master = true
is_turn nodes clients (turn.Client client) = nat_lt client clients
is_turn nodes clients (turn.Node name) = is_node_among nodes name

-- ---- the whole

abbrev pub node_names : Script → List (List ℕ)
node_names script = map (λ n. n.name) script.nodes

-- whether a name is that of a node of the script
abbrev pub is_node : Script → List ℕ → Bool
is_node script name = is_node_among script.nodes name

abbrev pub all_steps : Script → List Step
all_steps script = flat_map (λ steps. steps) script.clients

abbrev pub is_submit : Step → Bool
is_submit (step.Submit queue task timeout ack) = true
is_submit _ = false

abbrev pub is_close : Step → Bool
is_close step.Close = true
is_close _ = false

-- a look at an alias
abbrev pub is_alias_read : Step → Bool
is_alias_read (step.Read node (Alias alias)) = true
is_alias_read _ = false

abbrev pub submits : Script → ℕ
submits script = count_by is_submit (all_steps script)

abbrev pub alias_reads : Script → ℕ
alias_reads script = count_by is_alias_read (all_steps script)

-- the first node is the master: it can vote, and is in the first state
abbrev pub has_master : List ScriptNode → Bool
has_master [] = false
has_master (node ∷ _) = node.eligible && node.member

pub record IsScript (script : Script) : Type 0 where
  pub version : script.version ≡ 1
  pub cluster : IsTrue (is_name script.cluster)
  pub nodes_limit : length script.nodes ≤ 30
  pub nodes_named : IsTrue (list_all (λ n. is_name n.name) script.nodes)
  pub nodes_distinct : IsTrue (are_distinct (node_names script))
  pub master : IsTrue (has_master script.nodes)
  pub queues_limit : length script.queues ≤ 64
  pub queues_named : IsTrue (list_all (λ q. is_name q.name) script.queues)
  pub queues_distinct : IsTrue (are_distinct (map (λ q. q.name) script.queues))
  pub clients_limit : length script.clients ≤ 32
  pub clients : IsTrue (list_all (is_client script.nodes script.queues) script.clients)
  pub one_close : count_by is_close (all_steps script) ≤ 1
  pub faults_limit : length script.faults ≤ 1024
  pub faults : IsTrue (list_all (is_fault script.nodes) script.faults)
  pub faults_distinct : IsTrue (are_faults_distinct script.faults)
  pub schedule_limit : length script.schedule ≤ 65536
  pub schedule : IsTrue (list_all (is_turn script.nodes (length script.clients)) script.schedule)
  pub work_of_publications : submits script * submits script * length script.nodes ≤ 8000000
  pub work_of_reads : submits script * alias_reads script ≤ 4000000
