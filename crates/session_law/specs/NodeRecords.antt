-- What a node is handed, what it applies, and its record. A node is handed the commit of each state that it accepted,
-- but where its script lets the commit get lost, and applies each state that it is handed, but where its script lets it
-- fail (Elasticsearch's `ClusterApplierService`; the faults, and what the record keeps, are this project's own).
use Rattle.std.specs.Prelude.{ℕ, Bool, true, false, not, ◌&&◌, List, [], ◌∷◌, Option, Some, None, filter, find, is_some, map, option_map, unwrap_or, bytes_eq, if◌then◌else◌}
use Rattle.std.specs.List.{zip}
use Rattle.plain_data.specs.Pairs.{lookup}
use Rattle.meta_state.specs.declared.cluster_state.ClusterState.{ClusterState}
use Rattle.meta_state.specs.States.{zero_state}
use Rattle.scripts.specs.declared.faults.FaultKind.{FaultKind}
use Rattle.scripts.specs.declared.faults.FaultKind.TheVariants as fault
use Rattle.scripts.specs.declared.whole_script.Script.{Script}
use Rattle.scripts.specs.declared.whole_script.ScriptNode.{ScriptNode}
use Rattle.session_law.specs.declared.batches.Batch.{Batch}
use Rattle.session_law.specs.declared.node_records.Apply.{Apply}
use Rattle.session_law.specs.declared.node_records.ApplyEnd.TheVariants as end
use Rattle.session_law.specs.declared.node_records.NodeRec.{NodeRec}
use Rattle.session_law.specs.declared.worlds.World.{World}
use Rattle.session_law.specs.Changes.{change_between}
use Rattle.session_law.specs.Committed.{is_published}
use Rattle.session_law.specs.Histories.{SteppedBatch, history_of}
use Rattle.session_law.specs.Publications.{fault_at}
use Rattle.session_law.specs.Views.{views_of}
use Rattle.session_law.specs.Worlds.{first_state_of}

-- ---- handed

-- a commit that a node is handed: its state, and at which publication to this node
pub record Commit : Type 0 where
  pub state : ClusterState
  pub publication : ℕ

-- whether a node that may have a fault at a publication accepts the state and is handed its commit
abbrev pub is_handed_on : Option FaultKind → Bool
is_handed_on None = true
is_handed_on (Some fault.Apply) = true
is_handed_on (Some fault.LostCommit) = false
is_handed_on (Some fault.Unreachable) = false

-- how many publications were sent to a node, by the world
abbrev pub sent_to : Script → List ℕ → World → ℕ
sent_to script name world = unwrap_or (option_map (λ p. p.1.sent) (find (λ p. bytes_eq name p.0.name) (zip script.nodes world.nodes))) 0

-- whether a node is handed the commit of a batch: the batch was published, and the node is in its state and has no fault
-- that keeps it from it
abbrev pub is_handed : Script → List ℕ → SteppedBatch → Bool
is_handed script name s =
    is_published s.stepped.result &&
    (is_some (lookup name s.world.state.nodes) && is_handed_on (fault_at script.faults name (sent_to script name s.world)))

-- the commit of a batch, as a node is handed it
abbrev pub commit_to : Script → List ℕ → SteppedBatch → Commit
commit_to script name s = record { state = s.world.state; publication = sent_to script name s.world }

-- the commits that a node is handed, in order
abbrev pub commits_to : Script → List Batch → List ℕ → List Commit
commits_to script batches name = map (commit_to script name) (filter (is_handed script name) (history_of script batches))

abbrev pub handed_to : Script → List Batch → List ℕ → List ℕ
handed_to script batches name = map (λ c. c.state.version) (commits_to script batches name)

-- ---- applied

abbrev pub is_apply_fault : Option FaultKind → Bool
is_apply_fault (Some fault.Apply) = true
is_apply_fault _ = false

abbrev pub does_fail : Script → List ℕ → Commit → Bool
does_fail script name commit = is_apply_fault (fault_at script.faults name commit.publication)

abbrev pub first_of : Script → Option ScriptNode → ClusterState
first_of script None = zero_state script.cluster
first_of script (Some node) = if node.member then first_state_of script else zero_state script.cluster

-- the state that a node begins with
abbrev pub first_at : Script → List ℕ → ClusterState
first_at script name = first_of script (find (λ n. bytes_eq name n.name) script.nodes)

-- the states that a node has, one after the other
abbrev pub applied_states : Script → List Batch → List ℕ → List ClusterState
applied_states script batches name =
    first_at script name ∷ map (λ c. c.state) (filter (λ c. not (does_fail script name c)) (commits_to script batches name))

abbrev pub applied_by : Script → List Batch → List ℕ → List ℕ
applied_by script batches name = map (λ s. s.version) (applied_states script batches name)

-- ---- the record

abbrev pub failed_apply : ClusterState → ClusterState → Apply
failed_apply old new = record { from = old.version; to = new.version; end = end.Failed }

-- the appliers of high, normal and low priority run before the state is set, the listeners after it
abbrev pub apply_of : ClusterState → ClusterState → Apply
apply_of old new = record {
  from = old.version;
  to = new.version;
  end = end.Applied old.version old.version old.version new.version (change_between old new);
}

-- the applies of commits by a node that has a state
abbrev pub applies_from : Script → List ℕ → ClusterState → List Commit → List Apply
applies_from script name old [] = []
applies_from script name old (commit ∷ commits) =
    if does_fail script name commit
    then failed_apply old commit.state ∷ applies_from script name old commits
    else apply_of old commit.state ∷ applies_from script name commit.state commits

-- the last of an item and those after it
abbrev pub last_of : {A : Type 0} → A → List A → A
last_of item [] = item
last_of item (next ∷ more) = last_of next more

unfoldable pub node_record : Script → List Batch → ScriptNode → NodeRec
node_record script batches node = record {
  node = node.name;
  handed = handed_to script batches node.name;
  first = (first_at script node.name).version;
  applies = applies_from script node.name (first_at script node.name) (commits_to script batches node.name);
  view = views_of (last_of (zero_state script.cluster) (applied_states script batches node.name));
}
