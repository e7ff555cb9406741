-- A small session of a small script, to check the eight rules by: two nodes, two clients, two batches. It is this
-- project's own.
use Rattle.std.specs.Prelude.{ℕ, true, List, [], ◌∷◌, Some, None, codes}
use Rattle.meta_state.specs.declared.index_metadata.IndexMetadata.{IndexMetadata}
use Rattle.meta_state.specs.declared.looks.Found.TheVariants as found
use Rattle.meta_state.specs.declared.looks.Look.TheVariants as look
use Rattle.meta_state.specs.declared.node_info.NodeInfo.{NodeInfo}
use Rattle.meta_state.specs.declared.predicates.Pred.TheVariants as pred
use Rattle.meta_state.specs.declared.cluster_state.ClusterState.{ClusterState}
use Rattle.session_law.specs.declared.task_ends.TaskEnd.TheVariants as end
use Rattle.executors.specs.declared.kinds.Kind.TheVariants as kind
use Rattle.scripts.specs.declared.queues.Priority.TheVariants as priority
use Rattle.scripts.specs.declared.whole_script.Script.{Script}
use Rattle.scripts.specs.declared.whole_script.ScriptNode.{ScriptNode}
use Rattle.scripts.specs.declared.steps.Goal.TheVariants as goal
use Rattle.scripts.specs.declared.steps.Step.TheVariants as step
use Rattle.executors.specs.declared.tasks.Task.{Task}
use Rattle.executors.specs.declared.tasks.Task.TheVariants as task
use Rattle.session_law.specs.declared.batches.Batch.{Batch}
use Rattle.session_law.specs.declared.batches.BatchResult.TheVariants as result
use Rattle.session_law.specs.declared.node_records.Apply.{Apply}
use Rattle.session_law.specs.declared.node_records.ApplyEnd.TheVariants as applied
use Rattle.session_law.specs.declared.node_records.NodeRec.{NodeRec}
use Rattle.session_law.specs.declared.replies.AckEnd.TheVariants as ack
use Rattle.session_law.specs.declared.sessions.Session.{Session}
use Rattle.session_law.specs.declared.watches.Watch.{Watch}
use Rattle.session_law.specs.declared.watches.WatchEnd.TheVariants as watch

-- ---- the script

abbrev pub member : List ℕ → ScriptNode
member name = record { name = name; eligible = true; member = true }

abbrev pub making : List ℕ → Task
making index = task.CreateIndex index 1 1

-- client 0 makes `a` and awaits that all nodes have it, makes `b`, looks at `a` on n1 and watches n1 for it; client 1
-- watches n0 for `b`
abbrev pub worked_script : Script
worked_script = record {
  version = 1;
  cluster = codes "demo";
  nodes = member (codes "n0") ∷ member (codes "n1") ∷ [];
  queues = record { name = codes "make"; executor = kind.CreateIndex; priority = priority.Normal } ∷ [];
  clients =
      (step.Submit 0 (making (codes "a")) None (Some (record { nodes = None; timeout = None })) ∷
      step.Await 0 goal.Ack ∷
      step.Submit 0 (making (codes "b")) None None ∷
      step.Read (codes "n1") (look.Index (codes "a")) ∷
      step.Watch (codes "n1") (pred.Index (codes "a")) [] 100 ∷ []) ∷
      (step.Watch (codes "n0") (pred.Index (codes "b")) [] 100 ∷ []) ∷ [];
  faults = [];
  schedule = [];
}

-- ---- the session

abbrev pub one_task : ℕ → ℕ → ℕ → Batch
one_task step seen version = record {
  queue = codes "make";
  at = 0;
  entries = record { client = 0; step = step; seen = seen } ∷ [];
  result = result.Published version version 0 2 0 2;
}

abbrev pub made_index : ℕ → IndexMetadata
made_index id = record { id = id; version = 1; settings_version = 1; aliases_version = 1; opened = true; shards = 1; replicas = 1; aliases = [] }

abbrev pub plain_node : List ℕ → NodeInfo
plain_node name = record { name = name; eligible = true }

abbrev pub worked_state : ClusterState
worked_state = record {
  cluster = codes "demo";
  id = 3;
  term = 1;
  version = 3;
  master = codes "n0";
  nodes = (codes "n0", plain_node (codes "n0")) ∷ (codes "n1", plain_node (codes "n1")) ∷ [];
  metadata = record {
    version = 3;
    created = 2;
    settings = [];
    indices = (codes "a", made_index 1) ∷ (codes "b", made_index 2) ∷ [];
  };
}

-- an apply whose change is one new index
abbrev pub creating : ℕ → ℕ → List ℕ → Apply
creating old new index = record {
  from = old;
  to = new;
  end = applied.Applied old old old new (record { created = index ∷ []; deleted = []; changed = []; joined = []; left = []; settings = [] });
}

abbrev pub worked_node : List ℕ → NodeRec
worked_node name = record {
  node = name;
  handed = 2 ∷ 3 ∷ [];
  first = 1;
  applies = creating 1 2 (codes "a") ∷ creating 2 3 (codes "b") ∷ [];
  view = record { aliases = []; indices = (codes "a", 1) ∷ (codes "b", 2) ∷ []; settings = [] };
}

-- the first part of a watch that was answered
abbrev pub answered_watch : ℕ → ℕ → ℕ → ℕ → ℕ → Watch
answered_watch client step place shown version = record {
  client = client;
  step = step;
  part = 0;
  at = 0;
  last = None;
  place = place;
  shown = shown;
  end = watch.Answered version;
}

abbrev pub worked_session : Session
worked_session = record {
  batches = one_task 0 0 2 ∷ one_task 2 1 3 ∷ [];
  replies =
      record { client = 0; step = 0; at = 0; end = end.Ok 2 } ∷
      record { client = 0; step = 2; at = 0; end = end.Ok 3 } ∷ [];
  acks = record { client = 0; step = 0; end = ack.All } ∷ [];
  watches = answered_watch 0 4 2 1 3 ∷ answered_watch 1 0 0 3 3 ∷ [];
  reads = record { client = 0; step = 3; version = 3; found = found.Index 1 true 1 1 } ∷ [];
  nodes = worked_node (codes "n0") ∷ worked_node (codes "n1") ∷ [];
  last = worked_state;
}

-- ---- the same session with one thing changed, so that it breaks one rule at least

-- a version is left out
abbrev pub skipping_a_version : Session
skipping_a_version = record worked_session { batches = one_task 0 0 2 ∷ one_task 2 1 4 ∷ [] }

-- a task's client hadn't seen what it awaited
abbrev pub seeing_nothing : Session
seeing_nothing = record worked_session { batches = one_task 0 0 2 ∷ one_task 2 0 3 ∷ [] }

-- a task has no reply
abbrev pub leaving_a_task : Session
leaving_a_task = record worked_session { replies = record { client = 0; step = 0; at = 0; end = end.Ok 2 } ∷ [] }

-- an acknowledgement is missing
abbrev pub leaving_the_ack : Session
leaving_the_ack = record worked_session { acks = [] }

-- a required node is said not to have applied
abbrev pub failing_the_ack : Session
failing_the_ack = record worked_session { acks = record { client = 0; step = 0; end = ack.Failed 1 } ∷ [] }

-- a watch is answered by a state that doesn't hit it
abbrev pub answering_early : Session
answering_early = record worked_session { watches = answered_watch 0 4 2 1 3 ∷ answered_watch 1 0 0 2 2 ∷ [] }

-- a watch begins at a state older than its client knows
abbrev pub beginning_early : Session
beginning_early = record worked_session { watches = answered_watch 0 4 0 2 2 ∷ answered_watch 1 0 0 3 3 ∷ [] }

-- a read is of a version older than the client knows
abbrev pub reading_the_first_state : Session
reading_the_first_state = record worked_session { reads = record { client = 0; step = 3; version = 1; found = found.Missing } ∷ [] }

-- a node has no record
abbrev pub leaving_a_node : Session
leaving_a_node = record worked_session { nodes = worked_node (codes "n0") ∷ [] }

-- the replies stand in another order
abbrev pub turning_the_replies : Session
turning_the_replies = record worked_session {
  replies =
      record { client = 0; step = 2; at = 0; end = end.Ok 3 } ∷
      record { client = 0; step = 0; at = 0; end = end.Ok 2 } ∷ [];
}
