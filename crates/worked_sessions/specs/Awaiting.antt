-- A session whose client awaits a task and a watch before it closes, to check by it that neither may then be closed: one
-- node, one client, one batch. It is this project's own.
use Rattle.std.specs.Prelude.{ℕ, [], ◌∷◌, None, codes}
use Rattle.meta_state.specs.declared.predicates.Pred.TheVariants as pred
use Rattle.meta_state.specs.declared.cluster_state.ClusterState.{ClusterState}
use Rattle.session_law.specs.declared.task_ends.TaskEnd.TheVariants as end
use Rattle.executors.specs.declared.kinds.Kind.TheVariants as kind
use Rattle.scripts.specs.declared.queues.Priority.TheVariants as priority
use Rattle.scripts.specs.declared.whole_script.Script.{Script}
use Rattle.scripts.specs.declared.steps.Goal.TheVariants as goal
use Rattle.scripts.specs.declared.steps.Step.TheVariants as step
use Rattle.session_law.specs.declared.batches.BatchResult.TheVariants as result
use Rattle.session_law.specs.declared.sessions.Session.{Session}
use Rattle.session_law.specs.declared.watches.Watch.{Watch}
use Rattle.session_law.specs.declared.watches.WatchEnd.{WatchEnd}
use Rattle.session_law.specs.declared.watches.WatchEnd.TheVariants as watch
use Rattle.worked_sessions.specs.Stopped.{part_of}
use Rattle.worked_sessions.specs.Troubled.{batch_of_one, told}
use Rattle.worked_sessions.specs.Worked.{creating, made_index, making, member, plain_node}

-- client 0 makes `a` and awaits it, watches n0 for it and awaits that, and closes what waits
abbrev pub awaiting_script : Script
awaiting_script = record {
  version = 1;
  cluster = codes "demo";
  nodes = member (codes "n0") ∷ [];
  queues = record { name = codes "make"; executor = kind.CreateIndex; priority = priority.Normal } ∷ [];
  clients =
      (step.Submit 0 (making (codes "a")) None None ∷
      step.Await 0 goal.Task ∷
      step.Watch (codes "n0") (pred.Index (codes "a")) [] 100 ∷
      step.Await 2 goal.Watch ∷
      step.Close ∷ []) ∷ [];
  faults = [];
  schedule = [];
}

-- a watch that begins at a place and is shown one state
abbrev pub one_shown : ℕ → WatchEnd → Watch
one_shown place end = part_of 0 2 0 2 None place 1 end

-- the state of a version, without indices
abbrev pub lone_state : ℕ → ClusterState
lone_state version = record {
  cluster = codes "demo";
  id = version;
  term = 1;
  version = version;
  master = codes "n0";
  nodes = (codes "n0", plain_node (codes "n0")) ∷ [];
  metadata = record { version = version; created = 0; settings = []; indices = [] };
}

abbrev pub awaiting_session : Session
awaiting_session = record {
  batches = batch_of_one (codes "make") 0 (record { client = 0; step = 0; seen = 0 }) (result.Published 2 2 1 1 0 1) ∷ [];
  replies = told 0 0 0 (end.Ok 2) ∷ [];
  acks = [];
  watches = one_shown 1 (watch.Answered 2) ∷ [];
  reads = [];
  nodes = record {
    node = codes "n0";
    handed = 2 ∷ [];
    first = 1;
    applies = creating 1 2 (codes "a") ∷ [];
    view = record { aliases = []; indices = (codes "a", 1) ∷ []; settings = [] };
  } ∷ [];
  last = record (lone_state 2) { metadata = record { version = 2; created = 1; settings = []; indices = (codes "a", made_index 1) ∷ [] } };
}

-- ---- the same session with one thing changed, so that it breaks one rule at least

-- the watch that the client awaited before it closed is closed
abbrev pub closing_an_awaited_watch : Session
closing_an_awaited_watch = record awaiting_session { watches = one_shown 1 (watch.Closed 0 4) ∷ [] }

-- the task that the client awaited before it closed is closed: nothing ran, and the watch timed out
abbrev pub closing_an_awaited_task : Session
closing_an_awaited_task = record {
  batches = [];
  replies = told 0 0 0 (end.Closed 0 4) ∷ [];
  acks = [];
  watches = one_shown 0 (watch.Timeout 102 102) ∷ [];
  reads = [];
  nodes = record {
    node = codes "n0";
    handed = [];
    first = 1;
    applies = [];
    view = record { aliases = []; indices = []; settings = [] };
  } ∷ [];
  last = lone_state 1;
}
