-- A session with timeouts and a close step, to check the eight rules by: two nodes, two clients, two batches. A watch is
-- answered in both its parts, and continued by a step that is closed; another watch and a task time out; and a task that
-- waits, a watch that waits, and a task and a watch that come after the close step are closed. It is this project's own.
use Rattle.std.specs.Prelude.{ℕ, ◌+◌, List, [], ◌∷◌, ◌++◌, Option, Some, None, codes}
use Rattle.meta_state.specs.declared.looks.Found.{Found}
use Rattle.meta_state.specs.declared.looks.Found.TheVariants as found
use Rattle.meta_state.specs.declared.looks.Look.TheVariants as look
use Rattle.meta_state.specs.declared.predicates.Pred.TheVariants as pred
use Rattle.meta_state.specs.declared.cluster_state.ClusterState.{ClusterState}
use Rattle.session_law.specs.declared.task_ends.TaskEnd.{TaskEnd}
use Rattle.session_law.specs.declared.task_ends.TaskEnd.TheVariants as end
use Rattle.executors.specs.declared.kinds.Kind.TheVariants as kind
use Rattle.scripts.specs.declared.queues.Priority.TheVariants as priority
use Rattle.scripts.specs.declared.whole_script.Script.{Script}
use Rattle.scripts.specs.declared.steps.Step.{Step}
use Rattle.scripts.specs.declared.steps.Step.TheVariants as step
use Rattle.executors.specs.declared.tasks.Task.TheVariants as task
use Rattle.session_law.specs.declared.batches.Batch.{Batch}
use Rattle.session_law.specs.declared.batches.BatchResult.TheVariants as result
use Rattle.session_law.specs.declared.reads.Read.{Read}
use Rattle.session_law.specs.declared.node_records.Apply.{Apply}
use Rattle.session_law.specs.declared.node_records.ApplyEnd.TheVariants as applied
use Rattle.session_law.specs.declared.node_records.NodeRec.{NodeRec}
use Rattle.session_law.specs.declared.replies.Reply.{Reply}
use Rattle.session_law.specs.declared.sessions.Session.{Session}
use Rattle.session_law.specs.declared.watches.Watch.{Watch}
use Rattle.session_law.specs.declared.watches.WatchEnd.{WatchEnd}
use Rattle.session_law.specs.declared.watches.WatchEnd.TheVariants as watch
use Rattle.worked_sessions.specs.Troubled.{batch_of_one, told}
use Rattle.worked_sessions.specs.Worked.{creating, made_index, making, member, worked_state}

-- ---- the script

-- it makes `a`, and `b` if that takes no more than 10 ms; watches n1 for `a` and then for the setting `k`, and on from
-- there for `c`; watches n0 for `b`; and looks at the setting on n1
abbrev pub watching_client : List Step
watching_client =
    step.Submit 0 (making (codes "a")) None None ∷
    step.Submit 0 (making (codes "b")) (Some 10) None ∷
    step.Watch (codes "n1") (pred.Index (codes "a")) (pred.Setting (codes "k") (codes "v") ∷ []) 100 ∷
    step.Next 2 (pred.Index (codes "c")) [] 50 ∷
    step.Watch (codes "n0") (pred.Index (codes "b")) [] 20 ∷
    step.Read (codes "n1") (look.Setting (codes "k")) ∷ []

-- it gives the setting `k` the value `v`, makes `c` and watches n0 for it, closes what waits, and then makes `d` and
-- watches n0 for `c` again
abbrev pub closing_client : List Step
closing_client =
    step.Submit 1 (task.ClusterSetting (codes "k") (Some (codes "v"))) None None ∷
    step.Submit 0 (making (codes "c")) None None ∷
    step.Watch (codes "n0") (pred.Index (codes "c")) [] 100 ∷
    step.Close ∷
    step.Submit 0 (making (codes "d")) None None ∷
    step.Watch (codes "n0") (pred.Index (codes "c")) [] 100 ∷ []

abbrev pub stopped_script : Script
stopped_script = record {
  version = 1;
  cluster = codes "demo";
  nodes = member (codes "n0") ∷ member (codes "n1") ∷ [];
  queues =
      record { name = codes "make"; executor = kind.CreateIndex; priority = priority.Normal } ∷
      record { name = codes "set"; executor = kind.ClusterSettings; priority = priority.Normal } ∷ [];
  clients = watching_client ∷ closing_client ∷ [];
  faults = [];
  schedule = [];
}

-- ---- the session

-- batches whose states both nodes accept by a diff
abbrev pub published_batch : List ℕ → ℕ → ℕ → ℕ → ℕ → Batch
published_batch queue at client step version =
    batch_of_one queue at (record { client = client; step = step; seen = 0 }) (result.Published version version (at + 1) 2 0 2)

abbrev pub stopped_batches : List Batch
stopped_batches = published_batch (codes "make") 0 0 0 2 ∷ published_batch (codes "set") 2 1 0 3 ∷ []

-- the replies, by how the task with a timeout and that after the close step ended
abbrev pub stopped_replies : TaskEnd → TaskEnd → List Reply
stopped_replies timed last =
    told 0 0 0 (end.Ok 2) ∷
    told 0 1 1 timed ∷
    told 1 0 1 (end.Ok 3) ∷
    told 1 1 3 (end.Closed 1 3) ∷
    told 1 4 6 last ∷ []

-- a part of a watch, by its step and number, when it began and behind which version, its place and the states shown, and
-- its end
abbrev pub part_of : ℕ → ℕ → ℕ → ℕ → Option ℕ → ℕ → ℕ → WatchEnd → Watch
part_of client step part at last place shown end = record {
  client = client;
  step = step;
  part = part;
  at = at;
  last = last;
  place = place;
  shown = shown;
  end = end;
}

abbrev pub answered_part : Watch
answered_part = part_of 0 2 0 1 None 0 2 (watch.Answered 2)

abbrev pub second_part : Watch
second_part = part_of 0 2 1 1 (Some 2) 1 2 (watch.Answered 3)

abbrev pub continuing_part : Watch
continuing_part = part_of 0 3 0 4 (Some 3) 2 1 (watch.Closed 1 3)

abbrev pub timed_part : Watch
timed_part = part_of 0 4 0 5 None 0 3 (watch.Timeout 25 30)

abbrev pub waiting_part : Watch
waiting_part = part_of 1 2 0 3 None 1 2 (watch.Closed 1 3)

abbrev pub late_part : Watch
late_part = part_of 1 5 0 6 None 2 1 (watch.Closed 1 3)

abbrev pub looking : ℕ → Found → List Read
looking version found = record { client = 0; step = 5; version = version; found = found } ∷ []

-- an apply whose change is one setting
abbrev pub setting : ℕ → ℕ → List ℕ → Apply
setting old new key = record {
  from = old;
  to = new;
  end = applied.Applied old old old new (record { created = []; deleted = []; changed = []; joined = []; left = []; settings = key ∷ [] });
}

abbrev pub set_node : List ℕ → NodeRec
set_node name = record {
  node = name;
  handed = 2 ∷ 3 ∷ [];
  first = 1;
  applies = creating 1 2 (codes "a") ∷ setting 2 3 (codes "k") ∷ [];
  view = record { aliases = []; indices = (codes "a", 1) ∷ []; settings = (codes "k", codes "v") ∷ [] };
}

abbrev pub set_state : ClusterState
set_state = record worked_state {
  metadata = record {
    version = 3;
    created = 1;
    settings = (codes "k", codes "v") ∷ [];
    indices = (codes "a", made_index 1) ∷ [];
  };
}

abbrev pub stopped_session : Session
stopped_session = record {
  batches = stopped_batches;
  replies = stopped_replies (end.Timeout 11 12) (end.Closed 1 3);
  acks = [];
  watches = answered_part ∷ second_part ∷ continuing_part ∷ timed_part ∷ waiting_part ∷ late_part ∷ [];
  reads = looking 3 (found.Value (codes "v"));
  nodes = set_node (codes "n0") ∷ set_node (codes "n1") ∷ [];
  last = set_state;
}

-- ---- the same session, but for what the rules leave open

-- a watch times out as it is shown a state that hits it, is continued from there, and tells its client nothing of its
-- node; and the close step ends the task that timed out
abbrev pub timing_out_on_a_hit : Session
timing_out_on_a_hit = record stopped_session {
  replies = stopped_replies (end.Closed 1 3) (end.Closed 1 3);
  watches =
      record answered_part { end = watch.Timeout 101 101 } ∷
      record continuing_part { last = Some 2; place = 1; shown = 2 } ∷
      timed_part ∷ waiting_part ∷ late_part ∷ [];
  reads = looking 2 found.Missing;
}

-- ---- the same session with one thing changed, so that it breaks one rule at least

-- a task times out before its deadline
abbrev pub timing_out_early : Session
timing_out_early = record stopped_session { replies = stopped_replies (end.Timeout 11 10) (end.Closed 1 3) }

-- a second part begins one place behind the state that answered the first
abbrev pub beginning_a_place_late : Session
beginning_a_place_late = record stopped_session {
  watches = answered_part ∷ record second_part { place = 2; shown = 1 } ∷ continuing_part ∷ timed_part ∷ waiting_part ∷ late_part ∷ [];
}

-- a second part is left out
abbrev pub leaving_the_second_part : Session
leaving_the_second_part = record stopped_session {
  watches = answered_part ∷ record continuing_part { last = Some 2 } ∷ timed_part ∷ waiting_part ∷ late_part ∷ [];
}

-- a watch is continued as if it had been shown nothing
abbrev pub continuing_from_nothing : Session
continuing_from_nothing = record stopped_session {
  watches = answered_part ∷ second_part ∷ record continuing_part { last = None } ∷ timed_part ∷ waiting_part ∷ late_part ∷ [];
}

-- a watch times out before its deadline
abbrev pub watching_too_short : Session
watching_too_short = record stopped_session {
  watches = answered_part ∷ second_part ∷ continuing_part ∷ record timed_part { end = watch.Timeout 25 24 } ∷ waiting_part ∷ late_part ∷ [];
}

-- a watch is closed by a step that closes nothing
abbrev pub closing_by_another_step : Session
closing_by_another_step = record stopped_session {
  watches = answered_part ∷ second_part ∷ continuing_part ∷ timed_part ∷ record waiting_part { end = watch.Closed 1 4 } ∷ late_part ∷ [];
}

-- a watch that began after the close step is shown two states
abbrev pub showing_after_the_close : Session
showing_after_the_close = record stopped_session {
  watches = answered_part ∷ second_part ∷ continuing_part ∷ timed_part ∷ waiting_part ∷ record late_part { place = 1; shown = 2 } ∷ [];
}

-- a client reads a state older than the one that answered the watch which it continued
abbrev pub reading_behind_the_watch : Session
reading_behind_the_watch = record stopped_session { reads = looking 2 found.Missing }

-- ---- the same session with one batch more, of a task that makes an index at 12

abbrev pub later_node : List ℕ → List ℕ → NodeRec
later_node index name = record (set_node name) {
  handed = 2 ∷ 3 ∷ 4 ∷ [];
  applies = creating 1 2 (codes "a") ∷ setting 2 3 (codes "k") ∷ creating 3 4 index ∷ [];
  view = record { aliases = []; indices = (codes "a", 1) ∷ (index, 2) ∷ []; settings = (codes "k", codes "v") ∷ [] };
}

abbrev pub later_state : List ℕ → ClusterState
later_state index = record set_state {
  id = 4;
  version = 4;
  metadata = record set_state.metadata {
    version = 4;
    created = 2;
    indices = (codes "a", made_index 1) ∷ (index, made_index 2) ∷ [];
  };
}

abbrev pub running_too : ℕ → ℕ → List ℕ → List Reply → Session
running_too client step index replies = record stopped_session {
  batches = stopped_batches ++ published_batch (codes "make") 12 client step 4 ∷ [];
  replies = replies;
  nodes = later_node index (codes "n0") ∷ later_node index (codes "n1") ∷ [];
  last = later_state index;
}

-- a task that timed out runs too
abbrev pub running_what_timed_out : Session
running_what_timed_out = running_too 0 1 (codes "b") (stopped_replies (end.Timeout 11 12) (end.Closed 1 3))

-- a task that was submitted after the close step runs
abbrev pub running_after_the_close : Session
running_after_the_close = running_too 1 4 (codes "d") (stopped_replies (end.Timeout 11 12) (end.Ok 4))
