-- A session with the other ends that tasks have, to check the eight rules by: two nodes, two clients, five batches. A node
-- joins, which is sent the whole state, and leaves again; a task is refused beside one that succeeds, a batch fails, and
-- another changes nothing; an acknowledgement is full, and one comes too late; and a watch is awaited. It is this
-- project's own.
use Rattle.std.specs.Prelude.{ℕ, true, false, List, [], ◌∷◌, Some, None, codes}
use Rattle.meta_state.specs.declared.looks.Found.{Found}
use Rattle.meta_state.specs.declared.looks.Found.TheVariants as found
use Rattle.meta_state.specs.declared.looks.Look.TheVariants as look
use Rattle.meta_state.specs.declared.predicates.Pred.TheVariants as pred
use Rattle.meta_state.specs.declared.cluster_state.ClusterState.{ClusterState}
use Rattle.session_law.specs.declared.task_ends.TaskEnd.{TaskEnd}
use Rattle.session_law.specs.declared.task_ends.TaskEnd.TheVariants as end
use Rattle.executors.specs.declared.kinds.Kind.TheVariants as kind
use Rattle.scripts.specs.declared.queues.Priority.TheVariants as priority
use Rattle.executors.specs.declared.refusals.TaskRefusal.TheVariants as refusal
use Rattle.scripts.specs.declared.whole_script.Script.{Script}
use Rattle.scripts.specs.declared.steps.Goal.TheVariants as goal
use Rattle.scripts.specs.declared.steps.Step.{Step}
use Rattle.scripts.specs.declared.steps.Step.TheVariants as step
use Rattle.executors.specs.declared.tasks.Task.TheVariants as task
use Rattle.session_law.specs.declared.batches.Batch.{Batch}
use Rattle.session_law.specs.declared.batches.BatchResult.{BatchResult}
use Rattle.session_law.specs.declared.batches.BatchResult.TheVariants as result
use Rattle.session_law.specs.declared.reads.Read.{Read}
use Rattle.session_law.specs.declared.node_records.Apply.{Apply}
use Rattle.session_law.specs.declared.node_records.ApplyEnd.TheVariants as applied
use Rattle.session_law.specs.declared.node_records.NodeRec.{NodeRec}
use Rattle.session_law.specs.declared.replies.AckEnd.{AckEnd}
use Rattle.session_law.specs.declared.replies.AckEnd.TheVariants as ack
use Rattle.session_law.specs.declared.replies.AckReply.{AckReply}
use Rattle.session_law.specs.declared.replies.Reply.{Reply}
use Rattle.session_law.specs.declared.sessions.Session.{Session}
use Rattle.session_law.specs.declared.watches.Watch.{Watch}
use Rattle.session_law.specs.declared.watches.WatchEnd.TheVariants as watch
use Rattle.worked_sessions.specs.Stopped.{part_of}
use Rattle.worked_sessions.specs.Troubled.{batch_of_one, told}
use Rattle.worked_sessions.specs.Worked.{creating, made_index, making, member, plain_node}

-- ---- the script

-- it looks at `a` on n1, lets n1 join and awaits that all nodes know, makes `a`, watches n1 for it and awaits the answer,
-- and looks at it again
abbrev pub joining_client : List Step
joining_client =
    step.Read (codes "n1") (look.Index (codes "a")) ∷
    step.Submit 1 (task.Join (plain_node (codes "n1"))) None (Some (record { nodes = None; timeout = None })) ∷
    step.Await 1 goal.Ack ∷
    step.Submit 0 (making (codes "a")) None None ∷
    step.Watch (codes "n1") (pred.Index (codes "a")) [] 100 ∷
    step.Await 4 goal.Watch ∷
    step.Read (codes "n1") (look.Index (codes "a")) ∷ []

-- it makes `a` too, gives an index that isn't there an alias, removes a setting that isn't there and awaits that, and lets
-- n1 leave
abbrev pub leaving_client : List Step
leaving_client =
    step.Submit 0 (making (codes "a")) None (Some (record { nodes = None; timeout = None })) ∷
    step.Submit 2 (task.Alias (codes "z") (codes "x") true) None None ∷
    step.Submit 3 (task.ClusterSetting (codes "k") None) None (Some (record { nodes = None; timeout = None })) ∷
    step.Await 2 goal.Ack ∷
    step.Submit 1 (task.Leave (codes "n1")) None (Some (record { nodes = None; timeout = Some 0 })) ∷ []

abbrev pub mixed_script : Script
mixed_script = record {
  version = 1;
  cluster = codes "demo";
  nodes = member (codes "n0") ∷ record { name = codes "n1"; eligible = true; member = false } ∷ [];
  queues =
      record { name = codes "make"; executor = kind.CreateIndex; priority = priority.Normal } ∷
      record { name = codes "nodes"; executor = kind.Nodes; priority = priority.Normal } ∷
      record { name = codes "name"; executor = kind.AliasesAtomic; priority = priority.Normal } ∷
      record { name = codes "set"; executor = kind.ClusterSettings; priority = priority.Normal } ∷ [];
  clients = joining_client ∷ leaving_client ∷ [];
  faults = [];
  schedule = [];
}

-- ---- the session

abbrev pub joining_batch : BatchResult → Batch
joining_batch result = batch_of_one (codes "nodes") 0 (record { client = 0; step = 1; seen = 0 }) result

-- two tasks of two clients
abbrev pub making_twice : Batch
making_twice = record {
  queue = codes "make";
  at = 2;
  entries = record { client = 0; step = 3; seen = 1 } ∷ record { client = 1; step = 0; seen = 0 } ∷ [];
  result = result.Published 3 3 3 2 0 2;
}

abbrev pub failing_batch : Batch
failing_batch = batch_of_one (codes "name") 5 (record { client = 1; step = 1; seen = 0 }) (result.Failed 0 refusal.NotFound)

abbrev pub setting_batch : BatchResult → Batch
setting_batch result = batch_of_one (codes "set") 6 (record { client = 1; step = 2; seen = 0 }) result

abbrev pub leaving_batch : BatchResult → Batch
leaving_batch result = batch_of_one (codes "nodes") 20 (record { client = 1; step = 4; seen = 4 }) result

-- the batches, by what came of the first and of the last two
abbrev pub mixed_batches : BatchResult → BatchResult → BatchResult → List Batch
mixed_batches joined set left = joining_batch joined ∷ making_twice ∷ failing_batch ∷ setting_batch set ∷ leaving_batch left ∷ []

-- the replies, by how the two tasks that make `a` and that of the failed batch ended
abbrev pub mixed_replies : TaskEnd → TaskEnd → TaskEnd → List Reply
mixed_replies first second failed =
    told 0 1 0 (end.Ok 2) ∷
    told 0 3 1 first ∷
    told 1 0 1 second ∷
    told 1 1 4 failed ∷
    told 1 2 6 (end.Unchanged 3) ∷
    told 1 4 19 (end.Ok 4) ∷ []

abbrev pub ack_to : ℕ → ℕ → AckEnd → AckReply
ack_to client step end = record { client = client; step = step; end = end }

-- the only part of a watch, by its place and the states shown
abbrev pub awaited_part : ℕ → ℕ → Watch
awaited_part place shown = part_of 0 4 0 4 None place shown (watch.Answered 3)

-- the reads, by the version and the finding of the second one
abbrev pub looking_twice : ℕ → Found → List Read
looking_twice version second =
    record { client = 0; step = 0; version = 0; found = found.Missing } ∷ record { client = 0; step = 6; version = version; found = second } ∷ []

-- an apply whose change is nodes that joined or left
abbrev pub regrouping : ℕ → ℕ → List (List ℕ) → List (List ℕ) → Apply
regrouping old new joined left = record {
  from = old;
  to = new;
  end = applied.Applied old old old new (record { created = []; deleted = []; changed = []; joined = joined; left = left; settings = [] });
}

abbrev pub staying_node : NodeRec
staying_node = record {
  node = codes "n0";
  handed = 2 ∷ 3 ∷ 4 ∷ [];
  first = 1;
  applies = regrouping 1 2 (codes "n1" ∷ []) [] ∷ creating 2 3 (codes "a") ∷ regrouping 3 4 [] (codes "n1" ∷ []) ∷ [];
  view = record { aliases = []; indices = (codes "a", 1) ∷ []; settings = [] };
}

-- it begins with the zero state, and isn't handed the one that it isn't in
abbrev pub passing_node : NodeRec
passing_node = record {
  node = codes "n1";
  handed = 2 ∷ 3 ∷ [];
  first = 0;
  applies = regrouping 0 2 (codes "n0" ∷ codes "n1" ∷ []) [] ∷ creating 2 3 (codes "a") ∷ [];
  view = record { aliases = []; indices = (codes "a", 1) ∷ []; settings = [] };
}

abbrev pub left_state : ClusterState
left_state = record {
  cluster = codes "demo";
  id = 4;
  term = 1;
  version = 4;
  master = codes "n0";
  nodes = (codes "n0", plain_node (codes "n0")) ∷ [];
  metadata = record { version = 2; created = 1; settings = []; indices = (codes "a", made_index 1) ∷ [] };
}

abbrev pub mixed_session : Session
mixed_session = record {
  batches = mixed_batches (result.Published 2 2 1 1 1 2) (result.Unchanged 3) (result.Published 4 4 21 1 0 1);
  replies = mixed_replies (end.Ok 3) (end.Refused refusal.Exists) (end.BatchFailed 0 refusal.NotFound);
  acks = ack_to 0 1 ack.All ∷ ack_to 1 2 ack.All ∷ ack_to 1 4 (ack.Timeout 20 21) ∷ [];
  watches = awaited_part 1 2 ∷ [];
  reads = looking_twice 3 (found.Index 1 true 1 1);
  nodes = staying_node ∷ passing_node ∷ [];
  last = left_state;
}

-- ---- the same session with one thing changed, so that it breaks one rule at least

-- a node that wasn't in the state before is sent a diff
abbrev pub sending_a_new_node_a_diff : Session
sending_a_new_node_a_diff = record mixed_session {
  batches = mixed_batches (result.Published 2 2 1 2 0 2) (result.Unchanged 3) (result.Published 4 4 21 1 0 1);
}

-- contents that agree are published
abbrev pub publishing_what_agrees : Session
publishing_what_agrees = record mixed_session {
  batches = mixed_batches (result.Published 2 2 1 1 1 2) (result.Published 4 4 7 2 0 2) (result.Published 4 4 21 1 0 1);
}

-- a batch that published nothing uses up an identifier
abbrev pub using_up_an_identifier : Session
using_up_an_identifier = record mixed_session {
  batches = mixed_batches (result.Published 2 2 1 1 1 2) (result.Unchanged 3) (result.Published 4 5 21 1 0 1);
}

-- a node that leaves accepts the state in which it isn't
abbrev pub counting_a_node_that_left : Session
counting_a_node_that_left = record mixed_session {
  batches = mixed_batches (result.Published 2 2 1 1 1 2) (result.Unchanged 3) (result.Published 4 4 21 2 0 2);
}

-- the second of two tasks that make one index succeeds, and the first is refused
abbrev pub refusing_the_first : Session
refusing_the_first = record mixed_session {
  replies = mixed_replies (end.Refused refusal.Exists) (end.Ok 3) (end.BatchFailed 0 refusal.NotFound);
}

-- a task is refused for itself where its whole batch failed
abbrev pub refusing_one_of_a_failed_batch : Session
refusing_one_of_a_failed_batch = record mixed_session {
  replies = mixed_replies (end.Ok 3) (end.Refused refusal.Exists) (end.Refused refusal.NotFound);
}

-- a refused task is acknowledged
abbrev pub acknowledging_a_refusal : Session
acknowledging_a_refusal = record mixed_session {
  acks = ack_to 0 1 ack.All ∷ ack_to 1 0 ack.All ∷ ack_to 1 2 ack.All ∷ ack_to 1 4 (ack.Timeout 20 21) ∷ [];
}

-- a state that was committed too late is acknowledged
abbrev pub acknowledging_too_late : Session
acknowledging_too_late = record mixed_session { acks = ack_to 0 1 ack.All ∷ ack_to 1 2 ack.All ∷ ack_to 1 4 ack.All ∷ [] }

-- a watch begins with a state older than the one that its client knows to be acknowledged
abbrev pub watching_before_the_ack : Session
watching_before_the_ack = record mixed_session { watches = awaited_part 0 3 ∷ [] }

-- a client reads a state older than the one that answered the watch which it awaited
abbrev pub reading_behind_an_awaited_watch : Session
reading_behind_an_awaited_watch = record mixed_session { reads = looking_twice 2 found.Missing }

-- a node that is no member begins with the first state
abbrev pub beginning_as_a_member : Session
beginning_as_a_member = record mixed_session { nodes = staying_node ∷ record passing_node { first = 1 } ∷ [] }

-- a node applies the state in which it isn't
abbrev pub applying_after_it_left : Session
applying_after_it_left = record mixed_session { nodes = staying_node ∷ record staying_node { node = codes "n1" } ∷ [] }
