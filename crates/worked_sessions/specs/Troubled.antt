-- A session with faults, to check the eight rules by: three nodes, two clients, five batches. A publication that reaches
-- too few nodes is dropped, and its master is out of office until it is elected anew; a commit gets lost and an apply
-- fails, so that an acknowledgement fails; and another acknowledgement times out. It is this project's own.
use Rattle.std.specs.Prelude.{ℕ, true, List, [], ◌∷◌, Some, None, codes}
use Rattle.meta_state.specs.declared.index_metadata.IndexMetadata.{IndexMetadata}
use Rattle.meta_state.specs.declared.looks.Found.TheVariants as found
use Rattle.meta_state.specs.declared.looks.Look.TheVariants as look
use Rattle.meta_state.specs.declared.cluster_state.ClusterState.{ClusterState}
use Rattle.session_law.specs.declared.task_ends.TaskEnd.{TaskEnd}
use Rattle.session_law.specs.declared.task_ends.TaskEnd.TheVariants as end
use Rattle.scripts.specs.declared.faults.Fault.{Fault}
use Rattle.scripts.specs.declared.faults.FaultKind.{FaultKind}
use Rattle.scripts.specs.declared.faults.FaultKind.TheVariants as fault
use Rattle.executors.specs.declared.kinds.Kind.TheVariants as kind
use Rattle.scripts.specs.declared.queues.Priority.TheVariants as priority
use Rattle.scripts.specs.declared.whole_script.Script.{Script}
use Rattle.scripts.specs.declared.steps.Goal.TheVariants as goal
use Rattle.scripts.specs.declared.steps.Step.{Step}
use Rattle.scripts.specs.declared.steps.Step.TheVariants as step
use Rattle.executors.specs.declared.tasks.Task.TheVariants as task
use Rattle.session_law.specs.declared.batches.Batch.{Batch}
use Rattle.session_law.specs.declared.batches.BatchResult.{BatchResult}
use Rattle.session_law.specs.declared.batches.BatchResult.TheVariants as result
use Rattle.session_law.specs.declared.batches.Entry.{Entry}
use Rattle.session_law.specs.declared.reads.Read.{Read}
use Rattle.session_law.specs.declared.node_records.Apply.{Apply}
use Rattle.session_law.specs.declared.node_records.ApplyEnd.TheVariants as applied
use Rattle.session_law.specs.declared.node_records.NodeRec.{NodeRec}
use Rattle.session_law.specs.declared.node_records.View.{View}
use Rattle.session_law.specs.declared.replies.AckEnd.{AckEnd}
use Rattle.session_law.specs.declared.replies.AckEnd.TheVariants as ack
use Rattle.session_law.specs.declared.replies.AckReply.{AckReply}
use Rattle.session_law.specs.declared.replies.Reply.{Reply}
use Rattle.session_law.specs.declared.sessions.Session.{Session}
use Rattle.worked_sessions.specs.Worked.{making, member, plain_node}

-- ---- the script

abbrev pub failing_at : List ℕ → ℕ → FaultKind → Fault
failing_at node publication kind = record { node = node; publication = publication; kind = kind }

-- the first publication reaches the master alone; of the third, n1 loses the commit and n2 fails to apply it
abbrev pub troubles : List Fault
troubles =
    failing_at (codes "n1") 1 fault.Unreachable ∷
    failing_at (codes "n2") 1 fault.Unreachable ∷
    failing_at (codes "n1") 3 fault.LostCommit ∷
    failing_at (codes "n2") 3 fault.Apply ∷ []

-- it makes `a`, elects the master anew, makes `a` again and awaits that all nodes have it, and looks at an alias on n1
abbrev pub electing_client : List Step
electing_client =
    step.Submit 0 (making (codes "a")) None None ∷
    step.Await 0 goal.Task ∷
    step.Submit 1 task.Reelect None None ∷
    step.Await 2 goal.Task ∷
    step.Submit 0 (making (codes "a")) None (Some (record { nodes = None; timeout = None })) ∷
    step.Await 4 goal.Ack ∷
    step.Read (codes "n1") (look.Alias (codes "x")) ∷ []

-- it makes `b`, gives `a` the alias `x` and lets n1 acknowledge it, and looks at two aliases on n1
abbrev pub naming_client : List Step
naming_client =
    step.Submit 0 (making (codes "b")) None None ∷
    step.Submit 2 (task.Alias (codes "a") (codes "x") true) None (Some (record { nodes = Some (codes "n1" ∷ []); timeout = Some 5 })) ∷
    step.Read (codes "n1") (look.Alias (codes "x")) ∷
    step.Read (codes "n1") (look.Alias (codes "y")) ∷ []

abbrev pub troubled_script : Script
troubled_script = record {
  version = 1;
  cluster = codes "demo";
  nodes = member (codes "n0") ∷ member (codes "n1") ∷ member (codes "n2") ∷ [];
  queues =
      record { name = codes "make"; executor = kind.CreateIndex; priority = priority.Normal } ∷
      record { name = codes "elect"; executor = kind.Reelect; priority = priority.Immediate } ∷
      record { name = codes "name"; executor = kind.Aliases; priority = priority.Normal } ∷ [];
  clients = electing_client ∷ naming_client ∷ [];
  faults = troubles;
  schedule = [];
}

-- ---- the session

abbrev pub batch_of_one : List ℕ → ℕ → Entry → BatchResult → Batch
batch_of_one queue at entry result = record { queue = queue; at = at; entries = entry ∷ []; result = result }

abbrev pub dropped_batch : Batch
dropped_batch = batch_of_one (codes "make") 0 (record { client = 0; step = 0; seen = 0 }) (result.PublishFailed 2 1 0 1)

abbrev pub refused_batch : Batch
refused_batch = batch_of_one (codes "make") 1 (record { client = 1; step = 0; seen = 0 }) result.NotMaster

-- the reelect, as it was published
abbrev pub electing_batch : BatchResult → Batch
electing_batch result = batch_of_one (codes "elect") 2 (record { client = 0; step = 2; seen = 1 }) result

abbrev pub making_batch : Batch
making_batch = batch_of_one (codes "make") 4 (record { client = 0; step = 4; seen = 3 }) (result.Published 3 4 5 3 0 3)

abbrev pub naming_batch : Batch
naming_batch = batch_of_one (codes "name") 10 (record { client = 1; step = 1; seen = 0 }) (result.Published 4 5 11 3 0 3)

abbrev pub told : ℕ → ℕ → ℕ → TaskEnd → Reply
told client step at end = record { client = client; step = step; at = at; end = end }

-- the acknowledgements of the index and of the alias
abbrev pub acknowledging : AckEnd → AckEnd → List AckReply
acknowledging made named = record { client = 0; step = 4; end = made } ∷ record { client = 1; step = 1; end = named } ∷ []

-- the reads, the first and the last one of these versions of n1
abbrev pub reading : ℕ → ℕ → List Read
reading first last =
    record { client = 0; step = 6; version = first; found = found.Missing } ∷
    record { client = 1; step = 2; version = 4; found = found.Names (codes "a" ∷ []) } ∷
    record { client = 1; step = 3; version = last; found = found.Missing } ∷ []

-- an apply that changed the indices alone
abbrev pub applying : ℕ → ℕ → List (List ℕ) → List (List ℕ) → Apply
applying old new created changed = record {
  from = old;
  to = new;
  end = applied.Applied old old old new (record { created = created; deleted = []; changed = changed; joined = []; left = []; settings = [] });
}

abbrev pub failing_to_apply : ℕ → ℕ → Apply
failing_to_apply old new = record { from = old; to = new; end = applied.Failed }

abbrev pub named_view : View
named_view = record { aliases = (codes "x", codes "a" ∷ []) ∷ []; indices = (codes "a", 1) ∷ []; settings = [] }

abbrev pub recording : List ℕ → List ℕ → List Apply → NodeRec
recording name handed applies = record { node = name; handed = handed; first = 1; applies = applies; view = named_view }

-- the master applies every state
abbrev pub whole_node : List ℕ → NodeRec
whole_node name =
    recording name (2 ∷ 3 ∷ 4 ∷ []) (applying 1 2 [] [] ∷ applying 2 3 (codes "a" ∷ []) [] ∷ applying 3 4 [] (codes "a" ∷ []) ∷ [])

-- a node that isn't handed version 3
abbrev pub losing_node : List ℕ → NodeRec
losing_node name = recording name (2 ∷ 4 ∷ []) (applying 1 2 [] [] ∷ applying 2 4 (codes "a" ∷ []) [] ∷ [])

-- a node that is handed version 3 and fails to apply it
abbrev pub failing_node : List ℕ → NodeRec
failing_node name =
    recording name (2 ∷ 3 ∷ 4 ∷ []) (applying 1 2 [] [] ∷ failing_to_apply 2 3 ∷ applying 2 4 (codes "a" ∷ []) [] ∷ [])

abbrev pub named_index : IndexMetadata
named_index = record {
  id = 1;
  version = 2;
  settings_version = 1;
  aliases_version = 2;
  opened = true;
  shards = 1;
  replicas = 1;
  aliases = (codes "x", tt) ∷ [];
}

abbrev pub named_state : ClusterState
named_state = record {
  cluster = codes "demo";
  id = 5;
  term = 2;
  version = 4;
  master = codes "n0";
  nodes =
      (codes "n0", plain_node (codes "n0")) ∷
      (codes "n1", plain_node (codes "n1")) ∷
      (codes "n2", plain_node (codes "n2")) ∷ [];
  metadata = record { version = 3; created = 1; settings = []; indices = (codes "a", named_index) ∷ [] };
}

-- the batches, by what came of the second and of the reelect
abbrev pub troubled_batches : Batch → BatchResult → List Batch
troubled_batches second elected = dropped_batch ∷ second ∷ electing_batch elected ∷ making_batch ∷ naming_batch ∷ []

-- the replies, by how the first task ended
abbrev pub troubled_replies : TaskEnd → List Reply
troubled_replies first =
    told 0 0 0 first ∷
    told 0 2 1 (end.Ok 2) ∷
    told 0 4 3 (end.Ok 3) ∷
    told 1 0 0 end.NotMaster ∷
    told 1 1 6 (end.Ok 4) ∷ []

-- the first node takes the state of the reelect in full: it had accepted the one that was dropped
abbrev pub troubled_session : Session
troubled_session = record {
  batches = troubled_batches refused_batch (result.Published 2 3 3 2 1 3);
  replies = troubled_replies end.PublishFailed;
  acks = acknowledging (ack.Failed 2) (ack.Timeout 15 16);
  watches = [];
  reads = reading 2 4;
  nodes = whole_node (codes "n0") ∷ losing_node (codes "n1") ∷ failing_node (codes "n2") ∷ [];
  last = named_state;
}

-- ---- the same session, but for what the rules leave open

-- the acknowledgement that timed out came in time
abbrev pub acknowledging_in_time : Session
acknowledging_in_time = record troubled_session { acks = acknowledging (ack.Failed 2) ack.All }

-- ---- the same session with one thing changed, so that it breaks one rule at least

abbrev pub electing_with : BatchResult → Session
electing_with elected = record troubled_session { batches = troubled_batches refused_batch elected }

-- the state that was dropped is taken for the current one, so that the next version is one higher
abbrev pub keeping_the_dropped_state : Session
keeping_the_dropped_state = electing_with (result.Published 3 3 3 2 1 3)

-- the identifier of the state that was dropped is given again
abbrev pub reusing_the_identifier : Session
reusing_the_identifier = electing_with (result.Published 2 2 3 2 1 3)

-- the full state that a node was sent is counted as a diff
abbrev pub counting_a_full_as_a_diff : Session
counting_a_full_as_a_diff = electing_with (result.Published 2 3 3 3 0 3)

-- a batch runs on a master that is out of office
abbrev pub running_out_of_office : Session
running_out_of_office = record troubled_session {
  batches = troubled_batches (record refused_batch { result = result.Published 2 3 1 2 1 3 }) (result.Published 2 3 3 2 1 3);
}

-- a task whose publication failed is told that it succeeded
abbrev pub telling_a_dropped_task_ok : Session
telling_a_dropped_task_ok = record troubled_session { replies = troubled_replies (end.Ok 2) }

-- two nodes didn't apply, yet all acknowledge
abbrev pub acknowledging_in_full : Session
acknowledging_in_full = record troubled_session { acks = acknowledging ack.All (ack.Timeout 15 16) }

-- one of the two nodes that didn't apply is left out of the count
abbrev pub counting_one_failure : Session
counting_one_failure = record troubled_session { acks = acknowledging (ack.Failed 1) (ack.Timeout 15 16) }

-- an acknowledgement times out before its deadline
abbrev pub timing_out_an_ack_early : Session
timing_out_an_ack_early = record troubled_session { acks = acknowledging (ack.Failed 2) (ack.Timeout 15 14) }

-- a client reads a state older than the one that it read before
abbrev pub reading_backwards : Session
reading_backwards = record troubled_session { reads = reading 2 2 }

-- a client reads a version at a node that never had it
abbrev pub reading_a_lost_commit : Session
reading_a_lost_commit = record troubled_session { reads = reading 3 4 }

-- a node applies a version that it wasn't handed
abbrev pub applying_a_lost_commit : Session
applying_a_lost_commit = record troubled_session {
  nodes =
      whole_node (codes "n0") ∷
      record (whole_node (codes "n1")) { handed = 2 ∷ 4 ∷ [] } ∷
      failing_node (codes "n2") ∷ [];
}

-- an apply that failed is told as done
abbrev pub applying_in_spite_of_a_fault : Session
applying_in_spite_of_a_fault = record troubled_session {
  nodes = whole_node (codes "n0") ∷ losing_node (codes "n1") ∷ whole_node (codes "n2") ∷ [];
}
