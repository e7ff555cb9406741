-- How far an acknowledgement is, as a course tells it. It counts from the commit of its task's batch on: it waits for each
-- required node until that has no commit of the version left, and the deadline counts from when the batch was taken. What
-- was late at the commit timed out there (Elasticsearch's `MasterService` and its `AckCountDownListener`; the words of the
-- ends are this project's own).
use Rattle.std.specs.Prelude.{ℕ, ◌==◌, ◌&&◌, ◌||◌, Bool, true, false, List, [], ◌∷◌, Option, Some, None, is_none, is_some, option_map, bytes_eq, if◌then◌else◌}
use Rattle.std.specs.List.{list_any}
use Rattle.plain_data.specs.Pairs.{lookup}
use Rattle.meta_state.specs.declared.cluster_state.ClusterState.{ClusterState}
use Rattle.scripts.specs.declared.whole_script.Script.{Script}
use Rattle.scripts.specs.declared.whole_script.ScriptNode.{ScriptNode}
use Rattle.scripts.specs.declared.steps.Ack.{Ack}
use Rattle.session_law.specs.declared.batches.Batch.{Batch}
use Rattle.session_law.specs.declared.replies.AckEnd.{AckEnd}
use Rattle.session_law.specs.declared.replies.AckEnd.TheVariants as ack
use Rattle.session_law.specs.declared.task_ends.TaskEnd.{TaskEnd}
use Rattle.session_law.specs.declared.task_ends.TaskEnd.TheVariants as end
use Rattle.session_law.specs.Acknowledgements.{asked_ack, is_asked, is_over_at, missing_of}
use Rattle.session_law.specs.DueTimes.{due}
use Rattle.session_law.specs.Histories.{SteppedBatch, commit_of, step_at}
use Rattle.session_law.specs.Outcomes.{end_in, stepped_with}
use Rattle.master_run.specs.Nodes.{NodeCourse}

-- ---- what counts

-- an acknowledgement that counts: what was asked, and the batch that published the version of its task
pub record Acked : Type 0 where
  pub asked : Ack
  pub version : ℕ
  pub stepped : SteppedBatch

-- where the task ended so in its batch
abbrev pub acked_ok : Ack → SteppedBatch → Option TaskEnd → Option Acked
acked_ok asked s (Some (end.Ok version)) = Some (record { asked = asked; version = version; stepped = s })
acked_ok asked s _ = None

abbrev pub acked_with : ℕ → ℕ → Ack → Option SteppedBatch → Option Acked
acked_with client step asked None = None
acked_with client step asked (Some s) = acked_ok asked s (end_in client step s)

abbrev pub acked_of : Script → List Batch → ℕ → ℕ → Option Ack → Option Acked
acked_of script batches client step None = None
acked_of script batches client step (Some asked) = acked_with client step asked (stepped_with script batches client step)

-- that of a step, if it asks for one and its task's batch published a version
abbrev pub acked_in : Script → List Batch → ℕ → ℕ → Option Acked
acked_in script batches client step = acked_of script batches client step (asked_ack (step_at script client step))

-- the reading at which its batch committed
abbrev pub commit_in : Acked → ℕ
commit_in a = commit_of a.stepped.stepped.result

-- when it times out, if ever
abbrev pub due_in : Acked → Option ℕ
due_in a = option_map (due a.stepped.batch.at) a.asked.timeout

-- whether its time was over as its batch committed
abbrev pub is_late : Acked → Bool
is_late a = is_over_at (commit_in a) (due_in a)

-- ---- whom it waits for

-- whether a node of the state has to apply it: the master and those that are asked
abbrev pub is_required : Ack → ClusterState → List ℕ → Bool
is_required asked state name = is_some (lookup name state.nodes) && (bytes_eq name state.master || is_asked asked.nodes name)

-- whether a node has the commit of a version left
abbrev pub has_left : ℕ → NodeCourse → Bool
has_left version node = list_any (λ c. c.state.version == version) node.left

-- whether the answer of a node is missing
abbrev pub is_missing : Acked → ScriptNode → NodeCourse → Bool
is_missing a node has = is_required a.asked a.stepped.world.state node.name && has_left a.version has

-- whether that of one of these is
abbrev pub awaits_some : Acked → List ScriptNode → List NodeCourse → Bool
awaits_some a [] nodes = false
awaits_some a (_ ∷ _) [] = false
awaits_some a (node ∷ more) (has ∷ others) = is_missing a node has || awaits_some a more others

-- ---- how it ends

abbrev pub timed_end : Option ℕ → ℕ → Option AckEnd
timed_end None reading = None
timed_end (Some deadline) reading = Some (ack.Timeout deadline reading)

-- by how many required nodes don't apply the version, which the script's faults decide
abbrev pub answered_end : Bool → ℕ → Option AckEnd
answered_end true failures = None
answered_end false failures = Some (if failures == 0 then ack.All else ack.Failed failures)

abbrev pub open_end : Option ℕ → Option ℕ → Bool → ℕ → Option AckEnd
open_end deadline (Some reading) waits failures = timed_end deadline reading
open_end deadline None waits failures = answered_end waits failures

abbrev pub end_by_time : Bool → ℕ → Option ℕ → Option ℕ → Bool → ℕ → Option AckEnd
end_by_time true commit deadline lapse waits failures = timed_end deadline commit
end_by_time false commit deadline lapse waits failures = open_end deadline lapse waits failures

-- the end of an acknowledgement, which timed out at a reading after its commit or didn't; none where it is open
abbrev pub end_of_acked : Script → List Batch → List NodeCourse → Option ℕ → Acked → Option AckEnd
end_of_acked script batches nodes lapse a =
    end_by_time (is_late a) (commit_in a) (due_in a) lapse (awaits_some a script.nodes nodes) (missing_of script batches a.asked a.version)

abbrev pub ack_end : Script → List Batch → List NodeCourse → Option ℕ → Option Acked → Option AckEnd
ack_end script batches nodes lapse None = None
ack_end script batches nodes lapse (Some a) = end_of_acked script batches nodes lapse a

-- ---- time

-- it times out at a reading, where it is open and its deadline is at most that
abbrev pub lapsed_by : ℕ → Option ℕ → Acked → Option AckEnd → Option ℕ
lapsed_by reading lapse a (Some end) = lapse
lapsed_by reading lapse a None = if is_over_at reading (due_in a) then Some reading else lapse

abbrev pub lapse_after : Script → List Batch → List NodeCourse → ℕ → Option ℕ → Option Acked → Option ℕ
lapse_after script batches nodes reading lapse None = lapse
lapse_after script batches nodes reading lapse (Some a) = lapsed_by reading lapse a (end_of_acked script batches nodes lapse a)
