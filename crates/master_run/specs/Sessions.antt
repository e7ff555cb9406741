-- The session that one reads off a course: its batches, its last state, what the words tell of each submit, and what its
-- nodes did.
use Rattle.std.specs.Prelude.{◌≡◌, ◌<◌, ◌≤◌, ℕ, List, [], ◌∷◌, ◌++◌, Option, Some, None, length, map, slice_get}
use Rattle.scripts.specs.declared.whole_script.Script.{Script}
use Rattle.scripts.specs.declared.whole_script.ScriptNode.{ScriptNode}
use Rattle.scripts.specs.declared.steps.Ack.{Ack}
use Rattle.scripts.specs.declared.steps.Step.{Step}
use Rattle.session_law.specs.declared.node_records.NodeRec.{NodeRec}
use Rattle.session_law.specs.declared.replies.AckEnd.{AckEnd}
use Rattle.session_law.specs.declared.replies.AckEnd.TheVariants as ack
use Rattle.session_law.specs.declared.replies.AckReply.{AckReply}
use Rattle.session_law.specs.declared.replies.Reply.{Reply}
use Rattle.session_law.specs.declared.sessions.Session.{Session}
use Rattle.session_law.specs.declared.task_ends.TaskEnd.{TaskEnd}
use Rattle.session_law.specs.Acknowledgements.{asked_ack}
use Rattle.session_law.specs.Collected.{collected}
use Rattle.session_law.specs.Endings.{task_timeout_of}
use Rattle.session_law.specs.NodeRecords.{first_of}
use Rattle.session_law.specs.ScriptSteps.{NumberedStep}
use Rattle.session_law.specs.Views.{views_of}
use Rattle.task_words.specs.declared.end_codes.Outcome.{Outcome}
use Rattle.task_words.specs.declared.end_codes.Outcome.TheVariants as outcome
use Rattle.task_words.specs.declared.words.Word.{Word}
use Rattle.task_words.specs.declared.words.Word.TheVariants as word
use Rattle.plain_data.specs.Cells.{IsInside}
use Rattle.task_words.specs.Words.{IsWithin, TaskTable}
use Rattle.master_run.specs.Courses.{Course, id_at, moment_at, word_of}
use Rattle.master_run.specs.Endings.{end_of_word}
use Rattle.master_run.specs.Nodes.{NodeCourse}
use Rattle.master_run.specs.Steps.{ack_end_in}

-- ---- replies

-- what is told where a task has ended
abbrev pub reply_by : ℕ → ℕ → ℕ → Option TaskEnd → List Reply
reply_by client step at None = []
reply_by client step at (Some end) = record { client = client; step = step; at = at; end = end } ∷ []

abbrev pub reply_at : TaskTable → List (List ℕ) → NumberedStep → List Reply
reply_at tasks ats s =
    let at = moment_at ats s.client s.number in
    reply_by s.client s.number at (end_of_word at (task_timeout_of (Some s.step)) (word_of tasks s.client s.number))

abbrev pub replies_of : Script → TaskTable → List (List ℕ) → List Reply
replies_of script tasks ats = collected script (reply_at tasks ats)

-- ---- acknowledgements

-- the end that a task's outcome leaves: of a task that changed nothing nobody is waited for
abbrev pub acked_end : Option AckEnd → Outcome → Option AckEnd
acked_end end (outcome.Ok version) = end
acked_end end (outcome.Unchanged version) = Some ack.All
acked_end end _ = None

-- so it is where the task has ended
abbrev pub acked_word : Option AckEnd → Word → Option AckEnd
acked_word end (word.Ended code) = acked_end end code.outcome
acked_word end _ = None

abbrev pub ack_reply_by : ℕ → ℕ → Option AckEnd → List AckReply
ack_reply_by client step None = []
ack_reply_by client step (Some end) = record { client = client; step = step; end = end } ∷ []

-- where a step asks for one
abbrev pub ack_reply_so : ℕ → ℕ → Option AckEnd → Option Ack → List AckReply
ack_reply_so client step end None = []
ack_reply_so client step end (Some asked) = ack_reply_by client step end

abbrev pub ack_reply_at : Script → Course → NumberedStep → List AckReply
ack_reply_at script k s =
    ack_reply_so s.client s.number (acked_word (ack_end_in script k s.client s.number) (word_of k.tasks s.client s.number)) (asked_ack (Some s.step))

abbrev pub ack_replies_of : Script → Course → List AckReply
ack_replies_of script k = collected script (ack_reply_at script k)

-- ---- the nodes' records

-- a node was handed what it has tried to apply, and what it has left
abbrev pub record_by : Script → ScriptNode → NodeCourse → NodeRec
record_by script node has = record {
  node = node.name;
  handed = map (λ a. a.to) has.applies ++ map (λ c. c.state.version) has.left;
  first = (first_of script (Some node)).version;
  applies = has.applies;
  view = views_of has.state;
}

abbrev pub records_by : Script → List ScriptNode → List NodeCourse → List NodeRec
records_by script [] nodes = []
records_by script (_ ∷ _) [] = []
records_by script (node ∷ more) (has ∷ others) = record_by script node has ∷ records_by script more others

-- ---- the whole

abbrev pub session_of : Script → Course → Session
session_of script k = record {
  batches = k.book.batches;
  replies = replies_of script k.tasks k.ats;
  acks = ack_replies_of script k;
  watches = [];
  reads = [];
  nodes = records_by script script.nodes k.nodes;
  last = k.book.world.state;
}

-- ---- what the code of this asks

-- a step has its word and its moment
pub record HasCell (tasks : TaskTable) (ats : List (List ℕ)) (client step : ℕ) : Type 0 where
  pub word : IsWithin tasks (id_at client step)
  pub moment : IsInside ats client step

-- so has each step of a client
pub record HasLane (tasks : TaskTable) (ats : List (List ℕ)) (client : ℕ) (steps : List Step) : Type 0 where
  pub cells : (step : ℕ) → step < length steps → HasCell tasks ats client step
  pub few : length steps ≤ 4096

-- so has each client's
pub record HaveLanes (script : Script) (tasks : TaskTable) (ats : List (List ℕ)) : Type 0 where
  pub lanes : (client : ℕ) (steps : List Step) → slice_get script.clients client ≡ Some steps → HasLane tasks ats client steps
  pub few : length script.clients ≤ 32
