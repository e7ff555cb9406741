-- The acknowledgements as the code of a replay keeps them: a word for each step, by a number that goes through the steps of
-- the first client, then of the second, and so on; the reading at which each timed out, if it did so after its commit; and
-- the numbers of those that may be open. This form is the project's own.
use Rattle.std.specs.Prelude.{◌≡◌, ℕ, ◌+◌, ◌<◌, ◌^◌, ◌==◌, ◌&&◌, ◌||◌, Bool, true, false, not, List, [], ◌∷◌, ◌++◌, filter, get_or, length, nat_lt, replicate, set, sum, take, Option, Some, None, option_map, IsFalse, IsTrue, if◌then◌else◌}
use Rattle.ack_words.specs.declared.answers.AckExpiry.{AckExpiry}
use Rattle.ack_words.specs.declared.answers.AckPoll.{AckPoll}
use Rattle.ack_words.specs.declared.words.AckWord.{AckWord}
use Rattle.ack_words.specs.Acks.{AckTable, expired_by, vacant_table, with_applied, with_word, word_answered, word_asks, word_at, word_expiry, word_poll}
use Rattle.ack_words.specs.Countdowns.{begun}
use Rattle.ack_words.specs.Masks.{is_without_nodes, no_nodes, with_node}
use Rattle.meta_state.specs.declared.cluster_state.ClusterState.{ClusterState}
use Rattle.scripts.specs.declared.whole_script.Script.{Script}
use Rattle.scripts.specs.declared.whole_script.ScriptNode.{ScriptNode}
use Rattle.scripts.specs.declared.steps.Ack.{Ack}
use Rattle.session_law.specs.declared.batches.Entry.{Entry}
use Rattle.session_law.specs.declared.task_ends.TaskEnd.{TaskEnd}
use Rattle.session_law.specs.declared.task_ends.TaskEnd.TheVariants as end
use Rattle.session_law.specs.Acknowledgements.{asked_ack, is_over_at}
use Rattle.session_law.specs.DueTimes.{due}
use Rattle.session_law.specs.Histories.{step_at}
use Rattle.master_run.specs.declared.acknowledgements.Times.{Times}
use Rattle.master_run.specs.AckCourses.{is_required}
use Rattle.master_run.specs.Endings.{deadline_of}

pub record AckBook : Type 0 where
  -- how many steps each client has
  pub lanes : List ℕ
  -- how far each acknowledgement is
  pub words : AckTable
  -- by number, the reading at which it timed out after its commit
  pub readings : List (Option ℕ)
  -- the numbers of those that may be open
  pub opened : List ℕ

abbrev pub new_acks : List ℕ → ℕ → AckBook
new_acks lanes nodes = record {
  lanes = lanes;
  words = vacant_table lanes nodes;
  readings = replicate (sum lanes) None;
  opened = [];
}

-- ---- numbers

abbrev pub lane_at : List ℕ → ℕ → ℕ
lane_at lanes client = get_or lanes client 0

-- there is such a step
abbrev pub is_in_lane : List ℕ → ℕ → ℕ → Bool
is_in_lane lanes client step = nat_lt step (lane_at lanes client)

abbrev pub ack_number : List ℕ → ℕ → ℕ → ℕ
ack_number lanes client step = sum (take client lanes) + step

-- ---- what stands at a number

pub record Slot : Type 0 where
  pub word : AckWord
  pub reading : Option ℕ

abbrev pub slot_at : AckBook → ℕ → Slot
slot_at b number = record { word = word_at b.words number; reading = get_or b.readings number None }

abbrev pub reading_at : AckBook → ℕ → Option ℕ
reading_at b number = get_or b.readings number None

-- by client and step, as a course has it
abbrev pub lapses_of : AckBook → ℕ → ℕ → Option ℕ
lapses_of b client step = if is_in_lane b.lanes client step then reading_at b (ack_number b.lanes client step) else None

-- whether it counts, and neither its last answer nor its time has decided it
abbrev pub is_open_word : AckWord → Bool
is_open_word AckWord.Vacant = false
is_open_word (AckWord.Started deadline) = false
is_open_word (AckWord.Counting deadline countdown) = not countdown.timed && not (is_without_nodes countdown.missing)

-- ---- a batch

-- the nodes that are required, from the one of a number on
abbrev pub required_from : ℕ → Ack → ClusterState → List ScriptNode → List Bool → List Bool
required_from number asked state [] mask = mask
required_from number asked state (node ∷ more) mask =
    required_from (number + 1) asked state more (if is_required asked state node.name then with_node number mask else mask)

abbrev pub required_mask : Ack → ClusterState → List ScriptNode → List Bool
required_mask asked state nodes = required_from 0 asked state nodes no_nodes

-- one begins to count at the commit of its version, of which the answers of these nodes are missing
abbrev pub begun_at : ℕ → ℕ → List Bool → Times → Option ℕ → AckBook → AckBook
begun_at number version must times timeout b = record b {
  words = with_word number (AckWord.Counting (deadline_of times.at timeout) (begun version must (is_over_at times.commit (option_map (due times.at) timeout)))) b.words;
  opened = b.opened ++ number ∷ [];
}

-- it waits for every required node: each was handed the version, as no script with faults is performed yet
abbrev pub counted_at : List ScriptNode → ClusterState → Times → ℕ → Ack → ℕ → AckBook → AckBook
counted_at nodes state times number asked version b = begun_at number version (required_mask asked state nodes) times asked.timeout b

-- that of a task which ended so, if its step asks for one
abbrev pub counted_so : List ScriptNode → ClusterState → Times → ℕ → TaskEnd → Option Ack → AckBook → AckBook
counted_so nodes state times number (end.Ok version) (Some asked) b = counted_at nodes state times number asked version b
counted_so nodes state times number _ _ b = b

abbrev pub counted_one : Script → ClusterState → Times → Entry → TaskEnd → AckBook → AckBook
counted_one script state times entry end b =
    counted_so script.nodes state times (ack_number b.lanes entry.client entry.step) end (asked_ack (step_at script entry.client entry.step)) b

-- those of a batch, in order
abbrev pub counted_each : Script → ClusterState → Times → List Entry → List TaskEnd → AckBook → AckBook
counted_each script state times [] ends b = b
counted_each script state times (_ ∷ _) [] b = b
counted_each script state times (entry ∷ entries) (end ∷ ends) b = counted_each script state times entries ends (counted_one script state times entry end b)

-- those of which a client isn't told an end yet
abbrev pub is_not_yet : AckPoll → Bool
is_not_yet AckPoll.All = false
is_not_yet (AckPoll.Failed count) = false
is_not_yet AckPoll.TimedOut = false
is_not_yet AckPoll.NotYet = true

abbrev pub pruned : AckBook → AckBook
pruned b = record b { opened = filter (λ n. is_not_yet (word_poll (word_at b.words n))) b.opened }

abbrev pub counted_all : Script → ClusterState → Times → List Entry → List TaskEnd → AckBook → AckBook
counted_all script state times entries ends b = counted_each script state times entries ends (pruned b)

-- ---- an apply

-- a node that applied a version answers what waits for that
abbrev pub answered_if : ℕ → ℕ → Option ℕ → AckWord → AckWord
answered_if node version None word = word
answered_if node version (Some asked) word = if asked == version then word_answered node word else word

abbrev pub answered_word : ℕ → ℕ → AckWord → AckWord
answered_word node version word = answered_if node version (word_asks node word) word

abbrev pub answered_at : ℕ → ℕ → AckTable → ℕ → AckTable
answered_at node version words number = with_word number (answered_word node version (word_at words number)) words

abbrev pub answered_each : ℕ → ℕ → List ℕ → AckTable → AckTable
answered_each node version [] words = words
answered_each node version (number ∷ more) words = answered_each node version more (answered_at node version words number)

abbrev pub settled : ℕ → ℕ → AckBook → AckBook
settled node version b = record b { words = answered_each node version b.opened (with_applied node version b.words) }

-- ---- time

-- the readings after a try that is answered so
abbrev pub read_by : ℕ → ℕ → AckExpiry → List (Option ℕ) → List (Option ℕ)
read_by reading number AckExpiry.Won readings = set readings number (Some reading)
read_by reading number AckExpiry.Finished readings = readings
read_by reading number AckExpiry.TimedBefore readings = readings
read_by reading number (AckExpiry.NotDue deadline) readings = readings
read_by reading number AckExpiry.NotCommitted readings = readings

abbrev pub timed_one : ℕ → ℕ → AckBook → AckBook
timed_one reading number b = record b {
  words = expired_by number (word_expiry reading (word_at b.words number)) b.words;
  readings = read_by reading number (word_expiry reading (word_at b.words number)) b.readings;
}

abbrev pub timed_each : ℕ → List ℕ → AckBook → AckBook
timed_each reading [] b = b
timed_each reading (number ∷ more) b = timed_each reading more (timed_one reading number b)

abbrev pub timed_all : ℕ → AckBook → AckBook
timed_all reading b = timed_each reading b.opened b

-- words and readings alone
abbrev pub loose_book : AckTable → List (Option ℕ) → AckBook
loose_book words readings = record { lanes = []; words = words; readings = readings; opened = [] }

-- ---- what the code of this asks

abbrev pub AreBelow : ℕ → List ℕ → Type 0
AreBelow bound [] = Unit {0}
AreBelow bound (number ∷ more) = (number < bound) × AreBelow bound more

-- one may be counted
pub record CanCountOne (nodes : List ScriptNode) (state : ClusterState) (number version : ℕ) (asked : Ack) (b : AckBook) : Type 0 where
  pub below : number < length b.words.words
  pub vacant : word_at b.words number ≡ AckWord.Vacant
  pub some : IsFalse (is_without_nodes (required_mask asked state nodes))
  pub bounded : version < 2 ^ 32

abbrev pub CanCountSo : List ScriptNode → ClusterState → ℕ → TaskEnd → Option Ack → AckBook → Type 0
CanCountSo nodes state number (end.Ok version) (Some asked) b = CanCountOne nodes state number version asked b
CanCountSo nodes state number _ _ b = Unit {0}

-- the step is there, and its acknowledgement may be counted where it counts
pub record CanCountEntry (script : Script) (state : ClusterState) (entry : Entry) (end : TaskEnd) (b : AckBook) : Type 0 where
  pub inside : IsTrue (is_in_lane b.lanes entry.client entry.step)
  pub so : CanCountSo script.nodes state (ack_number b.lanes entry.client entry.step) end (asked_ack (step_at script entry.client entry.step)) b

-- so may each, after those before it
abbrev pub CanCount : Script → ClusterState → Times → List Entry → List TaskEnd → AckBook → Type 0
CanCount script state times [] ends b = Unit {0}
CanCount script state times (_ ∷ _) [] b = Unit {0}
CanCount script state times (entry ∷ entries) (end ∷ ends) b =
    CanCountEntry script state entry end b × CanCount script state times entries ends (counted_one script state times entry end b)

abbrev pub is_among : ℕ → List ℕ → Bool
is_among number [] = false
is_among number (first ∷ more) = (first == number) || is_among number more

-- what is always so of the numbers
pub record IsAckBook (b : AckBook) : Type 0 where
  pub words : length b.words.words ≡ sum b.lanes
  pub readings : length b.readings ≡ sum b.lanes
  pub few : sum b.lanes < 2 ^ 18
  pub opened : (number : ℕ) → IsTrue (is_among number b.opened) → number < sum b.lanes
