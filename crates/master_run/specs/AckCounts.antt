-- What the acknowledgements that the code keeps have to do with a course: each word is as far as the course tells it.
use Rattle.std.specs.Prelude.{◌≡◌, ℕ, ◌||◌, Bool, true, false, List, Option, Some, None, length, slice_get, is_some, IsTrue}
use Rattle.ack_words.specs.declared.words.AckWord.{AckWord}
use Rattle.ack_words.specs.Acks.{word_at}
use Rattle.ack_words.specs.Countdowns.{Countdown}
use Rattle.ack_words.specs.Masks.{has_node}
use Rattle.scripts.specs.declared.whole_script.Script.{Script}
use Rattle.scripts.specs.declared.whole_script.ScriptNode.{ScriptNode}
use Rattle.session_law.specs.declared.batches.Batch.{Batch}
use Rattle.master_run.specs.AckBooks.{AckBook, ack_number, is_among, is_in_lane, is_open_word, reading_at}
use Rattle.master_run.specs.AckCourses.{Acked, acked_in, is_late, is_missing}
use Rattle.master_run.specs.Courses.{lanes_of}
use Rattle.master_run.specs.Endings.{deadline_of}
use Rattle.master_run.specs.Nodes.{NodeCourse}

-- whether the answer of the node of a number is missing
abbrev pub is_missing_so : Acked → Option ScriptNode → Option NodeCourse → Bool
is_missing_so a None has = false
is_missing_so a (Some node) None = false
is_missing_so a (Some node) (Some has) = is_missing a node has

abbrev pub is_missing_at : Acked → List ScriptNode → List NodeCourse → ℕ → Bool
is_missing_at a nodes have number = is_missing_so a (slice_get nodes number) (slice_get have number)

-- The word of an acknowledgement that counts: until its time decides it, it waits for the nodes whose answers are missing.
-- None of them fails, as no script with faults is performed yet.
pub record IsCountdown (nodes : List ScriptNode) (have : List NodeCourse) (a : Acked) (lapse : Option ℕ) (word : AckWord) : Type 0 where
  pub countdown : Countdown
  pub is : word ≡ AckWord.Counting (deadline_of a.stepped.batch.at a.asked.timeout) countdown
  pub version : countdown.version ≡ a.version
  pub failures : countdown.failures ≡ 0
  pub timed : countdown.timed ≡ (is_late a || is_some lapse)
  pub missing : countdown.timed ≡ false → (number : ℕ) → has_node number countdown.missing ≡ is_missing_at a nodes have number

-- one that doesn't count has a vacant word
abbrev pub IsWordOf : List ScriptNode → List NodeCourse → Option Acked → Option ℕ → AckWord → Type 0
IsWordOf nodes have None lapse word = word ≡ AckWord.Vacant
IsWordOf nodes have (Some a) lapse word = IsCountdown nodes have a lapse word

-- so is each, and what is open is listed
pub record AreCounted (script : Script) (batches : List Batch) (have : List NodeCourse) (b : AckBook) : Type 0 where
  pub lanes : b.lanes ≡ lanes_of script
  pub applied : length b.words.applied ≡ length script.nodes
  pub words : (client step : ℕ) → IsTrue (is_in_lane b.lanes client step)
      → IsWordOf script.nodes have (acked_in script batches client step) (reading_at b (ack_number b.lanes client step)) (word_at b.words (ack_number b.lanes client step))
  pub listed : (number : ℕ) → is_open_word (word_at b.words number) ≡ true → IsTrue (is_among number b.opened)
