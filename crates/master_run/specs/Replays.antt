-- How far a replay has come, as the serial rule sees it; and what its code asks and keeps.
use Rattle.std.specs.Prelude.{◌≡◌, ◌≢◌, ◌<◌, ◌≤◌, ◌-◌, ◌^◌, ℕ, Bool, max, true, List, [], length, Option, Some, None, slice_get, slice_set, if◌then◌else◌}
use Rattle.std.specs.List.{AllByRecursion}
use Rattle.std.specs.Option.{option_map}
use Rattle.node_apply.specs.Applying.{Node}
use Rattle.node_apply.specs.NodeLinks.{NodeLinkView}
use Rattle.publication.specs.LinkMeanings.{LinkMeaning}
use Rattle.scripts.specs.declared.whole_script.Script.{Script}
use Rattle.executors.specs.declared.tasks.Task.{Task}
use Rattle.session_law.specs.DueTimes.{due}
use Rattle.task_words.specs.declared.answers.TaskPoll.{TaskPoll}
use Rattle.task_words.specs.declared.answers.TaskPoll.TheVariants as poll
use Rattle.task_words.specs.declared.end_codes.EndCode.{EndCode}
use Rattle.task_words.specs.declared.end_codes.Outcome.{Outcome}
use Rattle.task_words.specs.declared.end_codes.Outcome.TheVariants as outcome
use Rattle.task_words.specs.declared.words.Word.TheVariants as word
use Rattle.plain_data.specs.Cells.{IsInside}
use Rattle.task_words.specs.Words.{IsWithin, size_of}
use Rattle.master_intake.specs.Waitings.{priorities_of}
use Rattle.master_run.specs.declared.replays.Replay.{Replay}
use Rattle.master_run.specs.declared.acknowledgements.Times.{Times}
use Rattle.master_run.specs.AckBooks.{counted_all, lapses_of, settled, timed_all}
use Rattle.master_run.specs.AckCounts.{AreCounted}
use Rattle.master_run.specs.Appliers.{AreNodesOf, courses_of}
use Rattle.master_run.specs.Books.{last_entries}
use Rattle.master_run.specs.Courses.{Course, id_at, next_at, seen_at, word_of}
use Rattle.master_run.specs.Events.{CanExpire, all_expired}
use Rattle.master_run.specs.Linked.{IsLinked}
use Rattle.master_run.specs.Passing.{ArePassed, meanings_of}
use Rattle.master_run.specs.Sendings.{AreLinksOf, HaveRoom}
use Rattle.master_run.specs.Serials.{Serial, at_clock}
use Rattle.master_run.specs.SoFar.{IsLawfulSoFar}
use Rattle.master_run.specs.Steps.{ack_end_in, ack_told, awaited_by, batch_told, moved_on, submitted_by}

abbrev pub course_of : Replay → Course
course_of replay = record {
  book = replay.book;
  waiting = replay.waiting.waiting;
  tasks = replay.tasks;
  ats = replay.ats;
  positions = replay.positions;
  awaited = replay.awaited;
  nodes = courses_of replay.nodes.items;
  lapses = lapses_of replay.acks;
}

abbrev pub serial_of : Replay → Serial
serial_of replay = record { course = course_of replay; clock = replay.clock }

-- a replay is at a lawful beginning of a session
pub record IsSound (script : Script) (replay : Replay) : Type 0 where
  pub lawful : IsLawfulSoFar script (course_of replay)
  pub priorities : replay.waiting.priorities ≡ priorities_of script.queues
  pub nodes : AreNodesOf script replay.nodes.items
  pub clock : replay.clock ≤ 2 ^ 43 - 2

-- its acknowledgements are as far as the course tells
abbrev pub HasCounted : Script → Replay → Type 0
HasCounted script replay = AreCounted script replay.book.batches (courses_of replay.nodes.items) replay.acks

-- its links go to its nodes, and have passed on all that these were handed
pub record AreEnds (script : Script) (replay : Replay) (links : List NodeLinkView) : Type 0 where
  pub linked : IsLinked script (course_of replay) (meanings_of links)
  pub passed : ArePassed links replay.nodes.items

-- ---- the steps of a client

-- there is such a client, with a step left
pub record CanStep (replay : Replay) (client : ℕ) : Type 0 where
  pub there : client < length replay.positions
  pub few : next_at replay.positions client < 4096

-- the client is at its next step
abbrev pub moved_in : Replay → ℕ → Replay
moved_in replay client = record replay { positions = moved_on replay.positions client }

-- it may submit a task to a queue
pub record CanSubmit (replay : Replay) (client queue : ℕ) : Type 0 where
  pub steps : CanStep replay client
  pub lane : client < length replay.tasks.words
  pub vacant : word_of replay.tasks client (next_at replay.positions client) ≡ word.Vacant
  pub known : queue < length replay.waiting.priorities
  pub told : queue < length replay.tasks.sizes
  pub room : size_of replay.tasks queue < 2 ^ 32 - 1
  pub moment : IsInside replay.ats client (next_at replay.positions client)

abbrev pub with_course : Replay → Course → Replay
with_course replay k = record replay {
  book = k.book;
  waiting = record replay.waiting { waiting = k.waiting };
  tasks = k.tasks;
  ats = k.ats;
  positions = k.positions;
  awaited = k.awaited;
}

abbrev pub submitted_in : Replay → ℕ → ℕ → Task → Option ℕ → Replay
submitted_in replay client queue task timeout = with_course replay (submitted_by (course_of replay) client replay.clock queue task timeout)

-- it may ask how far the task of an earlier step is
pub record CanAwait (replay : Replay) (client earlier : ℕ) : Type 0 where
  pub steps : CanStep replay client
  pub place : client < length replay.awaited
  pub lane : client < length replay.tasks.words
  pub within : IsWithin replay.tasks (id_at client earlier)
  pub submitted : word_of replay.tasks client earlier ≢ word.Vacant

abbrev pub awaited_in : Replay → ℕ → ℕ → Option Serial
awaited_in replay client earlier = option_map (at_clock replay.clock) (awaited_by (course_of replay) client (batch_told (word_of replay.tasks client earlier)))

-- a client has seen the end of a task of a batch, and is at its next step
abbrev pub seen_in : Replay → ℕ → ℕ → Replay
seen_in replay client batch = record replay {
  positions = moved_on replay.positions client;
  awaited = slice_set replay.awaited client (max (seen_at replay.awaited client) batch);
}

-- so it is of an await for an acknowledgement
abbrev pub ack_awaited_in : Script → Replay → ℕ → ℕ → Option Serial
ack_awaited_in script replay client earlier =
    option_map (at_clock replay.clock) (awaited_by (course_of replay) client (ack_told (ack_end_in script (course_of replay) client earlier) (word_of replay.tasks client earlier)))

-- what it is told of the task's batch, where the acknowledgement is open or isn't
abbrev pub outcome_polled : Bool → ℕ → Outcome → Option ℕ
outcome_polled open_still batch (outcome.Ok version) = if open_still then None else Some batch
outcome_polled open_still batch _ = Some batch

abbrev pub code_polled : Bool → EndCode → Option ℕ
code_polled open_still code = outcome_polled open_still code.batch code.outcome

abbrev pub poll_told : Bool → TaskPoll → Option ℕ
poll_told open_still poll.NotYet = None
poll_told open_still (poll.Timed reading) = Some 0
poll_told open_still (poll.Ended code) = code_polled open_still code

-- it may sleep
pub record CanSleep (replay : Replay) (client ms : ℕ) : Type 0 where
  pub steps : CanStep replay client
  pub expire : CanExpire (due replay.clock ms) replay.waiting.waiting replay.tasks

abbrev pub slept_in : Replay → ℕ → ℕ → Replay
slept_in replay client ms = record replay {
  tasks = all_expired (due replay.clock ms) replay.waiting.waiting replay.tasks;
  positions = moved_on replay.positions client;
  clock = due replay.clock ms;
  acks = timed_all (due replay.clock ms) replay.acks;
}

-- ---- a node

-- the version that a node of a number has applied
abbrev pub version_of : Option Node → ℕ
version_of None = 0
version_of (Some node) = node.state.version

-- it answers the acknowledgements of that version
abbrev pub answered_in : Replay → ℕ → Replay
answered_in replay number = record replay { acks = settled number (version_of (slice_get replay.nodes.items number)) replay.acks }

-- ---- a batch

-- when the last batch was taken and committed: the clock stands still meanwhile
abbrev pub times_of : Replay → Times
times_of replay = record { at = replay.clock; commit = replay.clock }

-- the acknowledgements of the last batch begin to count
abbrev pub counted_in : Script → Replay → Replay
counted_in script replay = record replay {
  acks = counted_all script replay.book.world.state (times_of replay) (last_entries replay.book.batches) replay.book.ends replay.acks;
}

-- over its links, of which none fails, a batch is the one that the script asks for
pub record IsOverLinks (script : Script) (replay : Replay) (links : List LinkMeaning) : Type 0 where
  pub of : AreLinksOf script.nodes replay.book.world links
  pub sure : AllByRecursion (λ l. l.reliable ≡ true) links
  pub room : HaveRoom links
  pub faults : script.faults ≡ []
  pub clock : replay.clock ≤ 2 ^ 43 - 2
