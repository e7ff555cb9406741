-- The events of a session: each carries its readings, and acts on a course or can't. No rule asks where the readings come
-- from, or in which order.
use Rattle.std.specs.Prelude.{ℕ, List, [], ◌∷◌, Option, Some, None, slice_get, slice_set, if◌then◌else◌}
use Rattle.std.specs.Option.{option_map}
use Rattle.scripts.specs.declared.whole_script.Script.{Script}
use Rattle.scripts.specs.declared.task_id.TaskId.{TaskId}
use Rattle.task_words.specs.Words.{IsWithin, TaskTable, expiry_of, timed_by, word_at}
use Rattle.master_intake.specs.declared.entries.Waiting.{Waiting}
use Rattle.master_run.specs.AckCourses.{acked_in, lapse_after}
use Rattle.master_run.specs.Courses.{Course}
use Rattle.master_run.specs.Nodes.{applied_node}
use Rattle.master_run.specs.Servings.{has_some_in, served}
use Rattle.master_run.specs.Steps.{performed}

pub data Event : Type 0 where
  -- a client performs its next step, at a reading
  Perform : (client at : ℕ) → Event
  -- the master serves a queue in which something waits, which is taken at a reading and committed at another
  Serve : (queue at commit : ℕ) → Event
  -- a node, by its number, applies the first commit that it has left
  Apply : (node : ℕ) → Event
  -- a task times out at a reading, where it waits and its deadline is at most that
  Expire : (id : TaskId) (reading : ℕ) → Event
  -- each acknowledgement times out at a reading, where it is open and its deadline is at most that
  ExpireAcks : (reading : ℕ) → Event

-- a task that waits times out where its deadline is at most a reading
abbrev pub expired : TaskId → ℕ → TaskTable → TaskTable
expired id reading tasks = timed_by reading id (expiry_of reading (word_at tasks id)) tasks

-- so does each of what waits, in order
abbrev pub all_expired : ℕ → List Waiting → TaskTable → TaskTable
all_expired reading [] tasks = tasks
all_expired reading (first ∷ more) tasks = all_expired reading more (expired first.entry.id reading tasks)

-- a node applies the first commit that it has left; none where it has none
abbrev pub applied : Script → ℕ → Course → Option Course
applied script number k =
    option_map (λ has. record k { nodes = slice_set k.nodes number has }) (applied_node script (slice_get script.nodes number) (slice_get k.nodes number))

-- each acknowledgement times out at a reading, where it is open and its deadline is at most that
abbrev pub all_lapsed : Script → ℕ → Course → ℕ → ℕ → Option ℕ
all_lapsed script reading k client step =
    lapse_after script k.book.batches k.nodes reading (k.lapses client step) (acked_in script k.book.batches client step)

-- what an event makes of a course; none where it can't act
abbrev pub event : Script → Event → Course → Option Course
event script (Perform client at) k = performed script client at k
event script (Serve queue at commit) k = if has_some_in queue k.waiting then Some (served script queue at commit k) else None
event script (Apply node) k = applied script node k
event script (Expire id reading) k = Some (record k { tasks = expired id reading k.tasks })
event script (ExpireAcks reading) k = Some (record k { lapses = all_lapsed script reading k })

-- ---- what the code of this asks

-- each of what waits has a word, after those before it
abbrev pub CanExpire : ℕ → List Waiting → TaskTable → Type 0
CanExpire reading [] tasks = Unit {0}
CanExpire reading (first ∷ more) tasks = IsWithin tasks first.entry.id × CanExpire reading more (expired first.entry.id reading tasks)
