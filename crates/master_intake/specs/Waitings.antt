-- The waiting list: the tasks that were submitted and not taken yet, in the order of submission; and which of them the
-- master takes next. That a more urgent queue comes first, and that all that waits in a queue is taken together, are
-- Elasticsearch's rules (`MasterService`); that of equally urgent queues the one with the earliest entry comes first is
-- this project's own.
use Rattle.std.specs.Prelude.{ℕ, Bool, not, ◌==◌, List, [], ◌∷◌, map, filter, Option, Some, None, nat_lt, slice_get, if◌then◌else◌}
use Rattle.scripts.specs.declared.queues.Priority.{Priority}
use Rattle.scripts.specs.declared.queues.Priority.TheVariants.{Immediate, Urgent, High, Normal, Low, Languid}
use Rattle.scripts.specs.declared.queues.QueueSpec.{QueueSpec}
use Rattle.master_intake.specs.declared.entries.Waiting.{Waiting}
use Rattle.master_intake.specs.declared.entries.WaitingTask.{WaitingTask}

-- how urgent a priority is; 0 is served first
abbrev pub rank_of : Priority → ℕ
rank_of Immediate = 0
rank_of Urgent = 1
rank_of High = 2
rank_of Normal = 3
rank_of Low = 4
rank_of Languid = 5

abbrev pub rank_if : Option Priority → ℕ
rank_if None = 6
rank_if (Some priority) = rank_of priority

-- the priorities of queues, by their numbers
abbrev pub priorities_of : List QueueSpec → List Priority
priorities_of queues = map (λ q. q.priority) queues

-- how urgent the queue of a number is
abbrev pub rank_at : List Priority → ℕ → ℕ
rank_at priorities number = rank_if (slice_get priorities number)

-- the one of two entries that is served first: the more urgent and, of equally urgent ones, the earlier
abbrev pub sooner : List Priority → Waiting → Waiting → Waiting
sooner priorities first next = if nat_lt (rank_at priorities next.queue) (rank_at priorities first.queue) then next else first

-- the one of an entry and those after it that is served first
abbrev pub soonest : List Priority → Waiting → List Waiting → Waiting
soonest priorities first [] = first
soonest priorities first (next ∷ more) = soonest priorities (sooner priorities first next) more

-- the queue that is served next, by its number
abbrev pub next_queue : List Priority → List Waiting → Option ℕ
next_queue priorities [] = None
next_queue priorities (first ∷ more) = Some (soonest priorities first more).queue

abbrev pub is_in : ℕ → Waiting → Bool
is_in number waiting = waiting.queue == number

-- all that waits in a queue, and all that waits elsewhere
abbrev pub taken_from : ℕ → List Waiting → List Waiting
taken_from number all = filter (is_in number) all

abbrev pub left_by : ℕ → List Waiting → List Waiting
left_by number all = filter (λ w. not (is_in number w)) all

abbrev pub entries_of : List Waiting → List WaitingTask
entries_of all = map (λ w. w.entry) all
