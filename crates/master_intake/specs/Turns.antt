-- The queues where something waits, each once, in the order of their first entries: from these the queue that is served
-- next is found without a walk over all that waits.
use Rattle.std.specs.Prelude.{◌≡◌, ◌≤◌, ◌<◌, ℕ, ◌==◌, Bool, List, [], ◌∷◌, ◌++◌, length, Option, Some, None, nat_lt, if◌then◌else◌}
use Rattle.std.specs.List.{AllByRecursion, list_any}
use Rattle.scripts.specs.declared.queues.Priority.{Priority}
use Rattle.scripts.specs.declared.task_id.TaskId.{TaskId}
use Rattle.master_intake.specs.declared.entries.Waiting.{Waiting}
use Rattle.master_intake.specs.Waitings.{rank_at}

abbrev pub is_noted : List ℕ → ℕ → Bool
is_noted turns queue = list_any (λ turn. turn == queue) turns

-- the queues with one more, at the end, except where it is among them
abbrev pub noted : List ℕ → ℕ → List ℕ
noted turns queue = if is_noted turns queue then turns else turns ++ queue ∷ []

-- the queues with those of more entries
abbrev pub turns_on : List ℕ → List Waiting → List ℕ
turns_on turns [] = turns
turns_on turns (first ∷ more) = turns_on (noted turns first.queue) more

abbrev pub turns_of : List Waiting → List ℕ
turns_of waiting = turns_on [] waiting

-- the one of two queues that is served first: the more urgent and, of equally urgent ones, the one before
abbrev pub sooner_turn : List Priority → ℕ → ℕ → ℕ
sooner_turn priorities first next = if nat_lt (rank_at priorities next) (rank_at priorities first) then next else first

abbrev pub soonest_turn : List Priority → ℕ → List ℕ → ℕ
soonest_turn priorities first [] = first
soonest_turn priorities first (next ∷ more) = soonest_turn priorities (sooner_turn priorities first next) more

-- the one of these queues that is served next
abbrev pub next_turn : List Priority → List ℕ → Option ℕ
next_turn priorities [] = None
next_turn priorities (first ∷ more) = Some (soonest_turn priorities first more)

-- what is kept beside the waiting list: the queues where something waits, which all exist, and an empty list with room
-- for the names of all that waits
pub record IsKept (priorities : List Priority) (waiting : List Waiting) (turns : List ℕ) (room : List TaskId) (capacity : ℕ) : Type 0 where
  pub told : turns ≡ turns_of waiting
  pub known : AllByRecursion (λ turn. turn < length priorities) turns
  pub none : room ≡ []
  pub fits : length waiting ≤ capacity
