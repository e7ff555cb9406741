-- How a task ended, as its word tells it: the outcome of a task of a batch stands there with the batch's number.
use Rattle.std.specs.Prelude.{ℕ, ◌-◌, ◌^◌, Option, Some, None}
use Rattle.session_law.specs.declared.task_ends.TaskEnd.{TaskEnd}
use Rattle.session_law.specs.declared.task_ends.TaskEnd.TheVariants as end
use Rattle.session_law.specs.DueTimes.{due}
use Rattle.task_words.specs.declared.end_codes.EndCode.{EndCode}
use Rattle.task_words.specs.declared.end_codes.Outcome.{Outcome}
use Rattle.task_words.specs.declared.end_codes.Outcome.TheVariants as outcome
use Rattle.task_words.specs.declared.words.Word.{Word}
use Rattle.task_words.specs.declared.words.Word.TheVariants as word

-- the outcome that a word tells of an end; the last two are none of a task in a batch
abbrev pub outcome_by : TaskEnd → Outcome
outcome_by (end.Ok version) = outcome.Ok version
outcome_by (end.Unchanged version) = outcome.Unchanged version
outcome_by (end.Refused refusal) = outcome.Refused refusal
outcome_by (end.BatchFailed position refusal) = outcome.BatchFailed position refusal
outcome_by end.NotMaster = outcome.NotMaster
outcome_by end.PublishFailed = outcome.PublishFailed
outcome_by (end.Timeout deadline reading) = outcome.Closed
outcome_by (end.Closed client step) = outcome.Closed

-- what a word tells of the end of a task in a batch
abbrev pub code_of : ℕ → TaskEnd → EndCode
code_of batch end = record { batch = batch; outcome = outcome_by end }

-- the end that an outcome tells of; none where the task was closed, as no step closes yet
abbrev pub end_by : Outcome → Option TaskEnd
end_by (outcome.Ok version) = Some (end.Ok version)
end_by (outcome.Unchanged version) = Some (end.Unchanged version)
end_by (outcome.Refused refusal) = Some (end.Refused refusal)
end_by (outcome.BatchFailed position refusal) = Some (end.BatchFailed position refusal)
end_by outcome.NotMaster = Some end.NotMaster
end_by outcome.PublishFailed = Some end.PublishFailed
end_by outcome.Closed = None

-- when a task that may wait so long times out; 2 ^ 43 - 1 stands for never, since no clock answers that moment
abbrev pub deadline_of : ℕ → Option ℕ → ℕ
deadline_of at None = 2 ^ 43 - 1
deadline_of at (Some timeout) = due at timeout

-- how a task ended, by its word, by when it was submitted and by how long it may wait; none where it hasn't
abbrev pub end_of_word : ℕ → Option ℕ → Word → Option TaskEnd
end_of_word at timeout word.Vacant = None
end_of_word at timeout (word.Queued seen deadline) = None
end_of_word at timeout (word.Taken seen batch) = None
end_of_word at timeout (word.Ended code) = end_by code.outcome
end_of_word at timeout (word.Timed reading) = Some (end.Timeout (deadline_of at timeout) reading)
