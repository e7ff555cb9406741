-- A countdown of answers: for the version that was committed, which nodes' answers are missing, how many answers were
-- failures, and whether the time ran out before the last answer. That an acknowledgement waits for each required node
-- and for no longer than its timeout is Elasticsearch's (`AckCountDownListener`). That answers go on being counted after
-- a timeout is this project's own.
use Rattle.std.specs.Prelude.{◌≡◌, ◌⊎◌, ℕ, ◌+◌, ◌≤◌, ◌==◌, Bool, true, List, length, nat_le, Option, Some, None, if◌then◌else◌}
use Rattle.ack_words.specs.declared.answers.AckExpiry.{AckExpiry}
use Rattle.ack_words.specs.declared.answers.AckPoll.{AckPoll}
use Rattle.ack_words.specs.Masks.{has_node, is_without_nodes, node_count, without_node}

pub record Countdown : Type 0 where
  pub version : ℕ
  pub missing : List Bool
  pub failures : ℕ
  pub timed : Bool

-- there are no more failures than nodes whose answer was given
pub record IsCounted (missing : List Bool) (failures : ℕ) : Type 0 where
  pub within : failures + node_count missing ≤ length missing

-- The countdown of a commit, of which the answers of these nodes are missing. Where it is late, the time ran out before.
abbrev pub begun : ℕ → List Bool → Bool → Countdown
begun version must late = record {
  version = version;
  missing = must;
  failures = 0;
  timed = late;
}

-- whether the answer of a node is missing
abbrev pub awaits : ℕ → Countdown → Bool
awaits node countdown = has_node node countdown.missing

-- the version, where the answer of a node to it is missing
abbrev pub asked_of : ℕ → Countdown → Option ℕ
asked_of node countdown = if awaits node countdown then Some countdown.version else None

-- after an answer of a node
abbrev pub answered : ℕ → Countdown → Countdown
answered node countdown = record countdown { missing = without_node node countdown.missing }

-- after a failure of a node, which counts where its answer is missing
abbrev pub failed : ℕ → Countdown → Countdown
failed node countdown = record countdown {
  missing = without_node node countdown.missing;
  failures = if awaits node countdown then countdown.failures + 1 else countdown.failures;
}

-- after the time ran out
abbrev pub timed_out : Countdown → Countdown
timed_out countdown = record countdown { timed = true }

-- ---- what decides it

-- What a try to let it time out at this reading is answered: it wins exactly where an answer is missing, it has not timed
-- out before, and its deadline is at most the reading. A countdown of which no answer is missing is answered as finished,
-- also where it had timed out: which of the two decided it, a client's look tells.
abbrev pub expiry_of : ℕ → ℕ → Countdown → AckExpiry
expiry_of deadline reading countdown =
    if is_without_nodes countdown.missing then AckExpiry.Finished
    else if countdown.timed then AckExpiry.TimedBefore
    else if nat_le deadline reading then AckExpiry.Won
    else AckExpiry.NotDue deadline

-- what a client learns of so many failures where no answer is missing
abbrev pub told_of : ℕ → AckPoll
told_of failures = if failures == 0 then AckPoll.All else AckPoll.Failed failures

-- What a client learns. What timed out stays so, whatever answers come later; else the last answer decides.
abbrev pub poll_of : Countdown → AckPoll
poll_of countdown =
    if countdown.timed then AckPoll.TimedOut
    else if is_without_nodes countdown.missing then told_of countdown.failures
    else AckPoll.NotYet

-- It is decided once it timed out, or no answer is missing. What a client learns stays the same from then on.
abbrev pub IsDecided : Countdown → Type 0
IsDecided countdown = (countdown.timed ≡ true) ⊎ (is_without_nodes countdown.missing ≡ true)
