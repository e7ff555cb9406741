-- The words of acknowledgements: a word for each acknowledgement, which says how far it is, and for each node the
-- greatest version that it has applied. That the last answer or the timeout decides an acknowledgement, whichever comes
-- first, is Elasticsearch's (`AckCountDownListener`). That the words tell which it was is this project's own.
use Rattle.std.specs.Prelude.{ℕ, ◌==◌, max, Bool, true, false, List, get_or, set, replicate, sum, Option, None}
use Rattle.ack_words.specs.declared.answers.AckExpiry.{AckExpiry}
use Rattle.ack_words.specs.declared.answers.AckPoll.{AckPoll}
use Rattle.ack_words.specs.declared.words.AckWord.{AckWord}
use Rattle.ack_words.specs.Countdowns.{answered, asked_of, awaits, begun, expiry_of, failed, poll_of, timed_out}

-- the word of each acknowledgement, by its number, and the applied version of each node
pub record AckTable : Type 0 where
  pub words : List AckWord
  pub applied : List ℕ

-- ---- a table and its words

-- A table of lanes with so many acknowledgements each, numbered through the lanes in order, and of so many nodes: nothing
-- is started, and no node has applied a version.
abbrev pub vacant_table : List ℕ → ℕ → AckTable
vacant_table acks nodes = record {
  words = replicate (sum acks) AckWord.Vacant;
  applied = replicate nodes 0;
}

-- the word of an acknowledgement: vacant where the table has none
abbrev pub word_at : AckTable → ℕ → AckWord
word_at table ack = get_or table.words ack AckWord.Vacant

-- the table with another word of an acknowledgement
abbrev pub with_word : ℕ → AckWord → AckTable → AckTable
with_word ack word table = record table { words = set table.words ack word }

-- the greatest version that a node has applied
abbrev pub applied_at : AckTable → ℕ → ℕ
applied_at table node = get_or table.applied node 0

-- the table after a node applied a version
abbrev pub with_applied : ℕ → ℕ → AckTable → AckTable
with_applied node version table = record table { applied = set table.applied node (max (applied_at table node) version) }

-- ---- the commit

-- whether it is started and nothing is committed for it
abbrev pub is_started : AckWord → Bool
is_started (AckWord.Started _) = true
is_started AckWord.Vacant = false
is_started (AckWord.Counting _ _) = false

-- a started word after the commit of this version, of which the answers of these nodes are missing
abbrev pub committed : ℕ → List Bool → Bool → AckWord → AckWord
committed version must late (AckWord.Started deadline) = AckWord.Counting deadline (begun version must late)
committed _ _ _ AckWord.Vacant = AckWord.Vacant
committed _ _ _ (AckWord.Counting deadline countdown) = AckWord.Counting deadline countdown

-- whether this version was committed for it
abbrev pub counts_for : ℕ → AckWord → Bool
counts_for version (AckWord.Counting _ countdown) = countdown.version == version
counts_for _ AckWord.Vacant = false
counts_for _ (AckWord.Started _) = false

-- ---- the answers of nodes

-- whether a commit was made whose answer of this node is missing
abbrev pub word_awaits : ℕ → AckWord → Bool
word_awaits node (AckWord.Counting _ countdown) = awaits node countdown
word_awaits _ AckWord.Vacant = false
word_awaits _ (AckWord.Started _) = false

-- the version to which the answer of this node is missing: none where there is no commit, or the answer isn't missing
abbrev pub word_asks : ℕ → AckWord → Option ℕ
word_asks node (AckWord.Counting _ countdown) = asked_of node countdown
word_asks _ AckWord.Vacant = None
word_asks _ (AckWord.Started _) = None

-- the word after a node answered that it applied the version
abbrev pub word_answered : ℕ → AckWord → AckWord
word_answered node (AckWord.Counting deadline countdown) = AckWord.Counting deadline (answered node countdown)
word_answered _ AckWord.Vacant = AckWord.Vacant
word_answered _ (AckWord.Started deadline) = AckWord.Started deadline

-- the word after a node failed, which counts where its answer is missing
abbrev pub word_failed : ℕ → AckWord → AckWord
word_failed node (AckWord.Counting deadline countdown) = AckWord.Counting deadline (failed node countdown)
word_failed _ AckWord.Vacant = AckWord.Vacant
word_failed _ (AckWord.Started deadline) = AckWord.Started deadline

-- ---- the timeout

-- what a try to let it time out at this reading is answered, by the word that it finds
abbrev pub word_expiry : ℕ → AckWord → AckExpiry
word_expiry reading (AckWord.Counting deadline countdown) = expiry_of deadline reading countdown
word_expiry _ AckWord.Vacant = AckExpiry.NotCommitted
word_expiry _ (AckWord.Started _) = AckExpiry.NotCommitted

-- the word after the time ran out
abbrev pub word_timed : AckWord → AckWord
word_timed (AckWord.Counting deadline countdown) = AckWord.Counting deadline (timed_out countdown)
word_timed AckWord.Vacant = AckWord.Vacant
word_timed (AckWord.Started deadline) = AckWord.Started deadline

-- the table after a try that is answered so: one that doesn't win changes nothing
abbrev pub expired_by : ℕ → AckExpiry → AckTable → AckTable
expired_by ack AckExpiry.Won table = with_word ack (word_timed (word_at table ack)) table
expired_by _ AckExpiry.Finished table = table
expired_by _ AckExpiry.TimedBefore table = table
expired_by _ (AckExpiry.NotDue _) table = table
expired_by _ AckExpiry.NotCommitted table = table

-- ---- a client's look

-- what a client learns of its acknowledgement, by the word that it finds
abbrev pub word_poll : AckWord → AckPoll
word_poll (AckWord.Counting _ countdown) = poll_of countdown
word_poll AckWord.Vacant = AckPoll.NotYet
word_poll (AckWord.Started _) = AckPoll.NotYet
