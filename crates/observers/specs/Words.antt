-- The words of watches: a word for each step of each client, which says how far the watch of that step is. That answer,
-- timeout and close compete for each waiting watch and exactly one of them wins is Elasticsearch's
-- (`ClusterStateObserver`); that the word tells who won is this project's own.
use Rattle.std.specs.Prelude.{ℕ, ◌==◌, ◌≤◌, Bool, true, false, List, count_by, length, map, replicate, sum_by}
use Rattle.meta_state.specs.declared.watch_id.WatchId.{WatchId}
use Rattle.plain_data.specs.Cells.{IsInside, cell_at, with_cell}
use Rattle.observers.specs.declared.answers.AnswerTry.{AnswerTry}
use Rattle.observers.specs.declared.answers.WatchExpiry.{WatchExpiry}
use Rattle.observers.specs.declared.answers.WatchPoll.{WatchPoll}
use Rattle.observers.specs.declared.watch_words.WatchWord.{WatchWord}

-- ---- a table and its words

-- a row of words for each client
abbrev pub WatchTable : Type 0
WatchTable = List (List WatchWord)

abbrev pub vacant_lane : ℕ → List WatchWord
vacant_lane steps = replicate steps WatchWord.Vacant

-- a table of lanes of these lengths, in which nothing was begun yet
abbrev pub vacant_table : List ℕ → WatchTable
vacant_table lanes = map vacant_lane lanes

-- how many words a table has
abbrev pub word_count : WatchTable → ℕ
word_count table = sum_by length table

-- there is a word for the watch
abbrev pub IsWithin : WatchTable → WatchId → Type 0
IsWithin table id = IsInside table id.client id.step

-- the word of a watch: vacant where the table has none
abbrev pub word_at : WatchTable → WatchId → WatchWord
word_at table id = cell_at WatchWord.Vacant table id.client id.step

-- the table with another word of a watch
abbrev pub with_word : WatchId → WatchWord → WatchTable → WatchTable
with_word id word table = with_cell id.client id.step word table

abbrev pub is_waiting : WatchWord → Bool
is_waiting WatchWord.Vacant = false
is_waiting (WatchWord.Waiting node deadline) = true
is_waiting (WatchWord.Answered node version) = false
is_waiting (WatchWord.Timed reading) = false
is_waiting WatchWord.Closed = false

-- whether a watch waits on a node
abbrev pub waits_on : ℕ → WatchWord → Bool
waits_on node WatchWord.Vacant = false
waits_on node (WatchWord.Waiting here deadline) = here == node
waits_on node (WatchWord.Answered here version) = false
waits_on node (WatchWord.Timed reading) = false
waits_on node WatchWord.Closed = false

-- ---- a timeout

-- where a watch waits, this reading isn't below its deadline
abbrev pub IsDue : ℕ → WatchWord → Type 0
IsDue reading WatchWord.Vacant = Unit {0}
IsDue reading (WatchWord.Waiting node deadline) = deadline ≤ reading
IsDue reading (WatchWord.Answered node version) = Unit {0}
IsDue reading (WatchWord.Timed before) = Unit {0}
IsDue reading WatchWord.Closed = Unit {0}

-- what a try to let a watch time out is answered, by the word that it finds: it wins exactly where the watch waits
abbrev pub expiry_of : WatchWord → WatchExpiry
expiry_of WatchWord.Vacant = WatchExpiry.Closed
expiry_of (WatchWord.Waiting node deadline) = WatchExpiry.Won
expiry_of (WatchWord.Answered node version) = WatchExpiry.Answered version
expiry_of (WatchWord.Timed reading) = WatchExpiry.TimedBefore reading
expiry_of WatchWord.Closed = WatchExpiry.Closed

-- the word after it: what doesn't wait stays
abbrev pub timed_word : ℕ → WatchWord → WatchWord
timed_word reading WatchWord.Vacant = WatchWord.Vacant
timed_word reading (WatchWord.Waiting node deadline) = WatchWord.Timed reading
timed_word reading (WatchWord.Answered node version) = WatchWord.Answered node version
timed_word reading (WatchWord.Timed before) = WatchWord.Timed before
timed_word reading WatchWord.Closed = WatchWord.Closed

-- ---- the close step

-- it ends what waits
abbrev pub closed_word : WatchWord → WatchWord
closed_word WatchWord.Vacant = WatchWord.Vacant
closed_word (WatchWord.Waiting node deadline) = WatchWord.Closed
closed_word (WatchWord.Answered node version) = WatchWord.Answered node version
closed_word (WatchWord.Timed reading) = WatchWord.Timed reading
closed_word WatchWord.Closed = WatchWord.Closed

abbrev pub closed_table : WatchTable → WatchTable
closed_table table = map (map closed_word) table

-- how many watches wait
abbrev pub waiting_count : WatchTable → ℕ
waiting_count table = sum_by (count_by is_waiting) table

-- ---- an answer

-- whether a node may try to answer a watch: it waits on the node, timed out, or was ended by the close step
abbrev pub can_answer : ℕ → WatchWord → Bool
can_answer node WatchWord.Vacant = false
can_answer node (WatchWord.Waiting here deadline) = here == node
can_answer node (WatchWord.Answered here version) = false
can_answer node (WatchWord.Timed reading) = true
can_answer node WatchWord.Closed = true

-- what a node's try to answer a watch is answered, by the word that it finds: it wins exactly where that waits
abbrev pub answer_of : WatchWord → AnswerTry
answer_of WatchWord.Vacant = AnswerTry.Closed
answer_of (WatchWord.Waiting node deadline) = AnswerTry.Won
answer_of (WatchWord.Answered node version) = AnswerTry.Closed
answer_of (WatchWord.Timed reading) = AnswerTry.Timed reading
answer_of WatchWord.Closed = AnswerTry.Closed

-- the word after it
abbrev pub answered_word : ℕ → ℕ → WatchWord → WatchWord
answered_word node version WatchWord.Vacant = WatchWord.Vacant
answered_word node version (WatchWord.Waiting here deadline) = WatchWord.Answered node version
answered_word node version (WatchWord.Answered here before) = WatchWord.Answered here before
answered_word node version (WatchWord.Timed reading) = WatchWord.Timed reading
answered_word node version WatchWord.Closed = WatchWord.Closed

-- ---- a client's look

-- what a client learns of a watch that it began: that it isn't yet at its end, exactly where it waits
abbrev pub polled : WatchWord → WatchPoll
polled WatchWord.Vacant = WatchPoll.NotYet
polled (WatchWord.Waiting node deadline) = WatchPoll.NotYet
polled (WatchWord.Answered node version) = WatchPoll.Answered version
polled (WatchWord.Timed reading) = WatchPoll.Timed reading
polled WatchWord.Closed = WatchPoll.Closed
