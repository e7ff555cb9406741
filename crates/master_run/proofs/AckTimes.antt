-- Time and the acknowledgements: the code's try at each number that may be open does what the course says of each step.
use Rattle.std.specs.Prelude.{◌≡◌, ℕ, ◌-◌, ◌^◌, ◌<◌, ◌==◌, Bool, true, false, not, ◌&&◌, ◌||◌, List, [], ◌∷◌, length, nat_le, cond, Option, Some, None, is_some, option_map, IsTrue, refl, if◌then◌else◌}
use Rattle.std.proofs.Common.{sym, ◌∙◌, ap, subst}
use Rattle.std.proofs.Math.Bool.{true≢false}
use Rattle.std.proofs.lemmas.Bool.{lt-leb}
use Rattle.std.proofs.lemmas.List.{get_or-set_other, get_or-set_same, length-set}
use Rattle.std.specs.Cmp.{unsigned_Decides}
use Rattle.ack_words.specs.declared.answers.AckExpiry.{AckExpiry}
use Rattle.ack_words.specs.declared.words.AckWord.{AckWord}
use Rattle.ack_words.specs.Acks.{expired_by, word_at, word_expiry, word_timed}
use Rattle.ack_words.specs.Countdowns.{Countdown, timed_out}
use Rattle.ack_words.specs.Masks.{is_without_nodes}
use Rattle.scripts.specs.declared.whole_script.Script.{Script}
use Rattle.scripts.specs.declared.whole_script.ScriptNode.{ScriptNode}
use Rattle.scripts.specs.declared.steps.Step.{Step}
use Rattle.session_law.specs.declared.batches.Batch.{Batch}
use Rattle.session_law.specs.Acknowledgements.{asked_ack, is_over_at, missing_of}
use Rattle.session_law.specs.DueTimes.{due}
use Rattle.session_law.specs.Histories.{step_at}
use Rattle.master_run.specs.AckBooks.{AckBook, IsAckBook, Slot, ack_number, is_among, is_in_lane, is_open_word, lapses_of, read_by, reading_at, slot_at, timed_all, timed_each, timed_one}
use Rattle.master_run.specs.AckCounts.{AreCounted, IsCountdown, IsWordOf}
use Rattle.master_run.specs.AckCourses.{Acked, acked_in, acked_of, awaits_some, commit_in, due_in, end_by_time, is_late, lapse_after, lapsed_by, timed_end}
use Rattle.master_run.specs.Endings.{deadline_of}
use Rattle.master_run.specs.Nodes.{NodeCourse}
use Rattle.master_run.proofs.AckLanes.{out_of_lane}
use Rattle.master_run.proofs.AckMissing.{missing_awaits}
use Rattle.master_run.proofs.Keeping.{false_from, or_left, or_right}

-- ---- what a try does at its number

abbrev is_won : AckExpiry → Bool
is_won AckExpiry.Won = true
is_won AckExpiry.Finished = false
is_won AckExpiry.TimedBefore = false
is_won (AckExpiry.NotDue deadline) = false
is_won AckExpiry.NotCommitted = false

abbrev does_win : ℕ → AckWord → Bool
does_win reading word = is_won (word_expiry reading word)

abbrev slot_if : ℕ → Bool → Slot → Slot
slot_if reading true p = record { word = word_timed p.word; reading = Some reading }
slot_if reading false p = p

abbrev tried : ℕ → Slot → Slot
tried reading p = slot_if reading (does_win reading p.word) p

abbrev book_by : ℕ → ℕ → AckExpiry → AckBook → AckBook
book_by reading number answer b = record b { words = expired_by number answer b.words; readings = read_by reading number answer b.readings }

same_by : (reading number : ℕ) (answer : AckExpiry) (b : AckBook) → number < length b.words.words → number < length b.readings
    → slot_at (book_by reading number answer b) number ≡ slot_if reading (is_won answer) (slot_at b number)
same_by reading number AckExpiry.Won b below also = λ i. record {
  word = get_or-set_same b.words.words number (word_timed (word_at b.words number)) AckWord.Vacant below i;
  reading = get_or-set_same b.readings number (Some reading) None also i;
}
same_by reading number AckExpiry.Finished b below also = refl
same_by reading number AckExpiry.TimedBefore b below also = refl
same_by reading number (AckExpiry.NotDue deadline) b below also = refl
same_by reading number AckExpiry.NotCommitted b below also = refl

one_same : (reading number : ℕ) (b : AckBook) → number < length b.words.words → number < length b.readings
    → slot_at (timed_one reading number b) number ≡ tried reading (slot_at b number)
one_same reading number b below also = same_by reading number (word_expiry reading (word_at b.words number)) b below also

-- ---- what it leaves

other_by : (reading number other : ℕ) (answer : AckExpiry) (b : AckBook) → (other ≡ number → ⊥) → slot_at (book_by reading number answer b) other ≡ slot_at b other
other_by reading number other AckExpiry.Won b apart = λ i. record {
  word = get_or-set_other b.words.words number other (word_timed (word_at b.words number)) AckWord.Vacant apart i;
  reading = get_or-set_other b.readings number other (Some reading) None apart i;
}
other_by reading number other AckExpiry.Finished b apart = refl
other_by reading number other AckExpiry.TimedBefore b apart = refl
other_by reading number other (AckExpiry.NotDue deadline) b apart = refl
other_by reading number other AckExpiry.NotCommitted b apart = refl

one_other : (reading number other : ℕ) (b : AckBook) → (other ≡ number → ⊥) → slot_at (timed_one reading number b) other ≡ slot_at b other
one_other reading number other b apart = other_by reading number other (word_expiry reading (word_at b.words number)) b apart

-- how many words, readings and nodes there are, the lanes, and the list
record HasSameCounts (b now : AckBook) : Type 0 where
  pub lanes : now.lanes ≡ b.lanes
  pub words : length now.words.words ≡ length b.words.words
  pub readings : length now.readings ≡ length b.readings
  pub applied : length now.words.applied ≡ length b.words.applied
  pub opened : now.opened ≡ b.opened

counts_by : (reading number : ℕ) (answer : AckExpiry) (b : AckBook) → HasSameCounts b (book_by reading number answer b)
counts_by reading number AckExpiry.Won b = record {
  lanes = refl;
  words = length-set b.words.words number (word_timed (word_at b.words number));
  readings = length-set b.readings number (Some reading);
  applied = refl;
  opened = refl;
}
counts_by reading number AckExpiry.Finished b = record { lanes = refl; words = refl; readings = refl; applied = refl; opened = refl }
counts_by reading number AckExpiry.TimedBefore b = record { lanes = refl; words = refl; readings = refl; applied = refl; opened = refl }
counts_by reading number (AckExpiry.NotDue deadline) b = record { lanes = refl; words = refl; readings = refl; applied = refl; opened = refl }
counts_by reading number AckExpiry.NotCommitted b = record { lanes = refl; words = refl; readings = refl; applied = refl; opened = refl }

one_counts : (reading number : ℕ) (b : AckBook) → HasSameCounts b (timed_one reading number b)
one_counts reading number b = counts_by reading number (word_expiry reading (word_at b.words number)) b

each_counts : (reading : ℕ) (all : List ℕ) (b : AckBook) → HasSameCounts b (timed_each reading all b)
each_counts reading [] b = record { lanes = refl; words = refl; readings = refl; applied = refl; opened = refl }
each_counts reading (number ∷ more) b =
    let one = one_counts reading number b in
    let rest = each_counts reading more (timed_one reading number b) in
    record {
      lanes = rest.lanes ∙ one.lanes;
      words = rest.words ∙ one.words;
      readings = rest.readings ∙ one.readings;
      applied = rest.applied ∙ one.applied;
      opened = rest.opened ∙ one.opened;
    }

-- ---- a second try, and a try at what isn't open

won_by : (deadline : ℕ) (none timed over : Bool)
    → is_won (if none then AckExpiry.Finished else if timed then AckExpiry.TimedBefore else if over then AckExpiry.Won else AckExpiry.NotDue deadline) ≡ (not timed && (not none && over))
won_by deadline true true over = refl
won_by deadline true false over = refl
won_by deadline false true over = refl
won_by deadline false false true = refl
won_by deadline false false false = refl

-- a word wins where it isn't timed, a node is missing and its deadline is there
word_won : (reading deadline : ℕ) (countdown : Countdown)
    → does_win reading (AckWord.Counting deadline countdown) ≡ (not countdown.timed && (not (is_without_nodes countdown.missing) && nat_le deadline reading))
word_won reading deadline countdown = won_by deadline (is_without_nodes countdown.missing) countdown.timed (nat_le deadline reading)

timed_loses : (reading : ℕ) (word : AckWord) → does_win reading (word_timed word) ≡ false
timed_loses reading AckWord.Vacant = refl
timed_loses reading (AckWord.Started deadline) = refl
timed_loses reading (AckWord.Counting deadline countdown) = word_won reading deadline (timed_out countdown)

again_by : (reading : ℕ) (p : Slot) (b : Bool) → does_win reading p.word ≡ b → tried reading (slot_if reading b p) ≡ slot_if reading b p
again_by reading p true e = ap (λ (b : Bool). slot_if reading b (slot_if reading true p)) (timed_loses reading p.word)
again_by reading p false e = ap (λ (b : Bool). slot_if reading b p) e

tried_again : (reading : ℕ) (p : Slot) → tried reading (tried reading p) ≡ tried reading p
tried_again reading p = again_by reading p (does_win reading p.word) refl

open_by : (untimed some over : Bool) → (untimed && some) ≡ false → (untimed && (some && over)) ≡ false
open_by true true over e = absurd (true≢false e)
open_by true false over e = refl
open_by false some over e = refl

closed_loses : (reading : ℕ) (word : AckWord) → is_open_word word ≡ false → does_win reading word ≡ false
closed_loses reading AckWord.Vacant e = refl
closed_loses reading (AckWord.Started deadline) e = refl
closed_loses reading (AckWord.Counting deadline countdown) e =
    word_won reading deadline countdown ∙ open_by (not countdown.timed) (not (is_without_nodes countdown.missing)) (nat_le deadline reading) e

closed_tried : (reading : ℕ) (p : Slot) → is_open_word p.word ≡ false → tried reading p ≡ p
closed_tried reading p e = ap (λ (b : Bool). slot_if reading b p) (closed_loses reading p.word e)

-- nothing is open that wasn't
timed_closed : (word : AckWord) → is_open_word (word_timed word) ≡ false
timed_closed AckWord.Vacant = refl
timed_closed (AckWord.Started deadline) = refl
timed_closed (AckWord.Counting deadline countdown) = refl

open_if : (reading : ℕ) (b : Bool) (p : Slot) → is_open_word (slot_if reading b p).word ≡ true → is_open_word p.word ≡ true
open_if reading false p e = e
open_if reading true p e = absurd (true≢false (sym e ∙ timed_closed p.word))

-- ---- tries at all that may be open

apart_from : (number other : ℕ) → (number == other) ≡ false → other ≡ number → ⊥
apart_from number other e same = true≢false (sym ((unsigned_Decides number other).1 (sym same)) ∙ e)

one_by : (reading number other : ℕ) (b : AckBook) (first : Bool) → (number == other) ≡ first → (first ≡ true → (other < length b.words.words) × (other < length b.readings))
    → slot_at (timed_one reading number b) other ≡ cond first (tried reading (slot_at b other)) (slot_at b other)
one_by reading number other b true e there =
    let same : number ≡ other = (unsigned_Decides number other).0 e in
    ap (λ (n : ℕ). slot_at (timed_one reading n b) other) same ∙ one_same reading other b (there refl).0 (there refl).1
one_by reading number other b false e there = one_other reading number other b (apart_from number other e)

-- the slot at a number before and after the first of several tries
join_by : (reading : ℕ) (first among : Bool) (p q : Slot) → q ≡ cond first (tried reading p) p → ((first || among) ≡ false → tried reading p ≡ p)
    → (among ≡ false → tried reading q ≡ q) × (tried reading q ≡ tried reading p)
join_by reading true among p q e closed =
    let same = ap (tried reading) e ∙ tried_again reading p in
    (λ (none : among ≡ false). same ∙ sym e, same)
join_by reading false among p q e closed = (λ (none : among ≡ false). ap (tried reading) e ∙ closed none ∙ sym e, ap (tried reading) e)

-- after tries at all that are listed, a number is as after one, if it isn't changed by one where it isn't listed
each_tried : (reading other : ℕ) (all : List ℕ) (b : AckBook) → (is_among other all ≡ false → tried reading (slot_at b other) ≡ slot_at b other)
    → (is_among other all ≡ true → (other < length b.words.words) × (other < length b.readings))
    → slot_at (timed_each reading all b) other ≡ tried reading (slot_at b other)
each_tried reading other [] b closed there = sym (closed refl)
each_tried reading other (number ∷ more) b closed there =
    let now = timed_one reading number b in
    let counts = one_counts reading number b in
    let first = number == other in
    let among = is_among other more in
    let one = one_by reading number other b first refl (λ (e : first ≡ true). there (or_left first among e)) in
    let joined = join_by reading first among (slot_at b other) (slot_at now other) one closed in
    each_tried reading other more now joined.0
    (λ e. (subst (λ (n : ℕ). other < n) (sym counts.words) (there (or_right first among e)).0, subst (λ (n : ℕ). other < n) (sym counts.readings) (there (or_right first among e)).1))
    ∙ joined.1

-- ---- the course says the same

deadline_same : (at reading : ℕ) (timeout : Option ℕ) → reading < 2 ^ 43 - 1 → nat_le (deadline_of at timeout) reading ≡ is_over_at reading (option_map (due at) timeout)
deadline_same at reading None few = lt-leb (2 ^ 43 - 1) reading few
deadline_same at reading (Some timeout) few = refl

or_some : (late : Bool) → (late || true) ≡ true
or_some true = refl
or_some false = refl

-- whether it times out at a reading by the course
abbrev lapses_now : ℕ → Bool → Bool → Acked → Bool
lapses_now reading timed waits a = not timed && (waits && is_over_at reading (due_in a))

lapse_timed : (reading at : ℕ) (a : Acked) (lapse deadline : Option ℕ) → due_in a ≡ deadline → lapsed_by reading lapse a (timed_end deadline at) ≡ lapse
lapse_timed reading at a lapse None e = ap (λ (d : Option ℕ). cond (is_over_at reading d) (Some reading) lapse) e
lapse_timed reading at a lapse (Some deadline) e = refl

lapse_by : (reading commit missing : ℕ) (a : Acked) (late : Bool) (lapse : Option ℕ) (waits : Bool)
    → lapsed_by reading lapse a (end_by_time late commit (due_in a) lapse waits missing) ≡ cond (lapses_now reading (late || is_some lapse) waits a) (Some reading) lapse
lapse_by reading commit missing a true lapse waits = lapse_timed reading commit a lapse (due_in a) refl
lapse_by reading commit missing a false (Some at) waits = lapse_timed reading at a (Some at) (due_in a) refl
lapse_by reading commit missing a false None true = refl
lapse_by reading commit missing a false None false = refl

-- whether its word does
wins_by : (reading : ℕ) (a : Acked) (none waits over timed : Bool) → over ≡ is_over_at reading (due_in a) → (timed ≡ false → none ≡ not waits) → (not timed && (not none && over)) ≡ lapses_now reading timed waits a
wins_by reading a none waits over true e waiting = refl
wins_by reading a none true over false e waiting = λ i. not (waiting refl i) && e i
wins_by reading a none false over false e waiting = ap (λ (b : Bool). not b && over) (waiting refl)

wins_so : (reading : ℕ) (a : Acked) (nodes : List ScriptNode) (have : List NodeCourse) (lapse : Option ℕ) (word : AckWord) → reading < 2 ^ 43 - 1 → IsCountdown nodes have a lapse word
    → does_win reading word ≡ lapses_now reading (is_late a || is_some lapse) (awaits_some a nodes have) a
wins_so reading a nodes have lapse word few c =
    let at = a.stepped.batch.at in
    let deadline = deadline_of at a.asked.timeout in
    let none = is_without_nodes c.countdown.missing in
    let waits = awaits_some a nodes have in
    ap (does_win reading) c.is ∙ word_won reading deadline c.countdown
    ∙ wins_by reading a none waits (nat_le deadline reading) c.countdown.timed (deadline_same at reading a.asked.timeout few)
    (λ untimed. missing_awaits a nodes have c.countdown (c.missing untimed))
    ∙ ap (λ (timed : Bool). lapses_now reading timed waits a) c.timed

slot_reading : (reading : ℕ) (b : Bool) (p : Slot) → (slot_if reading b p).reading ≡ cond b (Some reading) p.reading
slot_reading reading true p = refl
slot_reading reading false p = refl

reading_tried : (script : Script) (batches : List Batch) (have : List NodeCourse) (reading : ℕ) (a : Option Acked) (p : Slot) → reading < 2 ^ 43 - 1
    → IsWordOf script.nodes have a p.reading p.word → (tried reading p).reading ≡ lapse_after script batches have reading p.reading a
reading_tried script batches have reading None p few h = ap (λ (w : AckWord). (slot_if reading (does_win reading w) p).reading) h
reading_tried script batches have reading (Some a) p few h =
    slot_reading reading (does_win reading p.word) p
    ∙ ap (λ (b : Bool). cond b (Some reading) p.reading) (wins_so reading a script.nodes have p.reading p.word few h)
    ∙ sym (lapse_by reading (commit_in a) (missing_of script batches a.asked a.version) a (is_late a) p.reading (awaits_some a script.nodes have))

-- ---- the word is as far as the course says

timed_countdown : (nodes : List ScriptNode) (have : List NodeCourse) (reading : ℕ) (a : Acked) (lapse : Option ℕ) (word : AckWord) → IsCountdown nodes have a lapse word
    → IsCountdown nodes have a (Some reading) (word_timed word)
timed_countdown nodes have reading a lapse word c = record {
  countdown = timed_out c.countdown;
  is = ap word_timed c.is;
  version = c.version;
  failures = c.failures;
  timed = sym (or_some (is_late a));
  missing = λ untimed. absurd (true≢false untimed);
}

word_if : (nodes : List ScriptNode) (have : List NodeCourse) (reading : ℕ) (a : Option Acked) (b : Bool) (p : Slot) → IsWordOf nodes have a p.reading p.word
    → IsWordOf nodes have a (slot_if reading b p).reading (slot_if reading b p).word
word_if nodes have reading a false p h = h
word_if nodes have reading None true p h = ap word_timed h
word_if nodes have reading (Some a) true p h = timed_countdown nodes have reading a p.reading p.word h

-- ---- of a book

module _ (script : Script) (batches : List Batch) (have : List NodeCourse) (reading : ℕ) (b : AckBook) (is : IsAckBook b) (h : AreCounted script batches have b) where
  not_open : (number : ℕ) → is_among number b.opened ≡ false → is_open_word (word_at b.words number) ≡ false
  not_open number e = false_from (is_open_word (word_at b.words number)) (λ (opened : is_open_word (word_at b.words number) ≡ true). true≢false (sym (h.listed number opened) ∙ e))

  all_tried : (number : ℕ) → slot_at (timed_all reading b) number ≡ tried reading (slot_at b number)
  all_tried number = each_tried reading number b.opened b (λ e. closed_tried reading (slot_at b number) (not_open number e))
      (λ e. (subst (λ (n : ℕ). number < n) (sym is.words) (is.opened number e), subst (λ (n : ℕ). number < n) (sym is.readings) (is.opened number e)))

  lapses_by : reading < 2 ^ 43 - 1 → (client step : ℕ) (inside : Bool) → is_in_lane b.lanes client step ≡ inside
      → cond inside (reading_at (timed_all reading b) (ack_number b.lanes client step)) None
      ≡ lapse_after script batches have reading (cond inside (reading_at b (ack_number b.lanes client step)) None) (acked_in script batches client step)
  lapses_by few client step true e =
      let number = ack_number b.lanes client step in
      ap (λ (p : Slot). p.reading) (all_tried number)
      ∙ reading_tried script batches have reading (acked_in script batches client step) (slot_at b number) few (h.words client step e)
  lapses_by few client step false e =
      let none : step_at script client step ≡ None = out_of_lane script client step (sym (ap (λ (lanes : List ℕ). is_in_lane lanes client step) h.lanes) ∙ e) in
      sym (ap (λ (found : Option Step). lapse_after script batches have reading None (acked_of script batches client step (asked_ack found))) none)

  pub lapses_timed : reading < 2 ^ 43 - 1 → (client step : ℕ)
      → lapses_of (timed_all reading b) client step ≡ lapse_after script batches have reading (lapses_of b client step) (acked_in script batches client step)
  lapses_timed few client step =
      ap (λ (lanes : List ℕ). cond (is_in_lane lanes client step) (reading_at (timed_all reading b) (ack_number lanes client step)) None) (each_counts reading b.opened b).lanes
      ∙ lapses_by few client step (is_in_lane b.lanes client step) refl

  pub counted_timed : reading < 2 ^ 43 - 1 → AreCounted script batches have (timed_all reading b)
  counted_timed few =
      let counts = each_counts reading b.opened b in
      record {
        lanes = counts.lanes ∙ h.lanes;
        applied = counts.applied ∙ h.applied;
        words = λ client step inside.
            let number = ack_number b.lanes client step in
            let inside_before : is_in_lane b.lanes client step ≡ true = sym (ap (λ (lanes : List ℕ). is_in_lane lanes client step) counts.lanes) ∙ inside in
            let now : IsWordOf script.nodes have (acked_in script batches client step) (reading_at (timed_all reading b) number) (word_at (timed_all reading b).words number) =
            subst (λ (p : Slot). IsWordOf script.nodes have (acked_in script batches client step) p.reading p.word) (sym (all_tried number))
            (word_if script.nodes have reading (acked_in script batches client step) (does_win reading (word_at b.words number)) (slot_at b number) (h.words client step inside_before)) in
            subst (λ (lanes : List ℕ). IsWordOf script.nodes have (acked_in script batches client step) (reading_at (timed_all reading b) (ack_number lanes client step)) (word_at (timed_all reading b).words (ack_number lanes client step)))
            (sym counts.lanes) now;
        listed = λ number opened.
            let before : is_open_word (tried reading (slot_at b number)).word ≡ true = ap (λ (p : Slot). is_open_word p.word) (sym (all_tried number)) ∙ opened in
            subst (λ (all : List ℕ). IsTrue (is_among number all)) (sym counts.opened)
            (h.listed number (open_if reading (does_win reading (word_at b.words number)) (slot_at b number) before));
      }
