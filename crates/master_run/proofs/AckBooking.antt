-- What the code of the acknowledgements keeps: how many words and readings there are, and the bounds of their numbers.
use Rattle.std.specs.Prelude.{◌≡◌, ℕ, zero, suc, ◌<◌, ◌≤◌, ◌^◌, max, Bool, true, false, ◌==◌, ◌||◌, List, [], ◌∷◌, ◌++◌, drop, filter, length, slice_index_or, sum, take, Option, None, Some, option_map, IsTrue, refl, if◌then◌else◌}
use Rattle.std.proofs.Common.{sym, ◌∙◌, ap, subst, arith}
use Rattle.std.proofs.Math.Bool.{true≢false}
use Rattle.std.proofs.lemmas.List.{get_or-set_same, length-set, set-set}
use Rattle.std.proofs.lemmas.List.Sums.{sum_by-take-le}
use Rattle.std.specs.Cmp.{unsigned_Decides}
use Rattle.ack_words.specs.declared.answers.AckExpiry.{AckExpiry}
use Rattle.ack_words.specs.declared.words.AckWord.{AckWord}
use Rattle.ack_words.specs.Acks.{AckTable, applied_at, committed, expired_by, with_applied, with_word, word_at, word_expiry}
use Rattle.ack_words.specs.Countdowns.{begun}
use Rattle.meta_state.specs.declared.cluster_state.ClusterState.{ClusterState}
use Rattle.scripts.specs.declared.whole_script.Script.{Script}
use Rattle.session_law.specs.declared.batches.Entry.{Entry}
use Rattle.session_law.specs.declared.task_ends.TaskEnd.{TaskEnd}
use Rattle.session_law.specs.Acknowledgements.{is_over_at}
use Rattle.session_law.specs.DueTimes.{due}
use Rattle.master_run.specs.declared.acknowledgements.Times.{Times}
use Rattle.master_run.specs.AckBooks.{AckBook, AreBelow, CanCount, IsAckBook, answered_at, answered_each, answered_word, begun_at, counted_each, is_among, loose_book, read_by, timed_all, timed_each, timed_one}
use Rattle.master_run.specs.Endings.{deadline_of}
use Rattle.master_run.proofs.Keeping.{same_number}

pub sum_before : (lanes : List ℕ) (client : ℕ) → sum (take client lanes) ≤ sum lanes
sum_before lanes client = sum_by-take-le (λ (n : ℕ). n) lanes client

pub deadline_small : (at : ℕ) (timeout : Option ℕ) → deadline_of at timeout < 2 ^ 43
deadline_small at None = omega arith
deadline_small at (Some timeout) = omega arith

-- ---- numbers below a bound

among_first : (number : ℕ) (more : List ℕ) → is_among number (number ∷ more) ≡ true
among_first number more = λ i. same_number number i || is_among number more

or_second : (a b : Bool) → b ≡ true → (a || b) ≡ true
or_second true b e = refl
or_second false b e = e

pub all_below : (bound : ℕ) (numbers : List ℕ) → ((number : ℕ) → IsTrue (is_among number numbers) → number < bound) → AreBelow bound numbers
all_below bound [] below = tt
all_below bound (first ∷ more) below =
    (below first (among_first first more), all_below bound more (λ (n : ℕ) e. below n (or_second (first == n) (is_among n more) e)))

among_so : (bound number first : ℕ) (more : List ℕ) (b : Bool) → (first == number) ≡ b → first < bound → (IsTrue (is_among number more) → number < bound) → IsTrue (b || is_among number more) → number < bound
among_so bound number first more true e less rest among = subst (λ (n : ℕ). n < bound) ((unsigned_Decides first number).0 e) less
among_so bound number first more false e less rest among = rest among

pub among_below : (bound : ℕ) (numbers : List ℕ) → AreBelow bound numbers → (number : ℕ) → IsTrue (is_among number numbers) → number < bound
among_below bound [] below number among = absurd (true≢false (sym among))
among_below bound (first ∷ more) below number among =
    among_so bound number first more (first == number) refl below.0 (among_below bound more below.1 number) among

pub below_same : (bound same : ℕ) (numbers : List ℕ) → bound ≡ same → AreBelow bound numbers → AreBelow same numbers
below_same bound same numbers e below = subst (λ (n : ℕ). AreBelow n numbers) e below

pub push_below : (bound : ℕ) (numbers : List ℕ) (number : ℕ) → AreBelow bound numbers → number < bound → AreBelow bound (numbers ++ number ∷ [])
push_below bound [] number below less = (less, tt)
push_below bound (first ∷ more) number below less = (below.0, push_below bound more number below.1 less)

filter_so : (bound first : ℕ) (more : List ℕ) (b : Bool) → first < bound → AreBelow bound more → AreBelow bound (if b then first ∷ more else more)
filter_so bound first more true less rest = (less, rest)
filter_so bound first more false less rest = rest

pub filter_below : (bound : ℕ) (p : ℕ → Bool) (numbers : List ℕ) → AreBelow bound numbers → AreBelow bound (filter p numbers)
filter_below bound p [] below = tt
filter_below bound p (first ∷ more) below = filter_so bound first (filter p more) (p first) below.0 (filter_below bound p more below.1)

-- the first of those that are left
pub first_below : (bound : ℕ) (numbers : List ℕ) (place none : ℕ) → place < length numbers → AreBelow bound (drop place numbers) → slice_index_or numbers place none < bound
first_below bound [] place none less below = absurd (omega (arith, less))
first_below bound (first ∷ more) zero none less below = below.0
first_below bound (first ∷ more) (suc place) none less below = first_below bound more place none (omega (arith, less)) below

-- ---- the words after an apply

pub applied_raised : (words : AckTable) (node version : ℕ) → node < length words.applied → version ≤ applied_at (with_applied node version words) node
applied_raised words node version less =
    let same = get_or-set_same words.applied node (max (applied_at words node) version) 0 less in
    omega (arith, same)

pub answered_length : (node version : ℕ) (opened : List ℕ) (words : AckTable) → length (answered_each node version opened words).words ≡ length words.words
answered_length node version [] words = refl
answered_length node version (number ∷ more) words =
    answered_length node version more (answered_at node version words number) ∙ length-set words.words number (answered_word node version (word_at words number))

-- ---- the words and readings after a reading

pub expired_length : (number : ℕ) (answer : AckExpiry) (words : AckTable) → length (expired_by number answer words).words ≡ length words.words
expired_length number AckExpiry.Won words = length-set words.words number _
expired_length number AckExpiry.Finished words = refl
expired_length number AckExpiry.TimedBefore words = refl
expired_length number (AckExpiry.NotDue deadline) words = refl
expired_length number AckExpiry.NotCommitted words = refl

pub read_length : (reading number : ℕ) (answer : AckExpiry) (readings : List (Option ℕ)) → length (read_by reading number answer readings) ≡ length readings
read_length reading number AckExpiry.Won readings = length-set readings number (Some reading)
read_length reading number AckExpiry.Finished readings = refl
read_length reading number AckExpiry.TimedBefore readings = refl
read_length reading number (AckExpiry.NotDue deadline) readings = refl
read_length reading number AckExpiry.NotCommitted readings = refl

pub timed_loose : (reading : ℕ) (opened : List ℕ) (b : AckBook)
    → timed_each reading opened b ≡ record b { words = (timed_each reading opened (loose_book b.words b.readings)).words; readings = (timed_each reading opened (loose_book b.words b.readings)).readings }
timed_loose reading [] b = refl
timed_loose reading (number ∷ more) b = timed_loose reading more (timed_one reading number b)

pub timed_words : (reading : ℕ) (opened : List ℕ) (b : AckBook) → length (timed_each reading opened b).words.words ≡ length b.words.words
timed_words reading [] b = refl
timed_words reading (number ∷ more) b = timed_words reading more (timed_one reading number b) ∙ expired_length number (word_expiry reading (word_at b.words number)) b.words

pub timed_readings : (reading : ℕ) (opened : List ℕ) (b : AckBook) → length (timed_each reading opened b).readings ≡ length b.readings
timed_readings reading [] b = refl
timed_readings reading (number ∷ more) b = timed_readings reading more (timed_one reading number b) ∙ read_length reading number (word_expiry reading (word_at b.words number)) b.readings

-- ---- the books that the calls leave

pub opened_below : (b : AckBook) (numbers : List ℕ) → IsAckBook b → numbers ≡ b.opened → AreBelow (length b.words.words) numbers
opened_below b numbers h e =
    subst (AreBelow (length b.words.words)) (sym e) (below_same (sum b.lanes) (length b.words.words) b.opened (sym h.words) (all_below (sum b.lanes) b.opened h.opened))

pub readings_below : (b : AckBook) (numbers : List ℕ) → IsAckBook b → numbers ≡ b.opened → AreBelow (length b.readings) numbers
readings_below b numbers h e = below_same (length b.words.words) (length b.readings) numbers (h.words ∙ sym h.readings) (opened_below b numbers h e)

pub raised_below : (b : AckBook) (node version : ℕ) (raised : AckTable) (numbers : List ℕ) → IsAckBook b → raised ≡ with_applied node version b.words → numbers ≡ b.opened
    → AreBelow (length raised.words) numbers
raised_below b node version raised numbers h r e =
    below_same (length b.words.words) (length raised.words) numbers (sym (ap (λ (t : AckTable). length t.words) r)) (opened_below b numbers h e)

pub settled_book : (b : AckBook) (node version : ℕ) (raised made : AckTable) (numbers : List ℕ) → IsAckBook b → raised ≡ with_applied node version b.words
    → made ≡ answered_each node version numbers raised → IsAckBook (record b { words = made })
settled_book b node version raised made numbers h r e = record {
  words = ap (λ (t : AckTable). length t.words) e ∙ answered_length node version numbers raised ∙ ap (λ (t : AckTable). length t.words) r ∙ h.words;
  readings = h.readings;
  few = h.few;
  opened = h.opened;
}

pub timed_book : (b : AckBook) (reading : ℕ) (numbers : List ℕ) (words : AckTable) (readings : List (Option ℕ)) → IsAckBook b
    → loose_book words readings ≡ timed_each reading numbers (loose_book b.words b.readings) → IsAckBook (record b { words = words; readings = readings })
timed_book b reading numbers words readings h e = record {
  words = ap (λ (t : AckBook). length t.words.words) e ∙ timed_words reading numbers (loose_book b.words b.readings) ∙ h.words;
  readings = ap (λ (t : AckBook). length t.readings) e ∙ timed_readings reading numbers (loose_book b.words b.readings) ∙ h.readings;
  few = h.few;
  opened = h.opened;
}

pub timed_is : (b : AckBook) (reading : ℕ) (numbers : List ℕ) (words : AckTable) (readings : List (Option ℕ)) → numbers ≡ b.opened
    → loose_book words readings ≡ timed_each reading numbers (loose_book b.words b.readings) → record b { words = words; readings = readings } ≡ timed_all reading b
timed_is b reading numbers words readings same e =
    ap (λ (t : AckBook). record b { words = t.words; readings = t.readings }) (e ∙ ap (λ (l : List ℕ). timed_each reading l (loose_book b.words b.readings)) same)
    ∙ sym (timed_loose reading b.opened b)

pub pruned_book : (b : AckBook) (p : ℕ → Bool) (numbers made : List ℕ) → IsAckBook b → numbers ≡ b.opened → made ≡ filter p numbers → IsAckBook (record b { opened = made })
pruned_book b p numbers made h same e = record {
  words = h.words;
  readings = h.readings;
  few = h.few;
  opened = among_below (sum b.lanes) made
      (subst (AreBelow (sum b.lanes)) (sym (e ∙ ap (filter p) same)) (filter_below (sum b.lanes) p b.opened (all_below (sum b.lanes) b.opened h.opened)));
}

-- a word that is started and then committed
pub begun_words : (words started made : AckTable) (number version deadline : ℕ) (must : List Bool) (late : Bool) → number < length words.words
    → started ≡ with_word number (AckWord.Started deadline) words → made ≡ with_word number (committed version must late (word_at started number)) started
    → made ≡ with_word number (AckWord.Counting deadline (begun version must late)) words
begun_words words started made number version deadline must late less e f =
    let there : word_at started number ≡ AckWord.Started deadline =
    ap (λ (t : AckTable). word_at t number) e ∙ get_or-set_same words.words number (AckWord.Started deadline) AckWord.Vacant less in
    let counting = AckWord.Counting deadline (begun version must late) in
    f ∙ ap (λ (w : AckWord). with_word number (committed version must late w) started) there ∙ ap (with_word number counting) e
    ∙ ap (λ (l : List AckWord). record words { words = l }) (set-set words.words number (AckWord.Started deadline) counting)

pub begun_book : (b : AckBook) (number : ℕ) (word : AckWord) (made : AckTable) (numbers : List ℕ) → IsAckBook b → number < length b.words.words → made ≡ with_word number word b.words
    → numbers ≡ b.opened ++ number ∷ [] → IsAckBook (record b { words = made; opened = numbers })
begun_book b number word made numbers h less e same = record {
  words = ap (λ (t : AckTable). length t.words) e ∙ length-set b.words.words number word ∙ h.words;
  readings = h.readings;
  few = h.few;
  opened = among_below (sum b.lanes) numbers
      (subst (AreBelow (sum b.lanes)) (sym same)
      (push_below (sum b.lanes) b.opened number (all_below (sum b.lanes) b.opened h.opened) (subst (λ (n : ℕ). number < n) h.words less)));
}

pub begun_is : (b : AckBook) (number version deadline : ℕ) (must : List Bool) (late : Bool) (times : Times) (timeout : Option ℕ) (made : AckTable) (numbers : List ℕ)
    → made ≡ with_word number (AckWord.Counting deadline (begun version must late)) b.words → numbers ≡ b.opened ++ number ∷ []
    → deadline ≡ deadline_of times.at timeout → late ≡ is_over_at times.commit (option_map (due times.at) timeout)
    → record b { words = made; opened = numbers } ≡ begun_at number version must times timeout b
begun_is b number version deadline must late times timeout made numbers e same d l =
    let words = e ∙ (λ i. with_word number (AckWord.Counting (d i) (begun version must (l i))) b.words) in
    λ i. record b { words = words i; opened = same i }

-- where no end is left, none is counted
pub none_counted : (script : Script) (state : ClusterState) (times : Times) (entries : List Entry) (ends : List TaskEnd) (b made : AckBook) → length ends ≡ 0
    → counted_each script state times entries ends b ≡ made → b ≡ made
none_counted script state times [] ends b made none e = e
none_counted script state times (entry ∷ entries) [] b made none e = e
none_counted script state times (entry ∷ entries) (end ∷ ends) b made none e = absurd (omega (arith, none))

-- after those that are decided are taken out
pub can_by : (script : Script) (state : ClusterState) (times : Times) (entries : List Entry) (ends : List TaskEnd) (before now : AckBook) → now ≡ before → CanCount script state times entries ends before
    → CanCount script state times entries ends now
can_by script state times entries ends before now e h = subst (CanCount script state times entries ends) (sym e) h
