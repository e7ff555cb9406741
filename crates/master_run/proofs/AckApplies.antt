-- An apply and the acknowledgements: where a node applied the first commit of what it has left, the words that wait for its
-- version have its answer, as the course has it.
use Rattle.std.specs.Prelude.{◌≡◌, ◌≢◌, ◌⊎◌, ℕ, zero, suc, ◌<◌, ◌==◌, Bool, true, false, not, eqb, ◌&&◌, ◌||◌, List, [], ◌∷◌, length, set, slice_get, max, cond, Option, Some, None, refl, if◌then◌else◌}
use Rattle.std.proofs.Common.{sym, ◌∙◌, ap, subst, arith, inl, inr}
use Rattle.std.proofs.Math.Bool.{true≢false}
use Rattle.std.proofs.lemmas.Bool.{eq-eqb, eqb-false, eqb-true, ne_eqb}
use Rattle.std.proofs.lemmas.Bool.Decides.{eqb_tells}
use Rattle.std.proofs.lemmas.List.{get_or-set_other, get_or-set_same, length-set}
use Rattle.std.proofs.lemmas.Option.{slice_get_within}
use Rattle.std.specs.Cmp.{unsigned_Decides}
use Rattle.std.specs.List.{AllByRecursion, list_any}
use Rattle.ack_words.specs.declared.words.AckWord.{AckWord}
use Rattle.ack_words.specs.Acks.{AckTable, applied_at, with_applied, word_answered, word_at}
use Rattle.ack_words.specs.Countdowns.{Countdown, answered}
use Rattle.ack_words.specs.Masks.{has_node, is_without_nodes, without_node}
use Rattle.ack_words.proofs.Masks.{has_node-without_nodes}
use Rattle.scripts.specs.declared.whole_script.Script.{Script}
use Rattle.scripts.specs.declared.whole_script.ScriptNode.{ScriptNode}
use Rattle.session_law.specs.declared.batches.Batch.{Batch}
use Rattle.session_law.specs.NodeRecords.{Commit}
use Rattle.master_run.specs.AckBooks.{AckBook, IsAckBook, ack_number, answered_at, answered_each, answered_if, answered_word, is_among, is_open_word, reading_at, settled}
use Rattle.master_run.specs.AckCounts.{AreCounted, IsCountdown, IsWordOf, is_missing_at, is_missing_so}
use Rattle.master_run.specs.AckCourses.{Acked, acked_in, is_required}
use Rattle.master_run.specs.Endings.{deadline_of}
use Rattle.master_run.specs.Nodes.{NodeCourse}
use Rattle.master_run.proofs.Keeping.{false_from, or_left, or_right}

-- ---- places of a list

some_other : {X : Type 0} (xs : List X) (place other : ℕ) (x : X) → other ≢ place → slice_get (set xs place x) other ≡ slice_get xs other
some_other [] place other x apart = refl
some_other (first ∷ xs) zero zero x apart = absurd (apart refl)
some_other (first ∷ xs) zero (suc other) x apart = refl
some_other (first ∷ xs) (suc place) zero x apart = refl
some_other (first ∷ xs) (suc place) (suc other) x apart = some_other xs place other x (λ same. apart (ap suc same))

some_same_place : {X : Type 0} (xs : List X) (place : ℕ) (x : X) → place < length xs → slice_get (set xs place x) place ≡ Some x
some_same_place [] place x within = absurd (omega (arith, within))
some_same_place (first ∷ xs) zero x within = refl
some_same_place (first ∷ xs) (suc place) x within = some_same_place xs place x (omega (arith, within))

-- what is taken out isn't there
taken_out : (node : ℕ) (nodes : List Bool) → has_node node (without_node node nodes) ≡ false
taken_out node [] = refl
taken_out zero (first ∷ nodes) = refl
taken_out (suc node) (first ∷ nodes) = taken_out node nodes

-- ---- a word after an answer

-- a countdown of a node's answer to a version, if that is missing
abbrev less_by : ℕ → Bool → Countdown → Countdown
less_by node b countdown = if b then answered node countdown else countdown

abbrev does_answer : ℕ → ℕ → Countdown → Bool
does_answer node version countdown = has_node node countdown.missing && (countdown.version == version)

answered_by : (node version deadline : ℕ) (countdown : Countdown) (has same : Bool) → (countdown.version == version) ≡ same
    → answered_if node version (if has then Some countdown.version else None) (AckWord.Counting deadline countdown) ≡ AckWord.Counting deadline (less_by node (has && same) countdown)
answered_by node version deadline countdown true true e = ap (λ (b : Bool). if b then word_answered node (AckWord.Counting deadline countdown) else AckWord.Counting deadline countdown) e
answered_by node version deadline countdown true false e = ap (λ (b : Bool). if b then word_answered node (AckWord.Counting deadline countdown) else AckWord.Counting deadline countdown) e
answered_by node version deadline countdown false same e = refl

counting_answered : (node version deadline : ℕ) (countdown : Countdown)
    → answered_word node version (AckWord.Counting deadline countdown) ≡ AckWord.Counting deadline (less_by node (does_answer node version countdown) countdown)
counting_answered node version deadline countdown =
    answered_by node version deadline countdown (has_node node countdown.missing) (countdown.version == version) refl

again_by : (node version deadline : ℕ) (countdown : Countdown) (b : Bool) → does_answer node version countdown ≡ b
    → answered_word node version (AckWord.Counting deadline (less_by node b countdown)) ≡ AckWord.Counting deadline (less_by node b countdown)
again_by node version deadline countdown true e =
    counting_answered node version deadline (answered node countdown)
    ∙ ap (λ (has : Bool). AckWord.Counting deadline (less_by node (has && (countdown.version == version)) (answered node countdown))) (taken_out node countdown.missing)
again_by node version deadline countdown false e =
    counting_answered node version deadline countdown ∙ ap (λ (b : Bool). AckWord.Counting deadline (less_by node b countdown)) e

answered_again : (node version : ℕ) (word : AckWord) → answered_word node version (answered_word node version word) ≡ answered_word node version word
answered_again node version AckWord.Vacant = refl
answered_again node version (AckWord.Started deadline) = refl
answered_again node version (AckWord.Counting deadline countdown) =
    let once = counting_answered node version deadline countdown in
    ap (answered_word node version) once ∙ again_by node version deadline countdown (does_answer node version countdown) refl ∙ sym once

-- ---- the words after the answers of all that may be open

apart_from : (number other : ℕ) → (number == other) ≡ false → other ≢ number
apart_from number other e = λ same. true≢false (sym ((unsigned_Decides number other).1 (sym same)) ∙ e)

one_by : (node version number other : ℕ) (words : AckTable) (first : Bool) → (number == other) ≡ first → (first ≡ true → other < length words.words)
    → word_at (answered_at node version words number) other ≡ cond first (answered_word node version (word_at words other)) (word_at words other)
one_by node version number other words true e there =
    let same : number ≡ other = (unsigned_Decides number other).0 e in
    ap (λ (n : ℕ). word_at (answered_at node version words n) other) same
    ∙ get_or-set_same words.words other (answered_word node version (word_at words other)) AckWord.Vacant (there refl)
one_by node version number other words false e there =
    get_or-set_other words.words number other (answered_word node version (word_at words number)) AckWord.Vacant (apart_from number other e)

-- what holds of the word before, where it isn't listed, and of the answered one, where it is, holds before and after the first of several answers
listed_by : (P : AckWord → Type 0) (node version : ℕ) (first among : Bool) (w now : AckWord) → now ≡ cond first (answered_word node version w) w
    → ((first || among) ≡ true → P (answered_word node version w)) → (among ≡ true → P (answered_word node version now))
listed_by P node version true among w now e listed also =
    subst P (sym (ap (answered_word node version) e ∙ answered_again node version w)) (listed refl)
listed_by P node version false among w now e listed also = subst P (sym (ap (answered_word node version) e)) (listed also)

apart_by : (P : AckWord → Type 0) (node version : ℕ) (first among : Bool) (w now : AckWord) → now ≡ cond first (answered_word node version w) w
    → ((first || among) ≡ true → P (answered_word node version w)) → ((first || among) ≡ false → P w) → (among ≡ false → P now)
apart_by P node version true among w now e listed apart none = subst P (sym e) (listed refl)
apart_by P node version false among w now e listed apart none = subst P (sym e) (apart none)

each_by : (P : AckWord → Type 0) (node version other : ℕ) (all : List ℕ) (words : AckTable)
    → (is_among other all ≡ true → P (answered_word node version (word_at words other))) → (is_among other all ≡ false → P (word_at words other))
    → (is_among other all ≡ true → other < length words.words) → P (word_at (answered_each node version all words) other)
each_by P node version other [] words listed apart there = apart refl
each_by P node version other (number ∷ more) words listed apart there =
    let first = number == other in
    let among = is_among other more in
    let now = answered_at node version words number in
    let one = one_by node version number other words first refl (λ (e : first ≡ true). there (or_left first among e)) in
    each_by P node version other more now (listed_by P node version first among (word_at words other) (word_at now other) one listed)
    (apart_by P node version first among (word_at words other) (word_at now other) one listed apart)
    (λ e. subst (λ (n : ℕ). other < n) (sym (length-set words.words number (answered_word node version (word_at words number)))) (there (or_right first among e)))

each_applied : (node version : ℕ) (all : List ℕ) (words : AckTable) → (answered_each node version all words).applied ≡ words.applied
each_applied node version [] words = refl
each_applied node version (number ∷ more) words = each_applied node version more (answered_at node version words number)

-- ---- what a node has left after its apply

turned_by : (x y : ℕ) (b : Bool) → (x == y) ≡ b → (y == x) ≡ b
turned_by x y true e = eq-eqb y x (sym (eqb-true x y e))
turned_by x y false e = ne_eqb y x (λ same. eqb-false x y e (sym same))

turned : (x y : ℕ) → (y == x) ≡ (x == y)
turned x y = turned_by x y (x == y) refl

later_differs : (version asked later : ℕ) → asked ≡ version → version < later → (later == asked) ≡ false
later_differs version asked later same less = ne_eqb later asked (λ e. absurd (omega (arith, e, same, less)))

-- of later commits none has the version
none_later : (version asked : ℕ) (more : List Commit) → asked ≡ version → AllByRecursion (λ c. version < c.state.version) more → list_any (λ c. c.state.version == asked) more ≡ false
none_later version asked [] same all = refl
none_later version asked (commit ∷ more) same all = λ i. later_differs version asked commit.state.version same all.0 i || none_later version asked more same all.1 i

-- of a required node, and of what it has left: the first commit, and the later ones
left_by : (required first later : Bool) → (first ≡ true → later ≡ false) → ((required && (first || later)) && not first) ≡ (required && later)
left_by false first later none = refl
left_by true true later none = sym (none refl)
left_by true false true none = refl
left_by true false false none = refl

left_so : (a : Acked) (node : Option ScriptNode) (has now : NodeCourse) (commit : Commit) (more : List Commit) → has.left ≡ commit ∷ more → now.left ≡ more
    → AllByRecursion (λ c. commit.state.version < c.state.version) more
    → (is_missing_so a node (Some has) && not (commit.state.version == a.version)) ≡ is_missing_so a node (Some now)
left_so a None has now commit more e f all = refl
left_so a (Some node) has now commit more e f all =
    let required = is_required a.asked a.stepped.world.state node.name in
    let first = commit.state.version == a.version in
    let later = list_any (λ (c : Commit). c.state.version == a.version) in
    ap (λ (l : List Commit). (required && later l) && not first) e
    ∙ left_by required first (later more) (λ same. none_later commit.state.version a.version more (sym (eqb-true commit.state.version a.version same)) all)
    ∙ ap (λ (l : List Commit). required && later l) (sym f)

-- ---- whose answers are missing after it

abbrev flags_by : ℕ → Bool → List Bool → List Bool
flags_by node b flags = if b then without_node node flags else flags

flags_same : (node : ℕ) (flags : List Bool) (has same : Bool) → has_node node flags ≡ has → has_node node (flags_by node (has && same) flags) ≡ (has && not same)
flags_same node flags true true e = taken_out node flags
flags_same node flags true false e = e
flags_same node flags false same e = e

flags_other : (node other : ℕ) (flags : List Bool) (b : Bool) → other ≢ node → has_node other (flags_by node b flags) ≡ has_node other flags
flags_other node other flags true apart = get_or-set_other flags node other false false apart
flags_other node other flags false apart = refl

flags_of_less : (node : ℕ) (b : Bool) (countdown : Countdown) → (less_by node b countdown).missing ≡ flags_by node b countdown.missing
flags_of_less node true countdown = refl
flags_of_less node false countdown = refl

module _ (a : Acked) (nodes : List ScriptNode) (have : List NodeCourse) (number : ℕ) (has now : NodeCourse) (commit : Commit) (more : List Commit) (at : slice_get have number ≡ Some has)
    (left : has.left ≡ commit ∷ more) (after : now.left ≡ more) (later : AllByRecursion (λ c. commit.state.version < c.state.version) more) where
  missing_by : (flags : List Bool) (first : Bool) → (commit.state.version == a.version) ≡ first → ((other : ℕ) → has_node other flags ≡ is_missing_at a nodes have other)
      → (other : ℕ) → ((eqb other number ≡ true) × (other ≡ number)) ⊎ ((eqb other number ≡ false) × (other ≢ number)) → has_node other (flags_by number (has_node number flags && first) flags) ≡ is_missing_at a nodes (set have number now) other
  missing_by flags first e same other (inr apart) =
      flags_other number other flags (has_node number flags && first) apart.1 ∙ same other
      ∙ sym (ap (is_missing_so a (slice_get nodes other)) (some_other have number other now apart.1))
  missing_by flags first e same other (inl equal) =
      let node = slice_get nodes number in
      let here : has_node number (flags_by number (has_node number flags && first) flags) ≡ is_missing_at a nodes (set have number now) number =
      flags_same number flags (has_node number flags) first refl
      ∙ (λ i. same number i && not first)
      ∙ (λ i. is_missing_so a node (at i) && not (sym e i))
      ∙ left_so a node has now commit more left after later
      ∙ sym (ap (is_missing_so a node) (some_same_place have number now (slice_get_within have number has at))) in
      subst (λ (n : ℕ). has_node n (flags_by number (has_node number flags && first) flags) ≡ is_missing_at a nodes (set have number now) n) (sym equal.1) here

  missing_now : (countdown : Countdown) → countdown.version ≡ a.version → ((other : ℕ) → has_node other countdown.missing ≡ is_missing_at a nodes have other)
      → (other : ℕ) → has_node other (less_by number (does_answer number commit.state.version countdown) countdown).missing ≡ is_missing_at a nodes (set have number now) other
  missing_now countdown version same other =
      let first = countdown.version == commit.state.version in
      ap (has_node other) (flags_of_less number (has_node number countdown.missing && first) countdown)
      ∙ missing_by countdown.missing first (ap (λ (v : ℕ). commit.state.version == v) (sym version) ∙ turned countdown.version commit.state.version) same other (eqb_tells other number)

  -- ---- of an acknowledgement that counts

  less_kept : {A : Type 0} (f : Countdown → A) (countdown : Countdown) (b : Bool) → f (answered number countdown) ≡ f countdown → f (less_by number b countdown) ≡ f countdown
  less_kept f countdown true e = e
  less_kept f countdown false e = refl

  countdown_applied : (lapse : Option ℕ) (word : AckWord) → IsCountdown nodes have a lapse word → IsCountdown nodes (set have number now) a lapse (answered_word number commit.state.version word)
  countdown_applied lapse word c =
      let version = commit.state.version in
      let b = does_answer number version c.countdown in
      let timed : (less_by number b c.countdown).timed ≡ c.countdown.timed = less_kept (λ (k : Countdown). k.timed) c.countdown b refl in
      record {
        countdown = less_by number b c.countdown;
        is = ap (answered_word number version) c.is ∙ counting_answered number version (deadline_of a.stepped.batch.at a.asked.timeout) c.countdown;
        version = less_kept (λ (k : Countdown). k.version) c.countdown b refl ∙ c.version;
        failures = less_kept (λ (k : Countdown). k.failures) c.countdown b refl ∙ c.failures;
        timed = timed ∙ c.timed;
        missing = λ untimed. missing_now c.countdown c.version (c.missing (sym timed ∙ untimed));
      }

  closed_none : (timed none : Bool) → timed ≡ false → (not timed && not none) ≡ false → none ≡ true
  closed_none true none untimed closed = absurd (true≢false untimed)
  closed_none false true untimed closed = refl
  closed_none false false untimed closed = absurd (true≢false closed)

  -- one that isn't open misses no answer, if its time hasn't decided it
  countdown_closed : (lapse : Option ℕ) (word : AckWord) → IsCountdown nodes have a lapse word → is_open_word word ≡ false → IsCountdown nodes (set have number now) a lapse word
  countdown_closed lapse word c closed = record {
    countdown = c.countdown;
    is = c.is;
    version = c.version;
    failures = c.failures;
    timed = c.timed;
    missing = λ untimed other.
        let none : is_without_nodes c.countdown.missing ≡ true = closed_none c.countdown.timed (is_without_nodes c.countdown.missing) untimed (sym (ap is_open_word c.is) ∙ closed) in
        sym (ap (λ (has : Bool). has_node other (less_by number (has && (c.countdown.version == commit.state.version)) c.countdown).missing) (has_node-without_nodes c.countdown.missing number none))
        ∙ missing_now c.countdown c.version (c.missing untimed) other;
  }

-- ---- of each word, and of a book

module _ (script : Script) (batches : List Batch) (have : List NodeCourse) (number : ℕ) (has now : NodeCourse) (commit : Commit) (more : List Commit) (b : AckBook) (is : IsAckBook b)
    (h : AreCounted script batches have b) (at : slice_get have number ≡ Some has) (few : number < 30) (left : has.left ≡ commit ∷ more) (after : now.left ≡ more)
    (later : AllByRecursion (λ c. commit.state.version < c.state.version) more) where
  word_applied : (a : Option Acked) (lapse : Option ℕ) (word : AckWord) → IsWordOf script.nodes have a lapse word → IsWordOf script.nodes (set have number now) a lapse (answered_word number commit.state.version word)
  word_applied None lapse word c = ap (answered_word number commit.state.version) c
  word_applied (Some a) lapse word c = countdown_applied a script.nodes have number has now commit more at left after later lapse word c

  word_closed : (a : Option Acked) (lapse : Option ℕ) (word : AckWord) → IsWordOf script.nodes have a lapse word → is_open_word word ≡ false → IsWordOf script.nodes (set have number now) a lapse word
  word_closed None lapse word c closed = c
  word_closed (Some a) lapse word c closed = countdown_closed a script.nodes have number has now commit more at left after later lapse word c closed

  not_open : (place : ℕ) → is_among place b.opened ≡ false → is_open_word (word_at b.words place) ≡ false
  not_open place e = false_from (is_open_word (word_at b.words place)) (λ (opened : is_open_word (word_at b.words place) ≡ true). true≢false (sym (h.listed place opened) ∙ e))

  there : (place : ℕ) → is_among place b.opened ≡ true → place < length b.words.words
  there place e = subst (λ (n : ℕ). place < n) (sym is.words) (is.opened place e)

  pub counted_applied : AreCounted script batches (set have number now) (settled number commit.state.version b)
  counted_applied =
      let version = commit.state.version in
      let words = with_applied number version b.words in
      record {
        lanes = h.lanes;
        applied = ap (λ (l : List ℕ). length l) (each_applied number version b.opened words) ∙ length-set b.words.applied number (max (applied_at b.words number) version) ∙ h.applied;
        words = λ client step inside.
            let place = ack_number b.lanes client step in
            let a = acked_in script batches client step in
            each_by (λ (w : AckWord). IsWordOf script.nodes (set have number now) a (reading_at b place) w) number version place b.opened words
            (λ e. word_applied a (reading_at b place) (word_at b.words place) (h.words client step inside))
            (λ e. word_closed a (reading_at b place) (word_at b.words place) (h.words client step inside) (not_open place e)) (there place);
        listed = λ place opened.
            each_by (λ (w : AckWord). is_open_word w ≡ true → is_among place b.opened ≡ true) number version place b.opened words (λ e o. e) (λ e o. h.listed place o) (there place) opened;
      }
