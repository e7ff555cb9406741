-- How a batch begins acknowledgements: one number at a time. The word of each task of the batch that ended with a version
-- and whose step asks counts from then on, and is listed; all other words are as they were.
use Rattle.std.specs.Prelude.{◌≡◌, ◌≢◌, ℕ, zero, suc, ◌+◌, ◌<◌, ◌==◌, ◌&&◌, ◌||◌, Bool, true, false, not, cond, List, [], ◌∷◌, ◌++◌, filter, get_or, set, length, sum, Option, Some, None, find, option_map, IsTrue, refl, if◌then◌else◌}
use Rattle.std.proofs.Common.{sym, ◌∙◌, ap, subst, arith}
use Rattle.std.proofs.Math.Bool.{true≢false}
use Rattle.std.proofs.lemmas.List.{get_or-set_same, get_or-set_other, length-set}
use Rattle.std.specs.Cmp.{unsigned_Decides}
use Rattle.std.specs.List.{AllByRecursion, list_any, zip}
use Rattle.ack_words.specs.declared.words.AckWord.{AckWord}
use Rattle.ack_words.specs.Acks.{word_at, word_poll}
use Rattle.ack_words.specs.Countdowns.{begun, poll_of, told_of}
use Rattle.ack_words.specs.Masks.{is_without_nodes}
use Rattle.ack_words.specs.declared.answers.AckPoll.{AckPoll}
use Rattle.meta_state.specs.declared.cluster_state.ClusterState.{ClusterState}
use Rattle.scripts.specs.declared.whole_script.Script.{Script}
use Rattle.scripts.specs.declared.whole_script.ScriptNode.{ScriptNode}
use Rattle.scripts.specs.declared.steps.Ack.{Ack}
use Rattle.session_law.specs.declared.batches.Entry.{Entry}
use Rattle.session_law.specs.declared.task_ends.TaskEnd.{TaskEnd}
use Rattle.session_law.specs.declared.task_ends.TaskEnd.TheVariants as end
use Rattle.session_law.specs.Acknowledgements.{asked_ack, is_over_at}
use Rattle.session_law.specs.DueTimes.{due}
use Rattle.session_law.specs.Histories.{step_at}
use Rattle.session_law.specs.Outcomes.{is_task}
use Rattle.master_run.specs.declared.acknowledgements.Times.{Times}
use Rattle.master_run.specs.AckBooks.{AckBook, ack_number, counted_each, counted_one, counted_so, is_among, is_in_lane, is_not_yet, is_open_word, pruned, required_mask}
use Rattle.master_run.specs.Endings.{deadline_of}
use Rattle.master_run.proofs.AckNumbers.{number_apart, number_below}
use Rattle.master_run.proofs.EndingAll.{AreOnce, IsNoMore, end_among}
use Rattle.master_run.proofs.Keeping.{false_from, neither, or_left, or_right, same_number}
use Rattle.master_run.proofs.Wordwise.{at_back, at_itself, at_same}

-- ---- what is listed

abbrev pub IsListed : AckBook → Type 0
IsListed b = (number : ℕ) → is_open_word (word_at b.words number) ≡ true → IsTrue (is_among number b.opened)

among_push : (number : ℕ) (xs : List ℕ) → is_among number (xs ++ number ∷ []) ≡ true
among_push number [] = or_left (number == number) false (same_number number)
among_push number (first ∷ xs) = or_right (first == number) (is_among number (xs ++ number ∷ [])) (among_push number xs)

among_more_by : (b c d : Bool) → (c ≡ true → d ≡ true) → (b || c) ≡ true → (b || d) ≡ true
among_more_by true c d f h = refl
among_more_by false c d f h = f h

among_more : (number : ℕ) (xs ys : List ℕ) → is_among number xs ≡ true → is_among number (xs ++ ys) ≡ true
among_more number [] ys h = absurd (true≢false (sym h))
among_more number (first ∷ xs) ys h = among_more_by (first == number) (is_among number xs) (is_among number (xs ++ ys)) (among_more number xs ys) h

among_kept_by : (p : ℕ → Bool) (number first : ℕ) (xs kept : List ℕ) (b : Bool) → p first ≡ b → p number ≡ true → (is_among number xs ≡ true → is_among number kept ≡ true)
    → ((first == number) || is_among number xs) ≡ true → is_among number (cond b (first ∷ kept) kept) ≡ true
among_kept_by p number first xs kept true e h f g = among_more_by (first == number) (is_among number xs) (is_among number kept) f g
among_kept_by p number first xs kept false e h f g =
    let other : (first == number) ≡ false = false_from (first == number) (λ same. true≢false (sym h ∙ ap p (sym ((unsigned_Decides first number).0 same)) ∙ e)) in
    f (sym (ap (λ (b : Bool). b || is_among number xs) other) ∙ g)

among_kept : (p : ℕ → Bool) (number : ℕ) (xs : List ℕ) → p number ≡ true → is_among number xs ≡ true → is_among number (filter p xs) ≡ true
among_kept p number [] h g = absurd (true≢false (sym g))
among_kept p number (first ∷ xs) h g = among_kept_by p number first xs (filter p xs) (p first) refl h (among_kept p number xs h) g

open_poll_by : (timed none : Bool) (failures : ℕ) → (not timed && not none) ≡ true → is_not_yet (if timed then AckPoll.TimedOut else if none then told_of failures else AckPoll.NotYet) ≡ true
open_poll_by true none failures h = absurd (true≢false (sym h))
open_poll_by false true failures h = absurd (true≢false (sym h))
open_poll_by false false failures h = refl

-- a client isn't told an end of what is open
pub open_poll : (word : AckWord) → is_open_word word ≡ true → is_not_yet (word_poll word) ≡ true
open_poll AckWord.Vacant h = refl
open_poll (AckWord.Started deadline) h = refl
open_poll (AckWord.Counting deadline countdown) h = open_poll_by countdown.timed (is_without_nodes countdown.missing) countdown.failures h

pub pruned_listed : (b : AckBook) → IsListed b → IsListed (pruned b)
pruned_listed b listed number is =
    among_kept (λ n. is_not_yet (word_poll (word_at b.words n))) number b.opened (open_poll (word_at b.words number) is) (listed number is)

-- ---- one task

-- the word of a task that ended so
abbrev pub word_so : List ScriptNode → ClusterState → Times → TaskEnd → Option Ack → AckWord → AckWord
word_so nodes state times (end.Ok version) (Some asked) word =
    AckWord.Counting (deadline_of times.at asked.timeout) (begun version (required_mask asked state nodes) (is_over_at times.commit (option_map (due times.at) asked.timeout)))
word_so nodes state times _ _ word = word

-- what stays of a book
pub record HasKept (before after : AckBook) : Type 0 where
  pub lanes : after.lanes ≡ before.lanes
  pub readings : after.readings ≡ before.readings
  pub applied : after.words.applied ≡ before.words.applied
  pub words : length after.words.words ≡ length before.words.words

all_kept : (b : AckBook) → HasKept b b
all_kept b = record { lanes = refl; readings = refl; applied = refl; words = refl }

kept_twice : (a b c : AckBook) → HasKept a b → HasKept b c → HasKept a c
kept_twice a b c f g = record { lanes = g.lanes ∙ f.lanes; readings = g.readings ∙ f.readings; applied = g.applied ∙ f.applied; words = g.words ∙ f.words }

-- what a task that ended so does to the book
record IsSo (nodes : List ScriptNode) (state : ClusterState) (times : Times) (number : ℕ) (e : TaskEnd) (asked : Option Ack) (b after : AckBook) : Type 0 where
  kept : HasKept b after
  same : number < length b.words.words → word_at after.words number ≡ word_so nodes state times e asked (word_at b.words number)
  other : (n : ℕ) → n ≢ number → word_at after.words n ≡ word_at b.words n
  listed : IsListed b → IsListed after

none_so : (nodes : List ScriptNode) (state : ClusterState) (times : Times) (number : ℕ) (e : TaskEnd) (asked : Option Ack) (b : AckBook)
    → word_at b.words number ≡ word_so nodes state times e asked (word_at b.words number) → IsSo nodes state times number e asked b b
none_so nodes state times number e asked b same = record { kept = all_kept b; same = λ within. same; other = λ n apart. refl; listed = λ h. h }

same_or_other : (P : Type 0) (a b : ℕ) (is : Bool) → (a == b) ≡ is → (a ≡ b → P) → (a ≢ b → P) → P
same_or_other P a b true e f g = f ((unsigned_Decides a b).0 e)
same_or_other P a b false e f g = g (λ same. true≢false (sym ((unsigned_Decides a b).1 same) ∙ e))

ok_listed : (nodes : List ScriptNode) (state : ClusterState) (times : Times) (number version : ℕ) (asked : Ack) (b : AckBook) → IsListed b
    → IsListed (counted_so nodes state times number (end.Ok version) (Some asked) b)
ok_listed nodes state times number version asked b listed n is =
    let word = word_so nodes state times (end.Ok version) (Some asked) AckWord.Vacant in
    same_or_other (is_among n (b.opened ++ number ∷ []) ≡ true) n number (n == number) refl
    (λ same. subst (λ (m : ℕ). is_among m (b.opened ++ number ∷ []) ≡ true) (sym same) (among_push number b.opened))
    (λ apart. among_more n b.opened (number ∷ []) (listed n (ap is_open_word (sym (get_or-set_other b.words.words number n word AckWord.Vacant apart)) ∙ is)))

so_by : (nodes : List ScriptNode) (state : ClusterState) (times : Times) (number : ℕ) (e : TaskEnd) (asked : Option Ack) (b : AckBook)
    → IsSo nodes state times number e asked b (counted_so nodes state times number e asked b)
so_by nodes state times number (end.Ok version) (Some asked) b =
    let word = word_so nodes state times (end.Ok version) (Some asked) AckWord.Vacant in
    record {
      kept = record { lanes = refl; readings = refl; applied = refl; words = length-set b.words.words number word };
      same = λ within. get_or-set_same b.words.words number word AckWord.Vacant within;
      other = λ n apart. get_or-set_other b.words.words number n word AckWord.Vacant apart;
      listed = ok_listed nodes state times number version asked b;
    }
so_by nodes state times number (end.Ok version) None b = none_so nodes state times number (end.Ok version) None b refl
so_by nodes state times number (end.Unchanged version) asked b = none_so nodes state times number (end.Unchanged version) asked b refl
so_by nodes state times number (end.Refused refusal) asked b = none_so nodes state times number (end.Refused refusal) asked b refl
so_by nodes state times number (end.BatchFailed position refusal) asked b = none_so nodes state times number (end.BatchFailed position refusal) asked b refl
so_by nodes state times number end.NotMaster asked b = none_so nodes state times number end.NotMaster asked b refl
so_by nodes state times number end.PublishFailed asked b = none_so nodes state times number end.PublishFailed asked b refl
so_by nodes state times number (end.Timeout deadline reading) asked b = none_so nodes state times number (end.Timeout deadline reading) asked b refl
so_by nodes state times number (end.Closed client step) asked b = none_so nodes state times number (end.Closed client step) asked b refl

abbrev asked_of : Script → Entry → Option Ack
asked_of script entry = asked_ack (step_at script entry.client entry.step)

abbrev number_of : List ℕ → Entry → ℕ
number_of lanes entry = ack_number lanes entry.client entry.step

one_so : (script : Script) (state : ClusterState) (times : Times) (entry : Entry) (e : TaskEnd) (b : AckBook)
    → IsSo script.nodes state times (number_of b.lanes entry) e (asked_of script entry) b (counted_one script state times entry e b)
one_so script state times entry e b = so_by script.nodes state times (number_of b.lanes entry) e (asked_of script entry) b

pub one_kept : (script : Script) (state : ClusterState) (times : Times) (entry : Entry) (e : TaskEnd) (b : AckBook) → HasKept b (counted_one script state times entry e b)
one_kept script state times entry e b = (one_so script state times entry e b).kept

-- ---- a batch

pub each_kept : (script : Script) (state : ClusterState) (times : Times) (entries : List Entry) (ends : List TaskEnd) (b : AckBook)
    → HasKept b (counted_each script state times entries ends b)
each_kept script state times [] ends b = all_kept b
each_kept script state times (entry ∷ entries) [] b = all_kept b
each_kept script state times (entry ∷ entries) (e ∷ ends) b =
    let next = counted_one script state times entry e b in
    kept_twice b next (counted_each script state times entries ends next) (one_so script state times entry e b).kept (each_kept script state times entries ends next)

pub each_listed : (script : Script) (state : ClusterState) (times : Times) (entries : List Entry) (ends : List TaskEnd) (b : AckBook) → IsListed b
    → IsListed (counted_each script state times entries ends b)
each_listed script state times [] ends b listed = listed
each_listed script state times (entry ∷ entries) [] b listed = listed
each_listed script state times (entry ∷ entries) (e ∷ ends) b listed =
    each_listed script state times entries ends (counted_one script state times entry e b) ((one_so script state times entry e b).listed listed)

-- entries of lanes
abbrev pub AreInLanes : List ℕ → List Entry → Type 0
AreInLanes lanes entries = AllByRecursion (λ entry. IsTrue (is_in_lane lanes entry.client entry.step)) entries

-- another task has another number
pub other_number : (lanes : List ℕ) (client step other later : ℕ) → IsTrue (is_in_lane lanes client step) → IsTrue (is_in_lane lanes other later)
    → (client ≡ other → step ≡ later → ⊥) → ack_number lanes client step ≢ ack_number lanes other later
other_number lanes client step other later inside also apart e = let same = number_apart lanes client step other later inside also e in apart same.0 same.1

apart_from : (client step : ℕ) (entry : Entry) → is_task client step entry ≡ false → client ≡ entry.client → step ≡ entry.step → ⊥
apart_from client step entry apart same also =
    true≢false (sym (at_itself client step) ∙ (λ i. is_task client step (record { client = same i; step = also i; seen = entry.seen })) ∙ apart)

pub one_other_word : (script : Script) (state : ClusterState) (times : Times) (entry : Entry) (e : TaskEnd) (b : AckBook) (lanes : List ℕ) (client step : ℕ) → b.lanes ≡ lanes
    → IsTrue (is_in_lane lanes entry.client entry.step) → IsTrue (is_in_lane lanes client step) → is_task client step entry ≡ false
    → word_at (counted_one script state times entry e b).words (ack_number lanes client step) ≡ word_at b.words (ack_number lanes client step)
one_other_word script state times entry e b lanes client step same inside also apart =
    (one_so script state times entry e b).other (ack_number lanes client step)
    (subst (λ (l : List ℕ). ack_number lanes client step ≢ number_of l entry) (sym same)
    (other_number lanes client step entry.client entry.step also inside (apart_from client step entry apart)))

-- a task that isn't of the batch keeps its word
pub each_other : (script : Script) (state : ClusterState) (times : Times) (entries : List Entry) (ends : List TaskEnd) (b : AckBook) (lanes : List ℕ) (client step : ℕ) → b.lanes ≡ lanes
    → AreInLanes lanes entries → IsTrue (is_in_lane lanes client step) → list_any (is_task client step) entries ≡ false
    → word_at (counted_each script state times entries ends b).words (ack_number lanes client step) ≡ word_at b.words (ack_number lanes client step)
each_other script state times [] ends b lanes client step same inside also none = refl
each_other script state times (entry ∷ entries) [] b lanes client step same inside also none = refl
each_other script state times (entry ∷ entries) (e ∷ ends) b lanes client step same inside also none =
    let parts = neither (is_task client step entry) (list_any (is_task client step) entries) none in
    let next = counted_one script state times entry e b in
    each_other script state times entries ends next lanes client step ((one_so script state times entry e b).kept.lanes ∙ same) inside.1 also parts.1
    ∙ one_other_word script state times entry e b lanes client step same inside.0 also parts.0

-- the word of a task of the batch, by how it ended
pub record IsBegun (script : Script) (state : ClusterState) (times : Times) (entries : List Entry) (ends : List TaskEnd) (client step : ℕ) (before after : AckWord) : Type 0 where
  pub end : TaskEnd
  pub found : end_among client step entries ends ≡ Some end
  pub word : after ≡ word_so script.nodes state times end (asked_ack (step_at script client step)) before

none_of : (client step : ℕ) (first : Entry) (more : List Entry) → is_task client step first ≡ true → AllByRecursion (IsNoMore first) more → list_any (is_task client step) more ≡ false
none_of client step first [] same once = refl
none_of client step first (next ∷ more) same once =
    let other = at_same (λ (x y : ℕ). is_task x y next ≡ false) client step first.client first.step same once.0 in
    λ i. other i || none_of client step first more same once.1 i

found_first : (b : Bool) (entry : Entry) (e : TaskEnd) (rest : Option (Entry × TaskEnd)) → b ≡ true → option_map (λ p. p.1) (cond b (Some (entry, e)) rest) ≡ Some e
found_first true entry e rest is = refl
found_first false entry e rest is = absurd (true≢false (sym is))

found_later : (b : Bool) (entry : Entry) (e : TaskEnd) (rest : Option (Entry × TaskEnd)) → b ≡ false → option_map (λ p. p.1) (cond b (Some (entry, e)) rest) ≡ option_map (λ p. p.1) rest
found_later true entry e rest is = absurd (true≢false is)
found_later false entry e rest is = refl

-- the word of the first entry's own number
first_word : (script : Script) (state : ClusterState) (times : Times) (entry : Entry) (e : TaskEnd) (b : AckBook) (lanes : List ℕ) → b.lanes ≡ lanes → length b.words.words ≡ sum lanes
    → IsTrue (is_in_lane lanes entry.client entry.step)
    → word_at (counted_one script state times entry e b).words (number_of lanes entry) ≡ word_so script.nodes state times e (asked_of script entry) (word_at b.words (number_of lanes entry))
first_word script state times entry e b lanes same long inside =
    let below = number_below lanes entry.client entry.step inside in
    subst (λ (l : List ℕ). word_at (counted_one script state times entry e b).words (number_of l entry) ≡ word_so script.nodes state times e (asked_of script entry) (word_at b.words (number_of l entry))) same
    ((one_so script state times entry e b).same
    (subst (λ (l : List ℕ). number_of l entry < length b.words.words) (sym same) (omega (arith, below, long))))

begun_by : (script : Script) (state : ClusterState) (times : Times) (entry : Entry) (entries : List Entry) (e : TaskEnd) (ends : List TaskEnd) (b : AckBook) (lanes : List ℕ) (client step : ℕ) (is : Bool)
    → is_task client step entry ≡ is → b.lanes ≡ lanes → length b.words.words ≡ sum lanes → AreOnce (entry ∷ entries) → AreInLanes lanes (entry ∷ entries) → IsTrue (is_in_lane lanes client step)
    → (list_any (is_task client step) entries ≡ true
    → IsBegun script state times entries ends client step (word_at (counted_one script state times entry e b).words (ack_number lanes client step))
    (word_at (counted_each script state times entries ends (counted_one script state times entry e b)).words (ack_number lanes client step)))
    → (is || list_any (is_task client step) entries) ≡ true
    → IsBegun script state times (entry ∷ entries) (e ∷ ends) client step (word_at b.words (ack_number lanes client step))
    (word_at (counted_each script state times entries ends (counted_one script state times entry e b)).words (ack_number lanes client step))
begun_by script state times entry entries e ends b lanes client step true is same long once inside also rest h =
    let next = counted_one script state times entry e b in
    record {
      end = e;
      found = found_first (is_task client step entry) entry e (find (λ p. is_task client step p.0) (zip entries ends)) is;
      word = each_other script state times entries ends next lanes client step ((one_so script state times entry e b).kept.lanes ∙ same) inside.1 also (none_of client step entry entries is once.0)
          ∙ at_same (λ (x y : ℕ). word_at next.words (ack_number lanes x y) ≡ word_so script.nodes state times e (asked_ack (step_at script x y)) (word_at b.words (ack_number lanes x y)))
          client step entry.client entry.step is (first_word script state times entry e b lanes same long inside.0);
    }
begun_by script state times entry entries e ends b lanes client step false is same long once inside also rest h =
    let later = rest h in
    record {
      end = later.end;
      found = found_later (is_task client step entry) entry e (find (λ p. is_task client step p.0) (zip entries ends)) is ∙ later.found;
      word = later.word ∙ ap (word_so script.nodes state times later.end (asked_ack (step_at script client step))) (one_other_word script state times entry e b lanes client step same inside.0 also is);
    }

pub each_begun : (script : Script) (state : ClusterState) (times : Times) (entries : List Entry) (ends : List TaskEnd) (b : AckBook) (lanes : List ℕ) (client step : ℕ) → b.lanes ≡ lanes
    → length b.words.words ≡ sum lanes → length ends ≡ length entries → AreOnce entries → AreInLanes lanes entries → IsTrue (is_in_lane lanes client step)
    → list_any (is_task client step) entries ≡ true
    → IsBegun script state times entries ends client step (word_at b.words (ack_number lanes client step))
    (word_at (counted_each script state times entries ends b).words (ack_number lanes client step))
each_begun script state times [] ends b lanes client step same long count once inside also h = absurd (true≢false (sym h))
each_begun script state times (entry ∷ entries) [] b lanes client step same long count once inside also h = absurd (omega (arith, count))
each_begun script state times (entry ∷ entries) (e ∷ ends) b lanes client step same long count once inside also h =
    let next = counted_one script state times entry e b in
    let kept = (one_so script state times entry e b).kept in
    begun_by script state times entry entries e ends b lanes client step (is_task client step entry) refl same long once inside also
    (each_begun script state times entries ends next lanes client step (kept.lanes ∙ same) (kept.words ∙ long) (omega (arith, count)) once.1 inside.1 also) h
