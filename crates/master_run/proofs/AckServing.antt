-- The acknowledgements that the code keeps agree with the course after a batch.
use Rattle.std.specs.Prelude.{◌≡◌, ◌≢◌, ℕ, zero, suc, ◌+◌, ◌<◌, ◌≤◌, ◌^◌, ◌||◌, Bool, true, false, List, [], ◌∷◌, ◌++◌, get_or, length, map, nat_lt, sum, Option, Some, None, option_map, slice_get, is_some, IsFalse, IsTrue, refl}
use Rattle.std.proofs.Common.{sym, ◌∙◌, ap, subst, arith}
use Rattle.std.proofs.Math.Bool.{true≢false}
use Rattle.std.proofs.lemmas.Bool.{cond-true, lt-ltb}
use Rattle.std.proofs.lemmas.Option.{slice_get_within}
use Rattle.std.specs.List.{AllByRecursion, list_any}
use Rattle.ack_words.specs.declared.words.AckWord.{AckWord}
use Rattle.ack_words.specs.Acks.{word_at}
use Rattle.ack_words.specs.Countdowns.{begun}
use Rattle.ack_words.specs.Masks.{is_without_nodes}
use Rattle.meta_state.specs.declared.cluster_state.ClusterState.{ClusterState}
use Rattle.scripts.specs.declared.queues.QueueSpec.{QueueSpec}
use Rattle.scripts.specs.declared.whole_script.Script.{Script}
use Rattle.scripts.specs.declared.whole_script.ScriptNode.{ScriptNode}
use Rattle.scripts.specs.declared.steps.Ack.{Ack}
use Rattle.scripts.specs.declared.steps.Step.{Step}
use Rattle.scripts.specs.Scripts.{IsScript}
use Rattle.session_law.specs.declared.batches.Batch.{Batch}
use Rattle.session_law.specs.declared.batches.Entry.{Entry}
use Rattle.session_law.specs.declared.task_ends.TaskEnd.{TaskEnd}
use Rattle.session_law.specs.declared.task_ends.TaskEnd.TheVariants as end
use Rattle.session_law.specs.declared.worlds.Stepped.{Stepped}
use Rattle.session_law.specs.declared.worlds.World.{World}
use Rattle.session_law.specs.Acknowledgements.{asked_ack, is_over_at}
use Rattle.session_law.specs.BatchSteps.{BatchInput, batch_step}
use Rattle.session_law.specs.Committed.{is_published}
use Rattle.session_law.specs.DueTimes.{due}
use Rattle.session_law.specs.Histories.{AreApart, IsApart, IsOwn, Queued, SteppedBatch, commit_of, queued_of, step_at, stepped, world_after}
use Rattle.session_law.specs.Outcomes.{holds, is_task}
use Rattle.session_law.specs.Publications.{cut_by}
use Rattle.session_law.proofs.Growth.{free_from}
use Rattle.master_run.specs.declared.acknowledgements.Times.{Times}
use Rattle.master_run.specs.AckBooks.{AckBook, CanCount, CanCountEntry, CanCountSo, IsAckBook, ack_number, counted_all, counted_each, counted_one, is_in_lane, lapses_of, pruned, reading_at, required_mask}
use Rattle.master_run.specs.AckCounts.{AreCounted, IsCountdown, IsWordOf, is_missing_at}
use Rattle.master_run.specs.AckCourses.{Acked, acked_in, acked_of, acked_ok, acked_with, due_in, is_late}
use Rattle.master_run.specs.Books.{CanJoin, Chronicle, IsKeptBook, input_at, last_stepped, noted, placed_in, ran_at}
use Rattle.master_run.specs.Courses.{lanes_of}
use Rattle.master_run.specs.Endings.{deadline_of}
use Rattle.master_run.specs.Nodes.{NodeCourse, handed_each}
use Rattle.master_run.specs.SoFar.{IsLapsed, IsLapsedSoFar, IsRecordedAt, IsRecordedSoFar}
use Rattle.master_run.proofs.AckBegins.{AreInLanes, HasKept, IsBegun, IsListed, each_begun, each_kept, each_listed, each_other, one_kept, one_other_word, pruned_listed, word_so}
use Rattle.master_run.proofs.AckGrowth.{acked_by, acked_kept, acked_new, acked_none}
use Rattle.master_run.proofs.AckHanded.{HasBegun, missing_begun, missing_kept}
use Rattle.master_run.proofs.AckNumbers.{number_below}
use Rattle.master_run.proofs.AckRequired.{mask_has, mask_some, step_reading}
use Rattle.master_run.proofs.AckVersions.{AreEndsSo, IsEndSo, acked_version, end_has, ends_so, step_rises, version_small}
use Rattle.master_run.proofs.Alls.{all_both, all_by}
use Rattle.master_run.proofs.Bounds.{Stands, stands}
use Rattle.master_run.proofs.Ending.{ends_count}
use Rattle.master_run.proofs.EndingAll.{AreOnce, IsNoMore, end_among}
use Rattle.master_run.proofs.Handing.{next_stepped}
use Rattle.master_run.proofs.Keeping.{batch_of, kept_join, no_some, some_same, stepped_again}
use Rattle.master_run.proofs.Recording.{noted_stepped}
use Rattle.master_run.proofs.Serving.{any_has, apart_later, once_from}
use Rattle.master_run.proofs.Wordwise.{at_turned}

-- ---- entries that may join a book

all_rest : {A : Type 0} (P : A → Type 0) (xs ys : List A) → AllByRecursion P (xs ++ ys) → AllByRecursion P ys
all_rest P [] ys a = a
all_rest P (x ∷ xs) ys a = all_rest P xs ys a.1

none_before : (ys : List Queued) → AllByRecursion (λ y. AllByRecursion (λ x. IsApart x y) []) ys
none_before [] = tt
none_before (y ∷ ys) = (tt, none_before ys)

-- each later one is apart from each earlier one
cross_apart : (xs ys : List Queued) → AreApart (xs ++ ys) → AllByRecursion (λ y. AllByRecursion (λ x. IsApart x y) xs) ys
cross_apart [] ys apart = none_before ys
cross_apart (x ∷ xs) ys apart =
    all_both (IsApart x) (λ y. AllByRecursion (λ x. IsApart x y) xs) ys (all_rest (IsApart x) xs ys apart.0) (cross_apart xs ys apart.1)

placed_each : (P : Queued → Type 0) (name : List ℕ) (entries : List Entry) → AllByRecursion P (placed_in name entries) → AllByRecursion (λ e. P (record { queue = name; entry = e })) entries
placed_each P name [] all = tt
placed_each P name (entry ∷ more) all = (all.0, placed_each P name more all.1)

lane_from : (clients : List (List Step)) (client number : ℕ) (steps : List Step) → slice_get clients client ≡ Some steps → number < length steps
    → IsTrue (is_in_lane (map length clients) client number)
lane_from [] client number steps e within = absurd (no_some steps e)
lane_from (first ∷ more) zero number steps e within = lt-ltb number (length first) (subst (λ (l : List Step). number < length l) (sym (some_same first steps e)) within)
lane_from (first ∷ more) (suc client) number steps e within = lane_from more client number steps e within

own_lane : (script : Script) (placed : Queued) → IsOwn script placed → IsTrue (is_in_lane (lanes_of script) placed.entry.client placed.entry.step)
own_lane script placed own =
    let at = stands script placed own in
    lane_from script.clients placed.entry.client placed.entry.step at.steps at.of_client (slice_get_within at.steps placed.entry.step at.step at.of_steps)

-- entries, none of which stands twice, each of a lane and in no batch so far
pub record AreNew (script : Script) (batches : List Batch) (entries : List Entry) : Type 0 where
  pub once : AreOnce entries
  pub inside : AreInLanes (lanes_of script) entries
  pub free : AllByRecursion (λ e. list_any (holds e.client e.step) batches ≡ false) entries

pub are_new : (script : Script) (book : Chronicle) (queue : QueueSpec) (entries : List Entry) → CanJoin script book queue entries → AreNew script book.batches entries
are_new script book queue entries joins =
    let placed = queued_of book.batches in
    let later = placed_in queue.name entries in
    let free : Queued → Type 0 = λ y. list_any (holds y.entry.client y.entry.step) book.batches ≡ false in
    record {
      once = once_from queue.name entries (apart_later placed later joins.apart);
      inside = placed_each (λ y. IsTrue (is_in_lane (lanes_of script) y.entry.client y.entry.step)) queue.name entries
          (all_by (IsOwn script) (λ y. IsTrue (is_in_lane (lanes_of script) y.entry.client y.entry.step)) (own_lane script) later joins.own);
      free = placed_each free queue.name entries
          (all_by (λ y. AllByRecursion (λ x. IsApart x y) placed) free
          (λ y all. free_from book.batches y.entry.client y.entry.step
          (all_by (λ x. IsApart x y) (λ x. is_task y.entry.client y.entry.step x.entry ≡ false) (λ x p. p.other) placed all)) later (cross_apart placed later joins.apart));
    }

-- ---- they may be counted

-- what of an end that is counted is asked
abbrev pub IsFit : List ScriptNode → ClusterState → TaskEnd → Type 0
IsFit nodes state (end.Ok version) = (version < 2 ^ 32) × ((asked : Ack) → IsFalse (is_without_nodes (required_mask asked state nodes)))
IsFit nodes state _ = Unit {0}

abbrev AreVacant : List ℕ → AckBook → List Entry → Type 0
AreVacant lanes b entries = AllByRecursion (λ e. word_at b.words (ack_number lanes e.client e.step) ≡ AckWord.Vacant) entries

can_so : (nodes : List ScriptNode) (state : ClusterState) (number : ℕ) (e : TaskEnd) (asked : Option Ack) (b : AckBook) → number < length b.words.words → word_at b.words number ≡ AckWord.Vacant
    → IsFit nodes state e → CanCountSo nodes state number e asked b
can_so nodes state number (end.Ok version) (Some asked) b below vacant fit = record { below = below; vacant = vacant; some = fit.1 asked; bounded = fit.0 }
can_so nodes state number (end.Ok version) None b below vacant fit = tt
can_so nodes state number (end.Unchanged version) asked b below vacant fit = tt
can_so nodes state number (end.Refused refusal) asked b below vacant fit = tt
can_so nodes state number (end.BatchFailed position refusal) asked b below vacant fit = tt
can_so nodes state number end.NotMaster asked b below vacant fit = tt
can_so nodes state number end.PublishFailed asked b below vacant fit = tt
can_so nodes state number (end.Timeout deadline reading) asked b below vacant fit = tt
can_so nodes state number (end.Closed client step) asked b below vacant fit = tt

still_vacant : (script : Script) (state : ClusterState) (times : Times) (entry : Entry) (e : TaskEnd) (b : AckBook) (lanes : List ℕ) (more : List Entry) → b.lanes ≡ lanes
    → IsTrue (is_in_lane lanes entry.client entry.step) → AllByRecursion (IsNoMore entry) more → AreInLanes lanes more → AreVacant lanes b more
    → AreVacant lanes (counted_one script state times entry e b) more
still_vacant script state times entry e b lanes [] same inside once also all = tt
still_vacant script state times entry e b lanes (next ∷ more) same inside once also all = (
  one_other_word script state times entry e b lanes next.client next.step same inside also.0 (at_turned entry.client entry.step next.client next.step once.0) ∙ all.0,
  still_vacant script state times entry e b lanes more same inside once.1 also.1 all.1,
)

can_each : (script : Script) (state : ClusterState) (times : Times) (entries : List Entry) (ends : List TaskEnd) (b : AckBook) (lanes : List ℕ) → b.lanes ≡ lanes → length b.words.words ≡ sum lanes
    → AreOnce entries → AreInLanes lanes entries → AreVacant lanes b entries → AllByRecursion (IsFit script.nodes state) ends → CanCount script state times entries ends b
can_each script state times [] ends b lanes same long once inside vacant fit = tt
can_each script state times (entry ∷ entries) [] b lanes same long once inside vacant fit = tt
can_each script state times (entry ∷ entries) (e ∷ ends) b lanes same long once inside vacant fit =
    let below = number_below lanes entry.client entry.step inside.0 in
    let asked = asked_ack (step_at script entry.client entry.step) in
    let kept = one_kept script state times entry e b in
    let here = subst (λ (l : List ℕ). IsTrue (is_in_lane l entry.client entry.step) × CanCountSo script.nodes state (ack_number l entry.client entry.step) e asked b) (sym same)
    (inside.0, can_so script.nodes state (ack_number lanes entry.client entry.step) e asked b (omega (arith, below, long)) vacant.0 fit.0) in (
      record { inside = here.0; so = here.1 },
      can_each script state times entries ends (counted_one script state times entry e b) lanes (kept.lanes ∙ same) (kept.words ∙ long) once.1 inside.1
          (still_vacant script state times entry e b lanes entries same inside.0 once.0 inside.1 vacant.1) fit.1,
    )

fit_by : (script : Script) (made : Stepped × World) (e : TaskEnd) → made.1.state.version < 2 ^ 32
    → ((asked : Ack) → is_published made.0.result ≡ true → is_without_nodes (required_mask asked made.1.state script.nodes) ≡ false) → IsEndSo made e → IsFit script.nodes made.1.state e
fit_by script made (end.Ok version) small some so = (subst (λ (n : ℕ). n < 2 ^ 32) (sym so.1) small, λ asked. some asked so.0)
fit_by script made (end.Unchanged version) small some so = tt
fit_by script made (end.Refused refusal) small some so = tt
fit_by script made (end.BatchFailed position refusal) small some so = tt
fit_by script made end.NotMaster small some so = tt
fit_by script made end.PublishFailed small some so = tt
fit_by script made (end.Timeout deadline reading) small some so = tt
fit_by script made (end.Closed client step) small some so = tt

-- a task that is in no batch has a vacant word
vacant_word : (script : Script) (batches : List Batch) (have : List NodeCourse) (b : AckBook) (client step : ℕ) → AreCounted script batches have b → IsTrue (is_in_lane b.lanes client step)
    → acked_in script batches client step ≡ None → word_at b.words (ack_number b.lanes client step) ≡ AckWord.Vacant
vacant_word script batches have b client step h inside none =
    subst (λ (a : Option Acked). IsWordOf script.nodes have a (reading_at b (ack_number b.lanes client step)) (word_at b.words (ack_number b.lanes client step))) none (h.words client step inside)

vacant_each : (script : Script) (batches : List Batch) (have : List NodeCourse) (b : AckBook) (entries : List Entry) → AreCounted script batches have b → AreInLanes b.lanes entries
    → AllByRecursion (λ e. list_any (holds e.client e.step) batches ≡ false) entries → AreVacant b.lanes b entries
vacant_each script batches have b [] h inside free = tt
vacant_each script batches have b (entry ∷ more) h inside free = (
  vacant_word script batches have b entry.client entry.step h inside.0 (acked_none script batches entry.client entry.step free.0),
  vacant_each script batches have b more h inside.1 free.1,
)

-- the acknowledgements of a batch may be counted
pub can_count : (script : Script) (book : Chronicle) (number : ℕ) (queue : QueueSpec) (entries : List Entry) (at commit : ℕ) (have : List NodeCourse) (b : AckBook) (times : Times) → IsScript script
    → IsKeptBook script book → slice_get script.queues number ≡ Some queue → CanJoin script book queue entries → IsAckBook b → AreCounted script book.batches have b
    → let made = ran_at script book.world queue entries commit in
    CanCount script made.1.state times entries made.0.ends (pruned b)
can_count script book number queue entries at commit have b times valid kept e joins is h =
    let made = ran_at script book.world queue entries commit in
    let input = input_at (cut_by script.faults) script queue entries commit in
    let new = are_new script book queue entries joins in
    let inside = subst (λ (l : List ℕ). AreInLanes l entries) (sym h.lanes) new.inside in
    let small = version_small script (noted book queue entries at made).batches made.1 valid (kept_join script book number queue entries at commit valid kept e joins) in
    can_each script made.1.state times entries made.0.ends (pruned b) b.lanes refl is.words new.once inside (vacant_each script book.batches have b entries h inside new.free)
    (all_by (IsEndSo made) (IsFit script.nodes made.1.state)
    (λ one so. fit_by script made one small (λ asked published. mask_some asked input book.world valid.nodes_limit published) so) made.0.ends (ends_so input book.world))

-- ---- what the batch leaves

-- what comes of a batch, and the batch as it was stepped
abbrev stepped_by : Batch → Stepped × World → SteppedBatch
stepped_by batch made = record { batch = batch; stepped = made.0; world = made.1 }

-- what is known of it
record HasMade (script : Script) (book : Chronicle) (batch : Batch) (at commit : ℕ) (made : Stepped × World) : Type 0 where
  plain : script.faults ≡ []
  few : length script.nodes ≤ 30
  kept : IsKeptBook script book
  was_at : batch.at ≡ at
  same : next_stepped script book.batches batch ≡ stepped_by batch made
  rises : is_published made.0.result ≡ true → made.1.state.version ≡ book.world.state.version + 1
  reading : is_published made.0.result ≡ true → commit_of made.0.result ≡ commit
  ends : AreEndsSo made

has_made : (script : Script) (book : Chronicle) (number : ℕ) (queue : QueueSpec) (entries : List Entry) (at commit : ℕ) → IsScript script → script.faults ≡ [] → IsKeptBook script book
    → slice_get script.queues number ≡ Some queue → HasMade script book (batch_of script book queue entries at commit) at commit (ran_at script book.world queue entries commit)
has_made script book number queue entries at commit valid plain kept e =
    let batch = batch_of script book queue entries at commit in
    let made = ran_at script book.world queue entries commit in
    let input = input_at (cut_by script.faults) script queue entries commit in
    let again = stepped_again script book number queue entries at commit valid kept e in
    record {
      plain = plain;
      few = valid.nodes_limit;
      kept = kept;
      was_at = refl;
      same = λ i. stepped_by batch (sym again i);
      rises = subst (λ (w : World). is_published made.0.result ≡ true → made.1.state.version ≡ w.state.version + 1) (sym kept.world)
          (subst (λ (s : Stepped × World). is_published s.0.result ≡ true → s.1.state.version ≡ (world_after script book.batches).state.version + 1) (sym again)
          (step_rises script (world_after script book.batches) batch));
      reading = step_reading input book.world;
      ends = ends_so input book.world;
    }

-- ---- the words of other tasks

word_kept : (nodes : List ScriptNode) (have now : List NodeCourse) (acked : Option Acked) (lapse : Option ℕ) (word : AckWord)
    → ((a : Acked) → acked ≡ Some a → (number : ℕ) → is_missing_at a nodes now number ≡ is_missing_at a nodes have number) → IsWordOf nodes have acked lapse word → IsWordOf nodes now acked lapse word
word_kept nodes have now None lapse word same h = h
word_kept nodes have now (Some a) lapse word same h = record {
  countdown = h.countdown;
  is = h.is;
  version = h.version;
  failures = h.failures;
  timed = h.timed;
  missing = λ early number. h.missing early number ∙ sym (same a refl number);
}

other_word : (script : Script) (book : Chronicle) (batch : Batch) (at commit : ℕ) (made : Stepped × World) (have : List NodeCourse) (client step : ℕ) (lapse : Option ℕ) (word : AckWord)
    → HasMade script book batch at commit made → holds client step batch ≡ false → IsWordOf script.nodes have (acked_in script book.batches client step) lapse word
    → IsWordOf script.nodes (handed_each script (Some (stepped_by batch made)) script.nodes have) (acked_in script (book.batches ++ batch ∷ []) client step) lapse word
other_word script book batch at commit made have client step lapse word m none h =
    let now = handed_each script (Some (stepped_by batch made)) script.nodes have in
    subst (λ (a : Option Acked). IsWordOf script.nodes now a lapse word) (sym (acked_kept script book.batches batch client step none))
    (word_kept script.nodes have now (acked_in script book.batches client step) lapse word
    (λ a e number. missing_kept script (stepped_by batch made) a script.nodes have number
    (λ published.
    let most = (acked_version script book.batches book.world client step a m.kept e).most in
    let up = m.rises published in
    omega (arith, most, up))) h)

-- ---- the words of its tasks

none_late : (b : Bool) (lapse : Option ℕ) → lapse ≡ None → b ≡ (b || is_some lapse)
none_late true lapse e = refl
none_late false lapse e = sym (ap (λ (l : Option ℕ). is_some l) e)

-- one that counts
begun_word : (script : Script) (book : Chronicle) (batch : Batch) (at commit : ℕ) (made : Stepped × World) (have : List NodeCourse) (asked : Ack) (version : ℕ) (lapse : Option ℕ) (word : AckWord)
    → HasMade script book batch at commit made → IsRecordedSoFar script book.batches have → IsEndSo made (end.Ok version) → lapse ≡ None
    → IsCountdown script.nodes (handed_each script (Some (stepped_by batch made)) script.nodes have) (record { asked = asked; version = version; stepped = stepped_by batch made }) lapse
    (word_so script.nodes made.1.state (record { at = at; commit = commit }) (end.Ok version) (Some asked) word)
begun_word script book batch at commit made have asked version lapse word m recorded so none =
    let s = stepped_by batch made in
    let a : Acked = record { asked = asked; version = version; stepped = s } in
    record {
      countdown = begun version (required_mask asked made.1.state script.nodes) (is_over_at commit (option_map (due at) asked.timeout));
      is = λ i. AckWord.Counting (deadline_of (sym m.was_at i) asked.timeout) (begun version (required_mask asked made.1.state script.nodes) (is_over_at commit (option_map (due at) asked.timeout)));
      version = refl;
      failures = refl;
      timed = (λ i. is_over_at (sym (m.reading so.0) i) (option_map (due (sym m.was_at i)) asked.timeout)) ∙ none_late (is_late a) lapse none;
      missing = λ early number. mask_has asked made.1.state script.nodes number m.few
          ∙ missing_begun (IsRecordedAt script book.batches) script s a script.nodes have number recorded
          (record { plain = m.plain; published = so.0; version = so.1; stepped = refl });
    }

-- one that isn't asked for
unasked_word : (nodes : List ScriptNode) (state : ClusterState) (times : Times) (e : TaskEnd) (word : AckWord) → word_so nodes state times e None word ≡ word
unasked_word nodes state times (end.Ok version) word = refl
unasked_word nodes state times (end.Unchanged version) word = refl
unasked_word nodes state times (end.Refused refusal) word = refl
unasked_word nodes state times (end.BatchFailed position refusal) word = refl
unasked_word nodes state times end.NotMaster word = refl
unasked_word nodes state times end.PublishFailed word = refl
unasked_word nodes state times (end.Timeout deadline reading) word = refl
unasked_word nodes state times (end.Closed client step) word = refl

end_word : (script : Script) (book : Chronicle) (batch : Batch) (at commit : ℕ) (made : Stepped × World) (have : List NodeCourse) (asked : Ack) (e : TaskEnd) (lapse : Option ℕ) (word : AckWord)
    → HasMade script book batch at commit made → IsRecordedSoFar script book.batches have → IsEndSo made e → lapse ≡ None → word ≡ AckWord.Vacant
    → IsWordOf script.nodes (handed_each script (Some (stepped_by batch made)) script.nodes have) (acked_ok asked (stepped_by batch made) (Some e)) lapse
    (word_so script.nodes made.1.state (record { at = at; commit = commit }) e (Some asked) word)
end_word script book batch at commit made have asked (end.Ok version) lapse word m recorded so none vacant =
    begun_word script book batch at commit made have asked version lapse word m recorded so none
end_word script book batch at commit made have asked (end.Unchanged version) lapse word m recorded so none vacant = vacant
end_word script book batch at commit made have asked (end.Refused refusal) lapse word m recorded so none vacant = vacant
end_word script book batch at commit made have asked (end.BatchFailed position refusal) lapse word m recorded so none vacant = vacant
end_word script book batch at commit made have asked end.NotMaster lapse word m recorded so none vacant = vacant
end_word script book batch at commit made have asked end.PublishFailed lapse word m recorded so none vacant = vacant
end_word script book batch at commit made have asked (end.Timeout deadline reading) lapse word m recorded so none vacant = vacant
end_word script book batch at commit made have asked (end.Closed client step) lapse word m recorded so none vacant = vacant

so_word : (script : Script) (book : Chronicle) (batch : Batch) (at commit : ℕ) (made : Stepped × World) (have : List NodeCourse) (asked : Option Ack) (client step : ℕ) (e : TaskEnd) (lapse : Option ℕ) (word : AckWord)
    → HasMade script book batch at commit made → IsRecordedSoFar script book.batches have → end_among client step batch.entries made.0.ends ≡ Some e → IsEndSo made e → lapse ≡ None → word ≡ AckWord.Vacant
    → IsWordOf script.nodes (handed_each script (Some (stepped_by batch made)) script.nodes have) (acked_by client step (Some (stepped_by batch made)) asked) lapse
    (word_so script.nodes made.1.state (record { at = at; commit = commit }) e asked word)
so_word script book batch at commit made have None client step e lapse word m recorded found so none vacant =
    unasked_word script.nodes made.1.state (record { at = at; commit = commit }) e word ∙ vacant
so_word script book batch at commit made have (Some asked) client step e lapse word m recorded found so none vacant =
    subst
    (λ (f : Option TaskEnd). IsWordOf script.nodes (handed_each script (Some (stepped_by batch made)) script.nodes have) (acked_ok asked (stepped_by batch made) f) lapse
    (word_so script.nodes made.1.state (record { at = at; commit = commit }) e (Some asked) word)) (sym found)
    (end_word script book batch at commit made have asked e lapse word m recorded so none vacant)

-- what doesn't count hasn't timed out after a commit
lapse_by : (script : Script) (batches : List Batch) (b : AckBook) (client step : ℕ) (found : Option ℕ) → reading_at b (ack_number b.lanes client step) ≡ found
    → IsLapsedSoFar script batches (lapses_of b) → IsTrue (is_in_lane b.lanes client step) → acked_in script batches client step ≡ None → found ≡ None
lapse_by script batches b client step None e h inside none = refl
lapse_by script batches b client step (Some reading) e h inside none =
    let lapsed = h client step reading (cond-true (is_in_lane b.lanes client step) (reading_at b (ack_number b.lanes client step)) None inside ∙ e) in
    absurd (no_some lapsed.of (sym none ∙ lapsed.found))

none_lapsed : (script : Script) (batches : List Batch) (b : AckBook) (client step : ℕ) → IsLapsedSoFar script batches (lapses_of b) → IsTrue (is_in_lane b.lanes client step)
    → acked_in script batches client step ≡ None → reading_at b (ack_number b.lanes client step) ≡ None
none_lapsed script batches b client step h inside none =
    lapse_by script batches b client step (reading_at b (ack_number b.lanes client step)) refl h inside none

-- a task of the batch
own_word : (script : Script) (book : Chronicle) (batch : Batch) (at commit : ℕ) (made : Stepped × World) (have : List NodeCourse) (client step : ℕ) (lapse : Option ℕ) (before after : AckWord)
    → HasMade script book batch at commit made → IsRecordedSoFar script book.batches have → list_any (holds client step) book.batches ≡ false → holds client step batch ≡ true
    → IsBegun script made.1.state (record { at = at; commit = commit }) batch.entries made.0.ends client step before after → lapse ≡ None → before ≡ AckWord.Vacant
    → IsWordOf script.nodes (handed_each script (Some (stepped_by batch made)) script.nodes have) (acked_in script (book.batches ++ batch ∷ []) client step) lapse after
own_word script book batch at commit made have client step lapse before after m recorded free h begun none vacant =
    let now = handed_each script (Some (stepped_by batch made)) script.nodes have in
    let asked = asked_ack (step_at script client step) in
    subst (λ (w : AckWord). IsWordOf script.nodes now (acked_in script (book.batches ++ batch ∷ []) client step) lapse w) (sym begun.word)
    (subst (λ (a : Option Acked). IsWordOf script.nodes now a lapse (word_so script.nodes made.1.state (record { at = at; commit = commit }) begun.end asked before))
    (sym (acked_new script book.batches batch client step free h ∙ (λ i. acked_by client step (Some (m.same i)) asked)))
    (so_word script book batch at commit made have asked client step begun.end lapse before m recorded begun.found
    (end_has (IsEndSo made) batch.entries made.0.ends client step begun.end m.ends begun.found) none vacant))

-- ---- all of them

-- what the batch is counted from
record IsFrom (script : Script) (book : Chronicle) (batch : Batch) (at commit : ℕ) (made : Stepped × World) (have : List NodeCourse) (b : AckBook) : Type 0 where
  made_so : HasMade script book batch at commit made
  new : AreNew script book.batches batch.entries
  count : length made.0.ends ≡ length batch.entries
  recorded : IsRecordedSoFar script book.batches have
  is_book : IsAckBook b
  lapsed : IsLapsedSoFar script book.batches (lapses_of b)
  counted : AreCounted script book.batches have b

abbrev counted_by : Script → Batch → ℕ → ℕ → Stepped × World → AckBook → AckBook
counted_by script batch at commit made b = counted_all script made.1.state (record { at = at; commit = commit }) batch.entries made.0.ends b

words_by : (script : Script) (book : Chronicle) (batch : Batch) (at commit : ℕ) (made : Stepped × World) (have : List NodeCourse) (b : AckBook) (client step : ℕ) (held : Bool)
    → IsFrom script book batch at commit made have b → holds client step batch ≡ held → IsTrue (is_in_lane b.lanes client step)
    → IsWordOf script.nodes (handed_each script (Some (stepped_by batch made)) script.nodes have) (acked_in script (book.batches ++ batch ∷ []) client step)
    (reading_at b (ack_number b.lanes client step)) (word_at (counted_by script batch at commit made b).words (ack_number b.lanes client step))
words_by script book batch at commit made have b client step true f e inside =
    let times : Times = record { at = at; commit = commit } in
    let free = any_has (λ (x y : ℕ). list_any (holds x y) book.batches ≡ false) batch.entries client step f.new.free e in
    let none = acked_none script book.batches client step free in
    let lanes = subst (λ (l : List ℕ). AreInLanes l batch.entries) (sym f.counted.lanes) f.new.inside in
    own_word script book batch at commit made have client step (reading_at b (ack_number b.lanes client step)) (word_at b.words (ack_number b.lanes client step))
    (word_at (counted_by script batch at commit made b).words (ack_number b.lanes client step)) f.made_so f.recorded free e
    (each_begun script made.1.state times batch.entries made.0.ends (pruned b) b.lanes client step refl f.is_book.words f.count f.new.once lanes inside e)
    (none_lapsed script book.batches b client step f.lapsed inside none) (vacant_word script book.batches have b client step f.counted inside none)
words_by script book batch at commit made have b client step false f e inside =
    let times : Times = record { at = at; commit = commit } in
    let lanes = subst (λ (l : List ℕ). AreInLanes l batch.entries) (sym f.counted.lanes) f.new.inside in
    let now = handed_each script (Some (stepped_by batch made)) script.nodes have in
    subst (λ (w : AckWord). IsWordOf script.nodes now (acked_in script (book.batches ++ batch ∷ []) client step) (reading_at b (ack_number b.lanes client step)) w)
    (sym (each_other script made.1.state times batch.entries made.0.ends (pruned b) b.lanes client step refl lanes inside e))
    (other_word script book batch at commit made have client step (reading_at b (ack_number b.lanes client step)) (word_at b.words (ack_number b.lanes client step)) f.made_so e
    (f.counted.words client step inside))

abbrev WordsAre : Script → List Batch → List NodeCourse → List ℕ → List (Option ℕ) → AckBook → Type 0
WordsAre script batches have lanes readings b =
    (client step : ℕ) → IsTrue (is_in_lane lanes client step)
    → IsWordOf script.nodes have (acked_in script batches client step) (get_or readings (ack_number lanes client step) None) (word_at b.words (ack_number lanes client step))

counted_from : (script : Script) (book : Chronicle) (batch : Batch) (at commit : ℕ) (made : Stepped × World) (have : List NodeCourse) (b : AckBook) → IsFrom script book batch at commit made have b
    → AreCounted script (book.batches ++ batch ∷ []) (handed_each script (Some (stepped_by batch made)) script.nodes have) (counted_by script batch at commit made b)
counted_from script book batch at commit made have b f =
    let times : Times = record { at = at; commit = commit } in
    let after = counted_by script batch at commit made b in
    let now = handed_each script (Some (stepped_by batch made)) script.nodes have in
    let batches = book.batches ++ batch ∷ [] in
    let kept = each_kept script made.1.state times batch.entries made.0.ends (pruned b) in
    record {
      lanes = kept.lanes ∙ f.counted.lanes;
      applied = ap (λ (l : List ℕ). length l) kept.applied ∙ f.counted.applied;
      words = subst (λ (l : List ℕ). WordsAre script batches now l after.readings after) (sym kept.lanes)
          (subst (λ (r : List (Option ℕ)). WordsAre script batches now b.lanes r after) (sym kept.readings)
          (λ client step inside. words_by script book batch at commit made have b client step (holds client step batch) f refl inside));
      listed = each_listed script made.1.state times batch.entries made.0.ends (pruned b) (pruned_listed b f.counted.listed);
    }

pub counted_served : (script : Script) (book : Chronicle) (number : ℕ) (queue : QueueSpec) (entries : List Entry) (at commit : ℕ) (have : List NodeCourse) (b : AckBook) → IsScript script → script.faults ≡ []
    → IsKeptBook script book → slice_get script.queues number ≡ Some queue → CanJoin script book queue entries → IsRecordedSoFar script book.batches have → IsAckBook b
    → IsLapsedSoFar script book.batches (lapses_of b) → AreCounted script book.batches have b
    → let made = ran_at script book.world queue entries commit in
    let after = noted book queue entries at made in
    AreCounted script after.batches (handed_each script (last_stepped after) script.nodes have) (counted_all script made.1.state (record { at = at; commit = commit }) entries made.0.ends b)
counted_served script book number queue entries at commit have b valid plain kept e joins recorded is lapsed h =
    let made = ran_at script book.world queue entries commit in
    let batch = batch_of script book queue entries at commit in
    let m = has_made script book number queue entries at commit valid plain kept e in
    subst
    (λ (s : Option SteppedBatch). AreCounted script (book.batches ++ batch ∷ []) (handed_each script s script.nodes have)
    (counted_all script made.1.state (record { at = at; commit = commit }) entries made.0.ends b))
    (sym (noted_stepped script book number queue entries at commit valid kept e ∙ (λ i. Some (m.same i))))
    (counted_from script book batch at commit made have b (record {
      made_so = m;
      new = are_new script book queue entries joins;
      count = ends_count script book.world queue entries commit joins.own;
      recorded = recorded;
      is_book = is;
      lapsed = lapsed;
      counted = h;
    }))
