-- A replay's acknowledgements as a batch comes, and as a node applies: they are as far as the course tells afterwards.
use Rattle.std.specs.Prelude.{◌≡◌, ◌⊎◌, ℕ, zero, suc, ◌+◌, ◌<◌, ◌≤◌, ◌-◌, ◌^◌, Bool, true, false, List, [], ◌∷◌, ◌++◌, length, map, set, Option, Some, None, Result, Ok, Err, IfOk, OnOk, option_and_then, slice_get, refl, if◌then◌else◌}
use Rattle.std.specs.Option.{option_map}
use Rattle.std.specs.List.{AllByRecursion}
use Rattle.std.proofs.Common.{Global, Vec, sym, ◌∙◌, ap, subst, arith, inl, inr}
use Rattle.std.proofs.Math.Bool.{true≢false}
use Rattle.std.proofs.lemmas.List.{length-append, length-map}
use Rattle.std.proofs.lemmas.Option.{slice_get-map, slice_get_within}
use Rattle.node_apply.specs.Applying.{Node}
use Rattle.node_apply.specs.NodeLinks.{NodeLinkView}
use Rattle.meta_state.specs.declared.cluster_state.ClusterState.{ClusterState}
use Rattle.scripts.specs.declared.queues.QueueSpec.{QueueSpec}
use Rattle.scripts.specs.declared.whole_script.Script.{Script}
use Rattle.scripts.specs.declared.whole_script.ScriptNode.{ScriptNode}
use Rattle.scripts.specs.Scripts.{IsScript}
use Rattle.session_law.specs.declared.batches.Batch.{Batch}
use Rattle.session_law.specs.declared.batches.Entry.{Entry}
use Rattle.session_law.specs.declared.task_ends.TaskEnd.{TaskEnd}
use Rattle.session_law.specs.NodeRecords.{Commit, does_fail}
use Rattle.master_run.specs.declared.acknowledgements.Times.{Times}
use Rattle.master_run.specs.declared.replays.Replay.{Replay}
use Rattle.master_run.specs.AckBooks.{AckBook, CanCount, IsAckBook, counted_all, lapses_of, new_acks, pruned, settled}
use Rattle.master_run.specs.AckCounts.{AreCounted}
use Rattle.master_run.specs.Appliers.{AreNodesOf, Origin, courses_of, node_course, origin_for, origin_of}
use Rattle.master_run.specs.Books.{CanJoin, Chronicle, added, added_to, last_entries, last_stepped, noted, ran_at}
use Rattle.master_run.specs.Courses.{Course, lanes_of}
use Rattle.master_run.specs.Events.{Event, event}
use Rattle.master_run.specs.Linked.{IsLinked}
use Rattle.master_run.specs.Nodes.{NodeCourse, applied_so, fresh_nodes, handed_each, node_taking}
use Rattle.master_run.specs.Passing.{ArePassed, meanings_of}
use Rattle.master_run.specs.Replays.{AreEnds, HasCounted, IsSound, answered_in, counted_in, course_of, serial_of, times_of, version_of}
use Rattle.master_run.specs.Serials.{Serial, after_turn, at_clock, first_serial, master_turn, turn_at}
use Rattle.master_run.specs.Servings.{got_from, has_some_in, ran, served}
use Rattle.master_run.specs.SoFar.{IsLapsedSoFar, IsLawfulSoFar}
use Rattle.master_intake.specs.Intakes.{WaitTable}
use Rattle.master_intake.specs.Waitings.{left_by, next_queue, priorities_of}
use Rattle.master_run.proofs.AckApplies.{counted_applied}
use Rattle.master_run.proofs.AckFirst.{counted_first}
use Rattle.master_run.proofs.AckServing.{can_count, counted_served}
use Rattle.master_run.proofs.AckTurning.{lapses_counted}
use Rattle.master_run.proofs.AckVersions.{left_rises}
use Rattle.master_run.proofs.AckEnds.{never_fails}
use Rattle.master_run.proofs.Edges.{last_pushed}
use Rattle.master_run.proofs.Joining.{served_queue}
use Rattle.master_run.proofs.Keeping.{no_some, some_same}
use Rattle.master_run.proofs.Recording.{IsApplied, is_applied}
use Rattle.master_run.proofs.Serving.{got_in, got_is, got_joins}
use Rattle.master_run.proofs.Turning.{after_cases, mapped, next_waits}

-- ---- a master's turn has run a batch or none

record HasBatch (script : Script) (k now : Course) (at : ℕ) : Type 0 where
  number : ℕ
  queue : QueueSpec
  entries : List Entry
  of_queue : slice_get script.queues number ≡ Some queue
  joins : CanJoin script k.book queue entries
  book : now.book ≡ noted k.book queue entries at (ran_at script k.book.world queue entries at)
  nodes : now.nodes ≡ handed_each script (last_stepped now.book) script.nodes k.nodes

abbrev HasBatchOrNone : Script → Course → ℕ → Course → Type 0
HasBatchOrNone script k at now = ((now.book ≡ k.book) × (now.nodes ≡ k.nodes)) ⊎ HasBatch script k now at

ran_so : (script : Script) (k : Course) (number at : ℕ) (queue : QueueSpec) (entries : List Entry) → IsLawfulSoFar script k → slice_get script.queues number ≡ Some queue → got_in number k ≡ entries
    → HasBatchOrNone script k at (ran script number at at (record k { waiting = left_by number k.waiting; tasks = (got_from number k).tasks }) entries)
ran_so script k number at queue [] h e is = inl (refl, refl)
ran_so script k number at queue (first ∷ more) h e is =
    let some : 0 < length (got_in number k) = let long = ap (λ (all : List Entry). length all) is in omega arith in
    inr (record {
      number = number;
      queue = queue;
      entries = first ∷ more;
      of_queue = e;
      joins = subst (CanJoin script k.book queue) is (got_joins script k number queue h e some);
      book = ap (λ (found : Option QueueSpec). added_to script k.book found (first ∷ more) at at) e;
      nodes = refl;
    })

served_so : (script : Script) (k now : Course) (number at : ℕ) (b : Bool) → has_some_in number k.waiting ≡ b → IsLawfulSoFar script k
    → (if b then Some (served script number at at k) else None) ≡ Some now → HasBatchOrNone script k at now
served_so script k now number at false some h e = absurd (no_some now e)
served_so script k now number at true some h e =
    let queue = served_queue script k.positions number k.waiting h.ordered.waits some in
    subst (HasBatchOrNone script k at) (some_same (served script number at at k) now e)
    (subst (λ (all : List Entry). HasBatchOrNone script k at (ran script number at at (record k { waiting = left_by number k.waiting; tasks = (got_from number k).tasks }) all)) (sym (got_is script k number h))
    (ran_so script k number at queue.0 (got_in number k) h queue.1 refl))

abbrev HasRun : Script → Serial → Serial → Type 0
HasRun script s t = HasBatchOrNone script s.course s.clock t.course × (t.clock ≡ s.clock)

turn_so : (script : Script) (s t : Serial) (found : Option ℕ) → IsLawfulSoFar script s.course
    → option_and_then (λ queue. option_map (at_clock s.clock) (event script (Event.Serve queue s.clock s.clock) s.course)) found ≡ Some t → HasRun script s t
turn_so script s t None h e = absurd (no_some t e)
turn_so script s t (Some number) h e =
    let m = mapped (at_clock s.clock) (event script (Event.Serve number s.clock s.clock) s.course) t e in
    subst (HasRun script s) m.is (served_so script s.course m.from number s.clock (has_some_in number s.course.waiting) refl h m.found, refl)

has_run : (script : Script) (s t : Serial) (acted : Bool) → IsLawfulSoFar script s.course → after_turn (false, s) (master_turn script s) ≡ (acted, t) → HasRun script s t
has_run script s t acted h e =
    after_cases (HasRun script s) s t (master_turn script s) acted (inl (refl, refl), refl) (λ u f. turn_so script s u (next_queue (priorities_of script.queues) s.course.waiting) h f) e

-- ---- what begins to count

-- the book after the batch: its entries, their ends and its state
record HasLast (script : Script) (k now : Course) (at : ℕ) (h : HasBatch script k now at) : Type 0 where
  entries : last_entries now.book.batches ≡ h.entries
  ends : now.book.ends ≡ (ran_at script k.book.world h.queue h.entries at).0.ends

has_last : (script : Script) (k now : Course) (at : ℕ) (h : HasBatch script k now at) → HasLast script k now at h
has_last script k now at h = record {
  entries = ap (λ (b : Chronicle). last_entries b.batches) h.book ∙ last_pushed k.book.batches _;
  ends = ap (λ (b : Chronicle). b.ends) h.book;
}

can_so : (script : Script) (k now : Course) (at : ℕ) (times : Times) (b : AckBook) → IsScript script → IsLawfulSoFar script k → AreCounted script k.book.batches k.nodes b → IsAckBook b
    → HasBatch script k now at → CanCount script now.book.world.state times (last_entries now.book.batches) now.book.ends (pruned b)
can_so script k now at times b valid h counts is run =
    let last = has_last script k now at run in
    let can = can_count script k.book run.number run.queue run.entries at at k.nodes b times valid h.ordered.kept run.of_queue run.joins is counts in
    subst (λ (all : List Entry). CanCount script now.book.world.state times all now.book.ends (pruned b)) (sym last.entries)
    (subst (λ (book : Chronicle). CanCount script book.world.state times run.entries book.ends (pruned b)) (sym run.book) can)

counted_so : (script : Script) (k now : Course) (at : ℕ) (b : AckBook) → IsScript script → script.faults ≡ [] → IsLawfulSoFar script k → k.lapses ≡ lapses_of b → AreCounted script k.book.batches k.nodes b
    → IsAckBook b → HasBatch script k now at
    → AreCounted script now.book.batches now.nodes (counted_all script now.book.world.state (record { at = at; commit = at }) (last_entries now.book.batches) now.book.ends b)
counted_so script k now at b valid plain h same counts is run =
    let last = has_last script k now at run in
    let made = counted_served script k.book run.number run.queue run.entries at at k.nodes b valid plain h.ordered.kept run.of_queue run.joins h.recorded is
    (subst (IsLapsedSoFar script k.book.batches) same h.lapsed) counts in
    subst (λ (nodes : List NodeCourse). AreCounted script now.book.batches nodes (counted_all script now.book.world.state (record { at = at; commit = at }) (last_entries now.book.batches) now.book.ends b)) (sym run.nodes)
    (subst (λ (all : List Entry). AreCounted script now.book.batches (handed_each script (last_stepped now.book) script.nodes k.nodes) (counted_all script now.book.world.state (record { at = at; commit = at }) all now.book.ends b)) (sym last.entries)
    (subst (λ (book : Chronicle). AreCounted script book.batches (handed_each script (last_stepped book) script.nodes k.nodes) (counted_all script book.world.state (record { at = at; commit = at }) run.entries book.ends b)) (sym run.book) made))

grown : (script : Script) (k now : Course) (at : ℕ) → HasBatchOrNone script k at now → length k.book.batches < length now.book.batches → HasBatch script k now at
grown script k now at (inl same) less = absurd (let e = ap (λ (b : Chronicle). length b.batches) same.0 in omega arith)
grown script k now at (inr run) less = run

same_or_grown : (script : Script) (k now : Course) (at : ℕ) → HasBatchOrNone script k at now → (length k.book.batches < length now.book.batches → ⊥) → (now.book ≡ k.book) × (now.nodes ≡ k.nodes)
same_or_grown script k now at (inl same) less = same
same_or_grown script k now at (inr run) less =
    absurd (less (let e = ap (λ (b : Chronicle). length b.batches) run.book ∙ length-append k.book.batches _ in omega arith))

-- ---- a replay's master

pub counts_can : (script : Script) (before mid : Replay) (acted : Bool) → IsScript script → IsSound script before → HasCounted script before
    → after_turn (false, serial_of before) (master_turn script (serial_of before)) ≡ (acted, serial_of mid) → mid.acks ≡ before.acks → length before.book.batches < length mid.book.batches → IsAckBook mid.acks
    → CanCount script mid.book.world.state (times_of mid) (last_entries mid.book.batches) mid.book.ends (pruned mid.acks)
counts_can script before mid acted valid sound counts e same less is =
    can_so script (course_of before) (course_of mid) before.clock (times_of mid) mid.acks valid sound.lawful
    (subst (AreCounted script before.book.batches (courses_of before.nodes.items)) (sym same) counts) is
    (grown script (course_of before) (course_of mid) before.clock (has_run script (serial_of before) (serial_of mid) acted sound.lawful e).0 less)

pub counts_now : (script : Script) (before mid : Replay) (acted : Bool) → IsScript script → script.faults ≡ [] → IsSound script before → HasCounted script before
    → after_turn (false, serial_of before) (master_turn script (serial_of before)) ≡ (acted, serial_of mid) → mid.acks ≡ before.acks → length before.book.batches < length mid.book.batches → IsAckBook mid.acks
    → HasCounted script (counted_in script mid)
counts_now script before mid acted valid plain sound counts e same less is =
    let run = has_run script (serial_of before) (serial_of mid) acted sound.lawful e in
    subst (λ (at : ℕ). AreCounted script mid.book.batches (courses_of mid.nodes.items) (counted_all script mid.book.world.state (record { at = at; commit = at }) (last_entries mid.book.batches) mid.book.ends mid.acks)) (sym run.1)
    (counted_so script (course_of before) (course_of mid) before.clock mid.acks valid plain sound.lawful (ap lapses_of (sym same))
    (subst (AreCounted script before.book.batches (courses_of before.nodes.items)) (sym same) counts) is
    (grown script (course_of before) (course_of mid) before.clock run.0 less))

pub counts_none : (script : Script) (before mid : Replay) (acted : Bool) → IsSound script before → HasCounted script before
    → after_turn (false, serial_of before) (master_turn script (serial_of before)) ≡ (acted, serial_of mid) → mid.acks ≡ before.acks → (length before.book.batches < length mid.book.batches → ⊥)
    → HasCounted script mid
counts_none script before mid acted sound counts e same less =
    let stays = same_or_grown script (course_of before) (course_of mid) before.clock (has_run script (serial_of before) (serial_of mid) acted sound.lawful e).0 less in
    subst (λ (nodes : List NodeCourse). AreCounted script mid.book.batches nodes mid.acks) (sym stays.1)
    (subst (λ (book : Chronicle). AreCounted script book.batches (courses_of before.nodes.items) mid.acks) (sym stays.0)
    (subst (AreCounted script before.book.batches (courses_of before.nodes.items)) (sym same) counts))

-- what counts changes nothing else
pub counted_serial : (script : Script) (mid : Replay) → serial_of (counted_in script mid) ≡ serial_of mid
counted_serial script mid = λ i. at_clock mid.clock (record (course_of mid) { lapses = lapses_counted script mid.book.world.state (times_of mid) (last_entries mid.book.batches) mid.book.ends mid.acks i })

pub sound_counted : (script : Script) (mid now : Replay) → serial_of now ≡ serial_of mid → now.waiting ≡ mid.waiting → now.nodes ≡ mid.nodes → IsSound script mid → IsSound script now
sound_counted script mid now e waiting nodes sound = record {
  lawful = subst (λ (s : Serial). IsLawfulSoFar script s.course) (sym e) sound.lawful;
  priorities = ap (λ (w : WaitTable). w.priorities) waiting ∙ sound.priorities;
  nodes = ap (λ (v : Vec Node Global). map origin_of v.items) nodes ∙ sound.nodes;
  clock = subst (λ (s : Serial). s.clock ≤ 2 ^ 43 - 2) (sym e) sound.clock;
}

pub ends_counted : (script : Script) (mid now : Replay) (links : List NodeLinkView) → serial_of now ≡ serial_of mid → now.nodes ≡ mid.nodes → AreEnds script mid links → AreEnds script now links
ends_counted script mid now links e nodes ends = record {
  linked = subst (λ (s : Serial). IsLinked script s.course (meanings_of links)) (sym e) ends.linked;
  passed = subst (λ (v : Vec Node Global). ArePassed links v.items) (sym nodes) ends.passed;
}

-- ---- a node's turn

after_true : (s t : Serial) (o : Option Serial) → after_turn (false, s) o ≡ (true, t) → o ≡ Some t
after_true s t None e = absurd (true≢false (sym (ap (λ (p : Bool × Serial). p.0) e)))
after_true s t (Some u) e = ap (λ (p : Bool × Serial). Some p.1) e

after_false : (s t : Serial) (o : Option Serial) → after_turn (false, s) o ≡ (false, t) → t ≡ s
after_false s t None e = sym (ap (λ (p : Bool × Serial). p.1) e)
after_false s t (Some u) e = absurd (true≢false (ap (λ (p : Bool × Serial). p.0) e))

-- what a node that acted has applied
has_applied : (script : Script) (before mid : Replay) (number : ℕ) → after_turn (false, serial_of before) (turn_at script number (serial_of before)) ≡ (true, serial_of mid)
    → IsApplied script (course_of before) (course_of mid) number
has_applied script before mid number e =
    let m = mapped (at_clock before.clock) (event script (Event.Apply number) (course_of before)) (serial_of mid) (after_true (serial_of before) (serial_of mid) (turn_at script number (serial_of before)) e) in
    subst (λ (k : Course). IsApplied script (course_of before) k number) (ap (λ (s : Serial). s.course) m.is) (is_applied script (course_of before) m.from number m.found)

-- the node of its number, in its list
pub node_within : (script : Script) (before mid : Replay) (number : ℕ) → after_turn (false, serial_of before) (turn_at script number (serial_of before)) ≡ (true, serial_of mid)
    → IsSound script mid → (number < length mid.nodes.items) × (number < length script.nodes)
node_within script before mid number e sound =
    let a = has_applied script before mid number e in
    let within = slice_get_within script.nodes number a.node a.of_script in
    let long : length mid.nodes.items ≡ length script.nodes =
    sym (length-map mid.nodes.items origin_of) ∙ ap (λ (all : List Origin). length all) sound.nodes ∙ length-map script.nodes (origin_for script) in
    (omega (arith, within, long), within)

state_so : (b : Bool) (commit : Commit) (has : NodeCourse) (more : List Commit) → b ≡ false → (record (applied_so b commit has) { left = more }).state ≡ commit.state
state_so true commit has more e = absurd (true≢false e)
state_so false commit has more e = refl

set_at : {A : Type 0} (xs : List A) (n : ℕ) (x y : A) → slice_get xs n ≡ Some x → slice_get (set xs n y) n ≡ Some y
set_at [] n x y e = absurd (no_some x e)
set_at (a ∷ xs) zero x y e = refl
set_at (a ∷ xs) (suc n) x y e = set_at xs n x y e

version_by : (found : Option Node) (now : NodeCourse) → option_map node_course found ≡ Some now → version_of found ≡ now.state.version
version_by None now e = absurd (no_some now e)
version_by (Some node) now e = ap (λ (n : NodeCourse). n.state.version) (some_same (node_course node) now e)

-- it answers what waits for the version that it applied
pub answers_now : (script : Script) (before mid : Replay) (number : ℕ) → IsScript script → script.faults ≡ [] → IsSound script before → HasCounted script before
    → after_turn (false, serial_of before) (turn_at script number (serial_of before)) ≡ (true, serial_of mid) → mid.acks ≡ before.acks → IsAckBook mid.acks → HasCounted script (answered_in mid number)
answers_now script before mid number valid plain sound counts e same is =
    let a = has_applied script before mid number e in
    let now : NodeCourse = record (node_taking script a.node.name a.commit a.has) { left = a.more } in
    let within = slice_get_within script.nodes number a.node a.of_script in
    let few = valid.nodes_limit in
    let nodes : courses_of mid.nodes.items ≡ set (courses_of before.nodes.items) number now = sym (ap (λ (k : Course). k.nodes) a.is) in
    let book : mid.book.batches ≡ before.book.batches = sym (ap (λ (k : Course). k.book.batches) a.is) in
    let there : slice_get (courses_of mid.nodes.items) number ≡ Some now =
    ap (λ (all : List NodeCourse). slice_get all number) nodes ∙ set_at (courses_of before.nodes.items) number a.has now a.of_course in
    let version : version_of (slice_get mid.nodes.items number) ≡ a.commit.state.version =
    version_by (slice_get mid.nodes.items number) now (sym (slice_get-map node_course mid.nodes.items number) ∙ there)
    ∙ ap (λ (state : ClusterState). state.version) (state_so (does_fail script a.node.name a.commit) a.commit a.has a.more (never_fails script a.node.name a.commit plain)) in
    let rises = left_rises script before.book.batches (courses_of before.nodes.items) number a.node a.has a.commit a.more sound.lawful.recorded a.of_course a.of_script a.left in
    let made = counted_applied script before.book.batches (courses_of before.nodes.items) number a.has now a.commit a.more mid.acks is
    (subst (AreCounted script before.book.batches (courses_of before.nodes.items)) (sym same) counts) a.of_course (omega (arith, within, few)) a.left refl rises in
    subst (λ (v : ℕ). AreCounted script mid.book.batches (courses_of mid.nodes.items) (settled number v mid.acks)) (sym version)
    (subst (λ (all : List NodeCourse). AreCounted script mid.book.batches all (settled number a.commit.state.version mid.acks)) (sym nodes)
    (subst (λ (batches : List Batch). AreCounted script batches (set (courses_of before.nodes.items) number now) (settled number a.commit.state.version mid.acks)) (sym book) made))

pub stays_counted : (script : Script) (before mid : Replay) (number : ℕ) → HasCounted script before
    → after_turn (false, serial_of before) (turn_at script number (serial_of before)) ≡ (false, serial_of mid) → mid.acks ≡ before.acks → HasCounted script mid
stays_counted script before mid number counts e same =
    let s = after_false (serial_of before) (serial_of mid) (turn_at script number (serial_of before)) e in
    subst (λ (t : Serial). AreCounted script t.course.book.batches t.course.nodes mid.acks) (sym s)
    (subst (AreCounted script before.book.batches (courses_of before.nodes.items)) (sym same) counts)

-- ---- at first

pub opened_counted : (script : Script) (before now : Replay) → serial_of now ≡ first_serial script → now.acks ≡ before.acks → before.acks ≡ new_acks (lanes_of script) (length script.nodes) → HasCounted script now
opened_counted script before now e same fresh =
    subst (λ (s : Serial). AreCounted script s.course.book.batches s.course.nodes now.acks) (sym e)
    (subst (AreCounted script [] (fresh_nodes script)) (sym (same ∙ fresh)) (counted_first script))
