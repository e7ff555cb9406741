-- The master's turn, step by step: what it takes of a queue, what a batch gets of that, and how the batch ends.
use Rattle.std.specs.Prelude.{◌≡◌, ℕ, ◌==◌, ◌+◌, ◌<◌, Bool, true, false, List, [], ◌∷◌, length, map, Option, Some, None, option_and_then, slice_get, refl, if◌then◌else◌}
use Rattle.std.specs.Option.{option_map}
use Rattle.std.proofs.Common.{sym, ◌∙◌, ap, subst, arith}
use Rattle.std.proofs.Math.Bool.{true≢false}
use Rattle.std.specs.Cmp.{unsigned_Decides}
use Rattle.std.proofs.lemmas.List.{length-append}
use Rattle.publication.specs.LinkMeanings.{LinkMeaning}
use Rattle.scripts.specs.declared.queues.QueueSpec.{QueueSpec}
use Rattle.scripts.specs.declared.whole_script.Script.{Script}
use Rattle.scripts.specs.Scripts.{IsScript}
use Rattle.session_law.specs.declared.batches.Entry.{Entry}
use Rattle.session_law.specs.declared.task_ends.TaskEnd.{TaskEnd}
use Rattle.session_law.specs.Histories.{queued_of}
use Rattle.session_law.specs.Publications.{cut_by}
use Rattle.session_law.proofs.BatchEnds.{ends_of_batches}
use Rattle.task_words.specs.Words.{TaskTable}
use Rattle.master_intake.specs.declared.entries.Taken.{Taken}
use Rattle.master_intake.specs.declared.entries.WaitingTask.{WaitingTask}
use Rattle.master_intake.specs.Intakes.{WaitTable, batch_from, batch_of, covered_by, left_after, left_without}
use Rattle.master_intake.specs.Waitings.{left_by, next_queue, priorities_of}
use Rattle.master_run.specs.declared.replays.Replay.{Replay}
use Rattle.master_run.specs.Appliers.{origin_of}
use Rattle.master_run.specs.Books.{CanJoinAt, Chronicle, added, added_to, input_at, last_entries, last_stepped, noted, placed_in, ran_at}
use Rattle.master_run.specs.Courses.{Course}
use Rattle.master_run.specs.Events.{Event, event}
use Rattle.master_run.specs.Linked.{AreUsed, IsLinked, batches_left}
use Rattle.master_run.specs.Nodes.{handed_each}
use Rattle.master_run.specs.Replays.{IsOverLinks, IsSound, course_of, serial_of}
use Rattle.master_run.specs.Sendings.{AreLinksOf}
use Rattle.master_run.specs.Serials.{Serial, after_turn, at_clock, master_turn}
use Rattle.master_run.specs.Servings.{CanEnd, CanGather, Gathered, ended_all, gathered, got_from, has_some_in, ran, served}
use Rattle.master_run.proofs.Edges.{last_pushed}
use Rattle.master_run.proofs.EndingAll.{AreBatchs, can_end}
use Rattle.master_run.proofs.Gathering.{can_gather}
use Rattle.master_run.proofs.Joining.{served_queue}
use Rattle.master_run.proofs.Keeping.{no_some, some_same}
use Rattle.master_run.proofs.Linking.{all_sure, linked_by_batch, linked_by_none, rooms_left}
use Rattle.master_run.proofs.Serving.{apart_later, covered, got_batchs, got_in, got_is, got_joins, once_from, tried_in, tried_others, tried_wait}
use Rattle.master_run.proofs.Turning.{master_on_time, next_waits, on_time, sound_now}

-- ---- what is taken

-- a queue was taken: the one that is next, with all that waits there
pub record IsTaking (script : Script) (before : Replay) (taken : Taken) (waiting : WaitTable) (tasks : TaskTable) : Type 0 where
  pub next : next_queue (priorities_of script.queues) before.waiting.waiting ≡ Some taken.queue
  pub some : has_some_in taken.queue before.waiting.waiting ≡ true
  pub tried : taken.waiting ≡ tried_in taken.queue (course_of before)
  pub left : waiting ≡ record before.waiting { waiting = left_by taken.queue before.waiting.waiting }
  pub cover : tasks ≡ covered taken.queue (course_of before)

taking_by : (script : Script) (before : Replay) (taken : Taken) (waiting : WaitTable) (tasks : TaskTable) (queue : Option ℕ) → before.waiting.priorities ≡ priorities_of script.queues
    → next_queue before.waiting.priorities before.waiting.waiting ≡ queue → batch_from before.waiting.waiting queue ≡ Some taken
    → waiting ≡ record before.waiting { waiting = left_without before.waiting.waiting queue } → tasks ≡ covered_by queue before.tasks → IsTaking script before taken waiting tasks
taking_by script before taken waiting tasks None p e f g h = absurd (no_some taken f)
taking_by script before taken waiting tasks (Some queue) p e f g h =
    let same = some_same _ taken f in
    let next = ap (λ q. next_queue q before.waiting.waiting) (sym p) ∙ e in
    subst (λ (t : Taken). IsTaking script before t waiting tasks) same
    (record { next = next; some = next_waits (priorities_of script.queues) before.waiting.waiting queue next; tried = refl; left = g; cover = h })

pub is_taking : (script : Script) (before : Replay) (found : Option Taken) (taken : Taken) (waiting : WaitTable) (tasks : TaskTable) → IsSound script before → found ≡ Some taken
    → found ≡ batch_of before.waiting → waiting ≡ left_after before.waiting → tasks ≡ covered_by (next_queue before.waiting.priorities before.waiting.waiting) before.tasks
    → IsTaking script before taken waiting tasks
is_taking script before found taken waiting tasks sound is e f g =
    taking_by script before taken waiting tasks (next_queue before.waiting.priorities before.waiting.waiting) sound.priorities refl (sym e ∙ is) f g

-- ---- nothing is taken

none_by : (script : Script) (before : Replay) (waiting : WaitTable) (tasks : TaskTable) (queue : Option ℕ) → IsSound script before → batch_from before.waiting.waiting queue ≡ None
    → waiting ≡ record before.waiting { waiting = left_without before.waiting.waiting queue } → tasks ≡ covered_by queue before.tasks
    → IsSound script (record before { waiting = waiting; tasks = tasks })
none_by script before waiting tasks None sound e f g =
    subst (λ (w : WaitTable). IsSound script (record before { waiting = w; tasks = tasks })) (sym f)
    (subst (λ (t : TaskTable). IsSound script (record before { tasks = t })) (sym g) sound)
none_by script before waiting tasks (Some queue) sound e f g = absurd (no_some _ (sym e))

pub none_sound : (script : Script) (before : Replay) (found : Option Taken) (waiting : WaitTable) (tasks : TaskTable) → IsSound script before → found ≡ None → found ≡ batch_of before.waiting
    → waiting ≡ left_after before.waiting → tasks ≡ covered_by (next_queue before.waiting.priorities before.waiting.waiting) before.tasks
    → IsSound script (record before { waiting = waiting; tasks = tasks })
none_sound script before found waiting tasks sound is e f g =
    none_by script before waiting tasks (next_queue before.waiting.priorities before.waiting.waiting) sound (sym e ∙ is) f g

-- ---- what is got

pub gather_can : (script : Script) (before : Replay) (taken : Taken) (waiting : WaitTable) (tasks : TaskTable) (batch : ℕ) (all : List WaitingTask) → IsSound script before
    → IsTaking script before taken waiting tasks → all ≡ taken.waiting → CanGather batch all tasks
gather_can script before taken waiting tasks batch all sound taking e =
    let k = course_of before in
    subst (λ (t : TaskTable). CanGather batch all t) (sym taking.cover)
    (subst (λ (w : List WaitingTask). CanGather batch w (covered taken.queue k)) (sym (e ∙ taking.tried))
    (can_gather batch (tried_in taken.queue k) (covered taken.queue k) (tried_others script k taken.queue sound.lawful) (tried_wait script k taken.queue sound.lawful)))

pub got_gathered : (script : Script) (before : Replay) (taken : Taken) (waiting : WaitTable) (tasks : TaskTable) (count : ℕ) (all : List WaitingTask) (made : Gathered)
    → IsTaking script before taken waiting tasks → all ≡ taken.waiting → count ≡ length before.book.batches → gathered (count + 1) all (record { entries = []; tasks = tasks }) ≡ made
    → got_from taken.queue (course_of before) ≡ made
got_gathered script before taken waiting tasks count all made taking e same g =
    sym (λ i. gathered (same i + 1) ((e ∙ taking.tried) i) (record { entries = []; tasks = taking.cover i })) ∙ g

-- the turn acts
found_some : (s : Serial) (script : Script) (queue : ℕ) (b : Bool) → b ≡ true
    → option_map (at_clock s.clock) (if b then Some (served script queue s.clock s.clock s.course) else None) ≡ Some (at_clock s.clock (served script queue s.clock s.clock s.course))
found_some s script queue true e = refl
found_some s script queue false e = cc

turn_some : (script : Script) (s : Serial) (found : Option ℕ) (queue : ℕ) → found ≡ Some queue → has_some_in queue s.course.waiting ≡ true
    → option_and_then (λ q. option_map (at_clock s.clock) (event script (Event.Serve q s.clock s.clock) s.course)) found ≡ Some (at_clock s.clock (served script queue s.clock s.clock s.course))
turn_some script s found queue e some =
    ap (option_and_then (λ q. option_map (at_clock s.clock) (event script (Event.Serve q s.clock s.clock) s.course))) e ∙ found_some s script queue (has_some_in queue s.course.waiting) some

pub master_acts : (script : Script) (before : Replay) (taken : Taken) (waiting : WaitTable) (tasks : TaskTable) → IsTaking script before taken waiting tasks
    → after_turn (false, serial_of before) (master_turn script (serial_of before)) ≡ (true, at_clock before.clock (served script taken.queue before.clock before.clock (course_of before)))
master_acts script before taken waiting tasks taking =
    ap (after_turn (false, serial_of before)) (turn_some script (serial_of before) (next_queue (priorities_of script.queues) before.waiting.waiting) taken.queue taking.next taking.some)

-- ---- where none is got

pub empty_turn : (script : Script) (before : Replay) (taken : Taken) (waiting : WaitTable) (tasks now : TaskTable) (entries : List Entry) → IsTaking script before taken waiting tasks
    → got_from taken.queue (course_of before) ≡ record { entries = entries; tasks = now } → entries ≡ []
    → after_turn (false, serial_of before) (master_turn script (serial_of before)) ≡ (true, serial_of (record before { waiting = waiting; tasks = now }))
empty_turn script before taken waiting tasks now entries taking got none =
    let k = course_of before in
    let queue = taken.queue in
    let at = before.clock in
    let is : served script queue at at k ≡ record k { waiting = left_by queue k.waiting; tasks = now } =
    (λ i. ran script queue at at (record k { waiting = left_by queue k.waiting; tasks = (got i).tasks }) (got i).entries)
    ∙ (λ i. ran script queue at at (record k { waiting = left_by queue k.waiting; tasks = now }) (none i)) in
    master_acts script before taken waiting tasks taking
    ∙ (λ i. (true, at_clock at (is i))) ∙ (λ i. (true, serial_of (record before { waiting = sym taking.left i; tasks = now })))

pub sound_by_master : (script : Script) (before now : Replay) (acted : Bool) → IsScript script → IsSound script before
    → after_turn (false, serial_of before) (master_turn script (serial_of before)) ≡ (acted, serial_of now) → now.waiting.priorities ≡ before.waiting.priorities
    → map origin_of now.nodes.items ≡ map origin_of before.nodes.items → IsSound script now
sound_by_master script before now acted valid sound e same stay =
    sound_now script now (serial_of now) refl (master_on_time script (serial_of before) (serial_of now) acted valid (on_time script before sound) e) (same ∙ sound.priorities)
    (stay ∙ sound.nodes)

pub empty_linked : (script : Script) (before : Replay) (taken : Taken) (waiting : WaitTable) (tasks now : TaskTable) (links : List LinkMeaning) → IsTaking script before taken waiting tasks
    → IsLinked script (course_of before) links → IsLinked script (course_of (record before { waiting = waiting; tasks = now })) links
empty_linked script before taken waiting tasks now links taking linked =
    linked_by_none script (course_of before) (course_of (record before { waiting = waiting; tasks = now })) taken.queue links taking.some linked refl refl
    (ap (λ (w : WaitTable). w.waiting) taking.left)

empty_list : (entries : List Entry) → (length entries == 0) ≡ true → entries ≡ []
empty_list [] e = refl
empty_list (entry ∷ more) e = absurd (let none = (unsigned_Decides (length (entry ∷ more)) 0).0 e in omega arith)

some_list : (entries : List Entry) → (length entries == 0) ≡ false → 0 < length entries
some_list [] e = absurd (true≢false e)
some_list (entry ∷ more) e = omega arith

pub none_got : (all entries : List Entry) (b : Bool) → all ≡ entries → b ≡ (length all == 0) → b ≡ true → entries ≡ []
none_got all entries b e f h = sym e ∙ empty_list all (sym f ∙ h)

pub some_got : (all entries : List Entry) (b : Bool) → all ≡ entries → b ≡ (length all == 0) → b ≡ false → 0 < length entries
some_got all entries b e f h = subst (λ (l : List Entry). 0 < length l) e (some_list all (sym f ∙ h))

-- ---- a batch

pub batch_joins : (script : Script) (before : Replay) (taken : Taken) (waiting : WaitTable) (tasks now : TaskTable) (entries : List Entry) → IsSound script before
    → IsTaking script before taken waiting tasks → got_from taken.queue (course_of before) ≡ record { entries = entries; tasks = now } → 0 < length entries
    → CanJoinAt script before.book taken.queue entries
batch_joins script before taken waiting tasks now entries sound taking got some =
    let k = course_of before in
    let queue = served_queue script k.positions taken.queue k.waiting sound.lawful.ordered.waits taking.some in
    let same : entries ≡ got_in taken.queue k = sym (ap (λ (g : Gathered). g.entries) got) ∙ got_is script k taken.queue sound.lawful in
    subst (CanJoinAt script before.book taken.queue) (sym same)
    (record { queue = queue.0; of_queue = queue.1; joins = got_joins script k taken.queue queue.0 sound.lawful queue.1 (subst (λ (all : List Entry). 0 < length all) same some) })

pub batch_over : (script : Script) (before : Replay) (taken : Taken) (waiting : WaitTable) (tasks now : TaskTable) (links : List LinkMeaning) → IsSound script before
    → IsTaking script before taken waiting tasks → IsLinked script (course_of before) links → IsOverLinks script (record before { waiting = waiting; tasks = now }) links
batch_over script before taken waiting tasks now links sound taking linked = record {
  of = linked.of;
  sure = all_sure (batches_left script (course_of before)) links linked.steady;
  room = rooms_left script (course_of before) taken.queue links taking.some linked;
  faults = linked.faults;
  clock = sound.clock;
}

-- what the book is after the batch
record IsBooked (script : Script) (before : Replay) (queue : ℕ) (entries : List Entry) (book : Chronicle) : Type 0 where
  found : QueueSpec
  of_queue : slice_get script.queues queue ≡ Some found
  is : book ≡ noted before.book found entries before.clock (ran_at script before.book.world found entries before.clock)

is_booked : (script : Script) (before : Replay) (queue : ℕ) (entries : List Entry) (book : Chronicle) → CanJoinAt script before.book queue entries
    → book ≡ added script before.book queue entries before.clock before.clock → IsBooked script before queue entries book
is_booked script before queue entries book joins e = record {
  found = joins.queue;
  of_queue = joins.of_queue;
  is = e ∙ ap (λ (found : Option QueueSpec). added_to script before.book found entries before.clock before.clock) joins.of_queue;
}

booked_count : (script : Script) (before : Replay) (queue : ℕ) (entries : List Entry) (book : Chronicle) → IsBooked script before queue entries book → length book.batches ≡ length before.book.batches + 1
booked_count script before queue entries book booked = ap (λ (b : Chronicle). length b.batches) booked.is ∙ length-append before.book.batches _

pub batch_ends : (script : Script) (before : Replay) (taken : Taken) (waiting : WaitTable) (tasks now : TaskTable) (entries all : List Entry) (ends : List TaskEnd) (book : Chronicle) (count : ℕ)
    → IsSound script before → IsTaking script before taken waiting tasks → got_from taken.queue (course_of before) ≡ record { entries = entries; tasks = now } → 0 < length entries
    → book ≡ added script before.book taken.queue entries before.clock before.clock → all ≡ last_entries book.batches → ends ≡ book.ends → count ≡ length before.book.batches
    → CanEnd (count + 1) all ends now
batch_ends script before taken waiting tasks now entries all ends book count sound taking got some e f g same =
    let k = course_of before in
    let joins = batch_joins script before taken waiting tasks now entries sound taking got some in
    let booked = is_booked script before taken.queue entries book joins e in
    let made = ran_at script before.book.world booked.found entries before.clock in
    let is : entries ≡ got_in taken.queue k = sym (ap (λ (x : Gathered). x.entries) got) ∙ got_is script k taken.queue sound.lawful in
    let ends_are : ends ≡ made.0.ends = g ∙ ap (λ (b : Chronicle). b.ends) booked.is in
    let all_are : all ≡ entries = f ∙ ap (λ (b : Chronicle). last_entries b.batches) booked.is ∙ last_pushed before.book.batches _ in
    let placed = apart_later (queued_of before.book.batches) (placed_in joins.queue.name entries) joins.joins.apart in
    let has : AreBatchs (length before.book.batches + 1) now entries =
    subst (λ (l : List Entry). AreBatchs (length before.book.batches + 1) now l) (sym is)
    (subst (λ (x : Gathered). AreBatchs (length before.book.batches + 1) x.tasks (got_in taken.queue k)) got (got_batchs script k taken.queue sound.lawful)) in
    subst (λ (n : ℕ). CanEnd (n + 1) all ends now) (sym same)
    (subst (λ (l : List Entry). CanEnd (length before.book.batches + 1) l ends now) (sym all_are)
    (subst (λ (l : List TaskEnd). CanEnd (length before.book.batches + 1) entries l now) (sym ends_are)
    (can_end (length before.book.batches + 1) entries made.0.ends now (omega arith) (once_from joins.queue.name entries placed) has
    (ends_of_batches (input_at (cut_by script.faults) script booked.found entries before.clock) before.book.world))))

ran_some : (script : Script) (queue at : ℕ) (k : Course) (entries : List Entry) → 0 < length entries
    → let book = added script k.book queue entries at at in
    ran script queue at at k entries
    ≡ record k { book = book; tasks = ended_all (length book.batches) entries book.ends k.tasks; nodes = handed_each script (last_stepped book) script.nodes k.nodes }
ran_some script queue at k [] some = absurd (omega arith)
ran_some script queue at k (first ∷ more) some = refl

pub batch_turn : (script : Script) (before new : Replay) (taken : Taken) (waiting : WaitTable) (tasks now after : TaskTable) (entries all : List Entry) (ends : List TaskEnd) (count : ℕ)
    → IsSound script before → IsTaking script before taken waiting tasks → got_from taken.queue (course_of before) ≡ record { entries = entries; tasks = now } → 0 < length entries
    → new ≡ record before { waiting = waiting; tasks = now; book = added script before.book taken.queue entries before.clock before.clock; nodes = new.nodes }
    → all ≡ last_entries new.book.batches → ends ≡ new.book.ends → count ≡ length before.book.batches → after ≡ ended_all (count + 1) all ends new.tasks
    → handed_each script (last_stepped new.book) script.nodes (course_of before).nodes ≡ (course_of new).nodes
    → after_turn (false, serial_of before) (master_turn script (serial_of before)) ≡ (true, serial_of (record new { tasks = after }))
batch_turn script before new taken waiting tasks now after entries all ends count sound taking got some e f g same h handed =
    let k = course_of before in
    let queue = taken.queue in
    let at = before.clock in
    let book = added script before.book queue entries at at in
    let joins = batch_joins script before taken waiting tasks now entries sound taking got some in
    let booked = is_booked script before queue entries book joins refl in
    let ends_are : ends ≡ book.ends = g ∙ ap (λ (r : Replay). r.book.ends) e in
    let all_are : all ≡ entries =
    f ∙ ap (λ (r : Replay). last_entries r.book.batches) e ∙ ap (λ (b : Chronicle). last_entries b.batches) booked.is ∙ last_pushed before.book.batches _ in
    let number : count + 1 ≡ length book.batches = ap (λ (n : ℕ). n + 1) same ∙ sym (booked_count script before queue entries book booked) in
    let after_is : after ≡ ended_all (length book.batches) entries book.ends now =
    h ∙ (λ i. ended_all (number i) (all_are i) (ends_are i) (ap (λ (r : Replay). r.tasks) e i)) in
    let nodes = (course_of new).nodes in
    let handed_so : handed_each script (last_stepped book) script.nodes k.nodes ≡ nodes =
    (λ i. handed_each script (last_stepped (ap (λ (r : Replay). r.book) (sym e) i)) script.nodes k.nodes) ∙ handed in
    let is : served script queue at at k ≡ record k { waiting = left_by queue k.waiting; book = book; tasks = ended_all (length book.batches) entries book.ends now; nodes = nodes } =
    (λ i. ran script queue at at (record k { waiting = left_by queue k.waiting; tasks = (got i).tasks }) (got i).entries)
    ∙ ran_some script queue at (record k { waiting = left_by queue k.waiting; tasks = now }) entries some
    ∙ (λ i. record k { waiting = left_by queue k.waiting; book = book; tasks = ended_all (length book.batches) entries book.ends now; nodes = handed_so i }) in
    master_acts script before taken waiting tasks taking
    ∙ (λ i. (true, at_clock at (is i)))
    ∙ (λ i. (true, at_clock at (record (course_of (record before { waiting = sym taking.left i; book = book; tasks = sym after_is i })) { nodes = nodes })))
    ∙ (λ i. (true, at_clock (sym e i).clock (record (course_of (record (sym e i) { tasks = after })) { nodes = nodes })))

pub batch_linked : (script : Script) (before new : Replay) (taken : Taken) (waiting : WaitTable) (tasks now after : TaskTable) (entries : List Entry) (links used : List LinkMeaning)
    → IsTaking script before taken waiting tasks → IsLinked script (course_of before) links
    → new ≡ record before { waiting = waiting; tasks = now; book = added script before.book taken.queue entries before.clock before.clock; nodes = new.nodes }
    → AreLinksOf script.nodes new.book.world used → AreUsed links used → IsLinked script (course_of (record new { tasks = after })) used
batch_linked script before new taken waiting tasks now after entries links used taking linked e of are_used =
    linked_by_batch script (course_of before) (course_of (record new { tasks = after })) taken.queue links used taking.some linked
    (ap (λ (r : Replay). r.positions) e) (ap (λ (r : Replay). r.waiting.waiting) e ∙ ap (λ (w : WaitTable). w.waiting) taking.left) of are_used
