-- Every event leaves a course lawful so far, and so does every turn of the serial rule.
use Rattle.std.specs.Prelude.{◌≡◌, ℕ, ◌-◌, ◌^◌, ◌≤◌, ◌||◌, Bool, true, false, List, [], ◌∷◌, map, nat_lt, Option, Some, None, Result, Ok, Err, IfOk, OnOk, option_and_then, refl, if◌then◌else◌}
use Rattle.std.specs.Option.{option_map}
use Rattle.std.proofs.Common.{Global, Vec, sym, ◌∙◌, ap, subst, arith}
use Rattle.std.specs.Cmp.{unsigned_Decides}
use Rattle.std.specs.List.{list_any}
use Rattle.node_apply.specs.Applying.{Node}
use Rattle.plain_data.specs.declared.memory.OutOfMemory.{OutOfMemory}
use Rattle.scripts.specs.declared.queues.Priority.{Priority}
use Rattle.scripts.specs.declared.whole_script.Script.{Script}
use Rattle.scripts.specs.declared.steps.Goal.TheVariants as goal
use Rattle.scripts.specs.declared.steps.Step.{Step}
use Rattle.scripts.specs.declared.steps.Step.TheVariants.{Submit, Await, Watch, Next, Read, Sleep, Close}
use Rattle.scripts.specs.Scripts.{IsScript}
use Rattle.session_law.specs.DueTimes.{due}
use Rattle.session_law.specs.Histories.{step_at}
use Rattle.master_intake.specs.declared.entries.Waiting.{Waiting}
use Rattle.master_intake.specs.Waitings.{is_in, next_queue, priorities_of, rank_at, sooner, soonest}
use Rattle.master_run.specs.Appliers.{AreNodesOf, origin_of}
use Rattle.master_run.specs.Courses.{Course, next_at, word_of}
use Rattle.master_run.specs.Events.{Event, event}
use Rattle.master_run.specs.declared.replays.Replay.{Replay}
use Rattle.master_run.specs.Laws.{EventsKeepLawful, IsReadable}
use Rattle.master_run.specs.Replays.{IsSound, serial_of}
use Rattle.master_run.specs.Serials.{Serial, after_step, after_turn, at_clock, client_turn, master_turn, node_number, node_turn}
use Rattle.master_run.specs.Servings.{has_some_in, served}
use Rattle.master_run.specs.SoFar.{IsLawfulSoFar}
use Rattle.master_run.specs.Steps.{ack_end_in, ack_told, awaited_by, batch_told, next_step_of, performed, step_by}
use Rattle.master_run.proofs.AckKeeping.{lapse_keeps}
use Rattle.master_run.proofs.Keeping.{no_some, or_left, or_right, some_same}
use Rattle.master_run.proofs.Performing.{await_ack_keeps, await_keeps, sleep_keeps}
use Rattle.master_run.proofs.Recording.{apply_keeps}
use Rattle.master_run.proofs.Serving.{serve_keeps}
use Rattle.master_run.proofs.Submitting.{submit_keeps}
use Rattle.master_run.proofs.Timing.{expire_keeps, timed_keeps}

-- ---- an event

await_found : (script : Script) (k now : Course) (client earlier : ℕ) (found : Option ℕ) → IsLawfulSoFar script k → step_at script client (next_at k.positions client) ≡ Some (Await earlier goal.Task)
    → batch_told (word_of k.tasks client earlier) ≡ found → awaited_by k client found ≡ Some now → IsLawfulSoFar script now
await_found script k now client earlier None h e told f = absurd (no_some now f)
await_found script k now client earlier (Some batch) h e told f = subst (IsLawfulSoFar script) (some_same _ now f) (await_keeps script k client earlier batch h e told)

ack_found : (script : Script) (k now : Course) (client earlier : ℕ) (found : Option ℕ) → IsLawfulSoFar script k → step_at script client (next_at k.positions client) ≡ Some (Await earlier goal.Ack)
    → ack_told (ack_end_in script k client earlier) (word_of k.tasks client earlier) ≡ found → awaited_by k client found ≡ Some now → IsLawfulSoFar script now
ack_found script k now client earlier None h e told f = absurd (no_some now f)
ack_found script k now client earlier (Some batch) h e told f =
    subst (IsLawfulSoFar script) (some_same _ now f) (await_ack_keeps script k client earlier batch (ack_end_in script k client earlier) h e told)

step_keeps : (script : Script) (k now : Course) (client at : ℕ) (found : Option Step) → IsScript script → IsLawfulSoFar script k → step_at script client (next_at k.positions client) ≡ found
    → step_by script k client at found ≡ Some now → IsLawfulSoFar script now
step_keeps script k now client at None valid h e f = absurd (no_some now f)
step_keeps script k now client at (Some (Submit queue task timeout ack)) valid h e f =
    subst (IsLawfulSoFar script) (some_same _ now f) (submit_keeps script k client at queue task timeout ack valid h e)
step_keeps script k now client at (Some (Await earlier goal.Task)) valid h e f =
    await_found script k now client earlier (batch_told (word_of k.tasks client earlier)) h e refl f
step_keeps script k now client at (Some (Await earlier goal.Ack)) valid h e f =
    ack_found script k now client earlier (ack_told (ack_end_in script k client earlier) (word_of k.tasks client earlier)) h e refl f
step_keeps script k now client at (Some (Await earlier goal.Watch)) valid h e f = absurd (no_some now f)
step_keeps script k now client at (Some (Watch _ _ _ _)) valid h e f = absurd (no_some now f)
step_keeps script k now client at (Some (Next _ _ _ _)) valid h e f = absurd (no_some now f)
step_keeps script k now client at (Some (Read _ _)) valid h e f = absurd (no_some now f)
step_keeps script k now client at (Some (Sleep ms)) valid h e f = subst (IsLawfulSoFar script) (some_same _ now f) (sleep_keeps script k client ms h e)
step_keeps script k now client at (Some Close) valid h e f = absurd (no_some now f)

serve_found : (script : Script) (k now : Course) (queue at commit : ℕ) (b : Bool) → has_some_in queue k.waiting ≡ b → IsScript script → IsLawfulSoFar script k
    → (if b then Some (served script queue at commit k) else None) ≡ Some now → IsLawfulSoFar script now
serve_found script k now queue at commit true some valid h f = subst (IsLawfulSoFar script) (some_same _ now f) (serve_keeps script k queue at commit valid h some)
serve_found script k now queue at commit false some valid h f = absurd (no_some now f)

pub event_keeps : (script : Script) (k now : Course) (e : Event) → IsScript script → IsLawfulSoFar script k → IsReadable e → event script e k ≡ Some now → IsLawfulSoFar script now
event_keeps script k now (Event.Perform client at) valid h may f = step_keeps script k now client at (next_step_of script k client) valid h refl f
event_keeps script k now (Event.Serve queue at commit) valid h may f = serve_found script k now queue at commit (has_some_in queue k.waiting) refl valid h f
event_keeps script k now (Event.Apply node) valid h may f = apply_keeps script k now node h f
event_keeps script k now (Event.Expire id reading) valid h may f = subst (IsLawfulSoFar script) (some_same _ now f) (expire_keeps script k id reading valid h may)
event_keeps script k now (Event.ExpireAcks reading) valid h may f = subst (IsLawfulSoFar script) (some_same _ now f) (lapse_keeps script k reading h)

pub events_keep_lawful : EventsKeepLawful
events_keep_lawful script k now e valid h may f = event_keeps script k now e valid h may f

-- ---- which queue is next

between : (a b c : Bool) → (a || c) ≡ true → (a || (b || c)) ≡ true
between true b c h = refl
between false b c h = or_right b c h

chosen_in : (p : Waiting → Bool) (first next : Waiting) (more : List Waiting) (b : Bool) → list_any p ((if b then next else first) ∷ more) ≡ true → list_any p (first ∷ next ∷ more) ≡ true
chosen_in p first next more true h = or_right (p first) (list_any p (next ∷ more)) h
chosen_in p first next more false h = between (p first) (p next) (list_any p more) h

soonest_in : (p : Waiting → Bool) (priorities : List Priority) (first : Waiting) (more : List Waiting) → p (soonest priorities first more) ≡ true → list_any p (first ∷ more) ≡ true
soonest_in p priorities first [] h = or_left (p first) false h
soonest_in p priorities first (next ∷ more) h =
    chosen_in p first next more (nat_lt (rank_at priorities next.queue) (rank_at priorities first.queue)) (soonest_in p priorities (sooner priorities first next) more h)

-- something waits in the queue that is next
pub next_waits : (priorities : List Priority) (waiting : List Waiting) (queue : ℕ) → next_queue priorities waiting ≡ Some queue → has_some_in queue waiting ≡ true
next_waits priorities [] queue e = absurd (no_some queue e)
next_waits priorities (first ∷ more) queue e =
    soonest_in (is_in queue) priorities first more ((unsigned_Decides (soonest priorities first more).queue queue).1 (some_same (soonest priorities first more).queue queue e))

-- ---- a turn

-- a course that is lawful so far, at a moment of the clock
pub record IsOnTime (script : Script) (s : Serial) : Type 0 where
  pub lawful : IsLawfulSoFar script s.course
  pub clock : s.clock ≤ 2 ^ 43 - 2

pub record IsMapped {A B : Type 0} (f : A → B) (o : Option A) (b : B) : Type 0 where
  pub from : A
  pub found : o ≡ Some from
  pub is : f from ≡ b

pub mapped : {A B : Type 0} (f : A → B) (o : Option A) (b : B) → option_map f o ≡ Some b → IsMapped f o b
mapped f None b e = absurd (no_some b e)
mapped f (Some a) b e = record { from = a; found = refl; is = some_same (f a) b e }

on_step : (script : Script) (s : Serial) (step : Option Step) → IsScript script → IsOnTime script s → IsOnTime script (after_step script step s)
on_step script s None valid h = h
on_step script s (Some (Submit _ _ _ _)) valid h = h
on_step script s (Some (Await _ _)) valid h = h
on_step script s (Some (Watch _ _ _ _)) valid h = h
on_step script s (Some (Next _ _ _ _)) valid h = h
on_step script s (Some (Read _ _)) valid h = h
on_step script s (Some (Sleep ms)) valid h =
    let most : due s.clock ms ≤ 2 ^ 43 - 2 = omega arith in
    record { lawful = timed_keeps script s.course (due s.clock ms) valid h.lawful (omega arith); clock = most }
on_step script s (Some Close) valid h = h

pub client_keeps : (script : Script) (client : ℕ) (s t : Serial) → IsScript script → IsOnTime script s → client_turn script client s ≡ Some t → IsOnTime script t
client_keeps script client s t valid h e =
    let m = mapped (λ k. after_step script (next_step_of script s.course client) (at_clock s.clock k)) (performed script client s.clock s.course) t e in
    subst (IsOnTime script) m.is (on_step script (at_clock s.clock m.from) (next_step_of script s.course client) valid
    (record { lawful = event_keeps script s.course m.from (Event.Perform client s.clock) valid h.lawful tt m.found; clock = h.clock }))

-- an event of a number, where there is one
chosen_keeps : (script : Script) (chosen : ℕ → Event) (s t : Serial) (number : Option ℕ) → ((n : ℕ) → IsReadable (chosen n)) → IsScript script → IsOnTime script s
    → option_and_then (λ n. option_map (at_clock s.clock) (event script (chosen n) s.course)) number ≡ Some t → IsOnTime script t
chosen_keeps script chosen s t None may valid h e = absurd (no_some t e)
chosen_keeps script chosen s t (Some number) may valid h e =
    let m = mapped (at_clock s.clock) (event script (chosen number) s.course) t e in
    subst (IsOnTime script) m.is (record { lawful = event_keeps script s.course m.from (chosen number) valid h.lawful (may number) m.found; clock = h.clock })

pub master_keeps : (script : Script) (s t : Serial) → IsScript script → IsOnTime script s → master_turn script s ≡ Some t → IsOnTime script t
master_keeps script s t valid h e =
    chosen_keeps script (λ queue. Event.Serve queue s.clock s.clock) s t (next_queue (priorities_of script.queues) s.course.waiting) (λ n. tt) valid h e

pub node_keeps : (script : Script) (name : List ℕ) (s t : Serial) → IsScript script → IsOnTime script s → node_turn script name s ≡ Some t → IsOnTime script t
node_keeps script name s t valid h e = chosen_keeps script (λ number. Event.Apply number) s t (node_number script name) (λ n. tt) valid h e

-- where a turn has acted or not
pub after_cases : (P : Serial → Type 0) (s t : Serial) (o : Option Serial) (acted : Bool) → P s → ((u : Serial) → o ≡ Some u → P u) → after_turn (false, s) o ≡ (acted, t) → P t
after_cases P s t None acted h f e = subst P (ap (λ (p : Bool × Serial). p.1) e) h
after_cases P s t (Some u) acted h f e = subst P (ap (λ (p : Bool × Serial). p.1) e) (f u refl)

pub client_on_time : (script : Script) (client : ℕ) (s t : Serial) (acted : Bool) → IsScript script → IsOnTime script s → after_turn (false, s) (client_turn script client s) ≡ (acted, t)
    → IsOnTime script t
client_on_time script client s t acted valid h e =
    after_cases (IsOnTime script) s t (client_turn script client s) acted h (λ u f. client_keeps script client s u valid h f) e

pub master_on_time : (script : Script) (s t : Serial) (acted : Bool) → IsScript script → IsOnTime script s → after_turn (false, s) (master_turn script s) ≡ (acted, t) → IsOnTime script t
master_on_time script s t acted valid h e = after_cases (IsOnTime script) s t (master_turn script s) acted h (λ u f. master_keeps script s u valid h f) e

pub node_on_time : (script : Script) (name : List ℕ) (s t : Serial) (acted : Bool) → IsScript script → IsOnTime script s → after_turn (false, s) (node_turn script name s) ≡ (acted, t) → IsOnTime script t
node_on_time script name s t acted valid h e = after_cases (IsOnTime script) s t (node_turn script name s) acted h (λ u f. node_keeps script name s u valid h f) e

-- ---- a replay

pub sound_now : (script : Script) (replay : Replay) (s : Serial) → serial_of replay ≡ s → IsOnTime script s → replay.waiting.priorities ≡ priorities_of script.queues
    → AreNodesOf script replay.nodes.items → IsSound script replay
sound_now script replay s e h priorities nodes =
    let time = subst (IsOnTime script) (sym e) h in
    record { lawful = time.lawful; priorities = priorities; nodes = nodes; clock = time.clock }

pub on_time : (script : Script) (replay : Replay) → IsSound script replay → IsOnTime script (serial_of replay)
on_time script replay sound = record { lawful = sound.lawful; clock = sound.clock }

pub sound_by_client : (script : Script) (client : ℕ) (before now : Replay) (acted : Bool) → IsScript script → IsSound script before
    → after_turn (false, serial_of before) (client_turn script client (serial_of before)) ≡ (acted, serial_of now) → now.waiting.priorities ≡ before.waiting.priorities → now.nodes ≡ before.nodes
    → IsSound script now
sound_by_client script client before now acted valid sound e same stay =
    sound_now script now (serial_of now) refl (client_on_time script client (serial_of before) (serial_of now) acted valid (on_time script before sound) e) (same ∙ sound.priorities)
    (ap (λ (v : Vec Node Global). map origin_of v.items) stay ∙ sound.nodes)

pub client_sound_if : (result : Result Bool OutOfMemory) (script : Script) (client : ℕ) (before now : Replay) → IsScript script → IsSound script before
    → IfOk result (λ acted. after_turn (false, serial_of before) (client_turn script client (serial_of before)) ≡ (acted, serial_of now)) → OnOk result (now.waiting.priorities ≡ before.waiting.priorities)
    → OnOk result (now.nodes ≡ before.nodes) → OnOk result (IsSound script now)
client_sound_if (Ok acted) script client before now valid sound e same stay = sound_by_client script client before now acted valid sound e same stay
client_sound_if (Err fault) script client before now valid sound e same stay = tt
