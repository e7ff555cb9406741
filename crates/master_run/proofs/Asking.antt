-- What the code of a turn asks holds at a lawful beginning of a session.
use Rattle.std.specs.Prelude.{◌≡◌, ℕ, Bool, ◌+◌, ◌*◌, ◌<◌, ◌≤◌, true, false, List, [], ◌∷◌, cond, length, map, Option, Some, None, slice_get, refl}
use Rattle.std.specs.List.{AllByRecursion, list_all, sum, sum_by}
use Rattle.std.proofs.lemmas.Bool.{leb-true}
use Rattle.std.proofs.Common.{sym, ◌∙◌, ap, subst, arith}
use Rattle.std.proofs.Math.Bool.{true≢false}
use Rattle.std.proofs.lemmas.List.{length-map}
use Rattle.std.proofs.lemmas.List.Sums.{sum-map, sum_by-cons}
use Rattle.std.proofs.lemmas.Option.{slice_get_within}
use Rattle.executors.specs.declared.tasks.Task.{Task}
use Rattle.scripts.specs.declared.queues.Priority.{Priority}
use Rattle.scripts.specs.declared.queues.QueueSpec.{QueueSpec}
use Rattle.scripts.specs.declared.whole_script.Script.{Script}
use Rattle.scripts.specs.declared.steps.Ack.{Ack}
use Rattle.scripts.specs.declared.steps.Goal.TheVariants as goal
use Rattle.scripts.specs.declared.steps.Step.{Step}
use Rattle.scripts.specs.declared.steps.Step.TheVariants.{Submit, Await, Sleep}
use Rattle.scripts.specs.Scripts.{IsScript}
use Rattle.scripts.specs.ValidSteps.{is_client}
use Rattle.session_law.specs.DueTimes.{due}
use Rattle.session_law.specs.Histories.{AreApart, IsApart, IsOwn, step_at}
use Rattle.master_intake.specs.declared.entries.Waiting.{Waiting}
use Rattle.master_intake.specs.Waitings.{is_in, taken_from}
use Rattle.master_run.specs.declared.replays.Replay.{Replay}
use Rattle.master_run.specs.AckBooks.{is_in_lane}
use Rattle.master_run.specs.Courses.{lanes_of, next_at, word_of}
use Rattle.master_run.specs.Replays.{CanAwait, CanSleep, CanStep, CanSubmit, IsSound, course_of}
use Rattle.master_run.specs.Sessions.{HasLane, HaveLanes}
use Rattle.master_run.specs.SoFar.{AreApartAmong, IsWaiting, is_submit_at, is_vacant, queued_at}
use Rattle.master_run.proofs.AckLanes.{in_lane}
use Rattle.master_run.proofs.Bounds.{own_few, steps_few}
use Rattle.master_run.proofs.Expiring.{can_expire_all}
use Rattle.master_run.proofs.Joining.{waiting_own}
use Rattle.master_run.proofs.Keeping.{both_first, both_second}
use Rattle.master_run.proofs.Positions.{client_within, position_few, row_of_client}
use Rattle.master_run.proofs.Naming.{asks_submit, awaits_asking}
use Rattle.master_run.proofs.Resting.{passed_before, submitted_before}
use Rattle.master_run.proofs.Submitting.{is_submitted}
use Rattle.master_run.proofs.Wordwise.{within_from}

-- ---- few tasks wait

apart_each : (queues : List QueueSpec) (w : Waiting) (all : List Waiting) → AllByRecursion (λ v. IsApart (queued_at queues w) (queued_at queues v)) all
    → AllByRecursion (IsApart (queued_at queues w)) (map (queued_at queues) all)
apart_each queues w [] h = tt
apart_each queues w (v ∷ all) h = (h.0, apart_each queues w all h.1)

apart_all : (queues : List QueueSpec) (all : List Waiting) → AreApartAmong queues all → AreApart (map (queued_at queues) all)
apart_all queues [] h = tt
apart_all queues (w ∷ all) h = (apart_each queues w all h.0, apart_all queues all h.1)

own_all : (script : Script) (positions : List ℕ) (all : List Waiting) → AllByRecursion (IsWaiting script positions) all → AllByRecursion (IsOwn script) (map (queued_at script.queues) all)
own_all script positions [] h = tt
own_all script positions (w ∷ all) h = (waiting_own script positions w h.0, own_all script positions all h.1)

waiting_few : (script : Script) (replay : Replay) → IsScript script → IsSound script replay → length replay.waiting.waiting ≤ 131072
waiting_few script replay valid sound =
    let all = replay.waiting.waiting in
    let ordered = sound.lawful.ordered in
    subst (λ (n : ℕ). n ≤ 131072) (length-map all (queued_at script.queues))
    (own_few script (map (queued_at script.queues) all) valid (own_all script replay.positions all ordered.waits) (apart_all script.queues all ordered.among))

shorter_by : (b : Bool) (w : Waiting) (few all : List Waiting) → length few ≤ length all → length (cond b (w ∷ few) few) ≤ length all + 1
shorter_by true w few all h = omega arith
shorter_by false w few all h = omega arith

taken_few : (queue : ℕ) (all : List Waiting) → length (taken_from queue all) ≤ length all
taken_few queue [] = omega arith
taken_few queue (w ∷ all) = let rest = shorter_by (is_in queue w) w (taken_from queue all) all (taken_few queue all) in omega arith

-- ---- a client

can_step : (script : Script) (replay : Replay) (client : ℕ) (step : Step) → IsScript script → IsSound script replay → step_at script client (next_at replay.positions client) ≡ Some step
    → CanStep replay client
can_step script replay client step valid sound e = record {
  there = client_within script replay.positions client (next_at replay.positions client) step sound.lawful.performed.places e;
  few = position_few script client (next_at replay.positions client) step valid e;
}

pub can_submit : (script : Script) (replay : Replay) (client queue : ℕ) (task : Task) (timeout : Option ℕ) (ack : Option Ack) → IsScript script → IsSound script replay
    → step_at script client (next_at replay.positions client) ≡ Some (Submit queue task timeout ack) → CanSubmit replay client queue
can_submit script replay client queue task timeout ack valid sound e =
    let is = is_submitted script (course_of replay) client queue task timeout ack valid sound.lawful e in
    let within = slice_get_within script.queues queue is.of is.of_queue in
    let told = sound.lawful.told in
    let queues = told.queues in
    let size = told.sizes queue in
    let few = waiting_few script replay valid sound in
    let some = taken_few queue replay.waiting.waiting in
    let priorities : length replay.waiting.priorities ≡ length script.queues = ap (λ (p : List Priority). length p) sound.priorities ∙ length-map script.queues (λ (q : QueueSpec). q.priority) in
    record {
      steps = can_step script replay client (Submit queue task timeout ack) valid sound e;
      lane = is.lane.client;
      vacant = is.vacant;
      known = omega arith;
      told = omega arith;
      room = omega arith;
      moment = is.row;
    }

await_by : (script : Script) (replay : Replay) (client earlier : ℕ) (step : Step) → IsScript script → IsSound script replay → step_at script client (next_at replay.positions client) ≡ Some step
    → is_vacant (word_of replay.tasks client earlier) ≡ false → CanAwait replay client earlier
await_by script replay client earlier step valid sound e there =
    let steps = can_step script replay client step valid sound e in
    let within = within_from replay.tasks client earlier there in
    let places = sound.lawful.performed.places in
    let same = sound.lawful.seen.places in
    let less = steps.there in
    record {
      steps = steps;
      place = omega arith;
      lane = within.client;
      within = within;
      submitted = λ none. true≢false (sym (ap is_vacant none) ∙ there);
    }

pub can_await : (script : Script) (replay : Replay) (client earlier : ℕ) → IsScript script → IsSound script replay
    → step_at script client (next_at replay.positions client) ≡ Some (Await earlier goal.Task) → CanAwait replay client earlier
can_await script replay client earlier valid sound e =
    await_by script replay client earlier (Await earlier goal.Task) valid sound e (passed_before script (course_of replay) client earlier valid sound.lawful e)

-- ---- a client's acknowledgement

pub can_await_ack : (script : Script) (replay : Replay) (client earlier : ℕ) → IsScript script → IsSound script replay
    → step_at script client (next_at replay.positions client) ≡ Some (Await earlier goal.Ack) → CanAwait replay client earlier
can_await_ack script replay client earlier valid sound e =
    let named = awaits_asking script client (next_at replay.positions client) earlier valid e in
    await_by script replay client earlier (Await earlier goal.Ack) valid sound e
    (submitted_before script (course_of replay) client earlier sound.lawful named.less (asks_submit (step_at script client earlier) named.asked named.asks))

in_lane_by : (script : Script) (lanes : List ℕ) (client step : ℕ) (found : Option Step) → step_at script client step ≡ found → is_submit_at found ≡ true → lanes ≡ lanes_of script → is_in_lane lanes client step ≡ true
in_lane_by script lanes client step None at e same = absurd (true≢false (sym e))
in_lane_by script lanes client step (Some s) at e same = subst (λ (l : List ℕ). is_in_lane l client step ≡ true) (sym same) (in_lane script client step s at)

-- the step that it names has a number
pub awaits_in_lane : (script : Script) (replay : Replay) (client earlier : ℕ) → IsScript script → replay.acks.lanes ≡ lanes_of script
    → step_at script client (next_at replay.positions client) ≡ Some (Await earlier goal.Ack) → is_in_lane replay.acks.lanes client earlier ≡ true
awaits_in_lane script replay client earlier valid same e =
    let named = awaits_asking script client (next_at replay.positions client) earlier valid e in
    in_lane_by script replay.acks.lanes client earlier (step_at script client earlier) refl (asks_submit (step_at script client earlier) named.asked named.asks) same

pub can_sleep : (script : Script) (replay : Replay) (client ms : ℕ) → IsScript script → IsSound script replay
    → step_at script client (next_at replay.positions client) ≡ Some (Sleep ms) → CanSleep replay client ms
can_sleep script replay client ms valid sound e = record {
  steps = can_step script replay client (Sleep ms) valid sound e;
  expire = can_expire_all (due replay.clock ms) replay.waiting.waiting replay.tasks sound.lawful.ended.waits;
}

-- ---- at first

lanes_few : (lanes : List (List Step)) → AllByRecursion (λ (steps : List Step). length steps ≤ 4096) lanes → sum_by (λ (steps : List Step). length steps) lanes ≤ length lanes * 4096
lanes_few [] h = omega arith
lanes_few (steps ∷ more) h =
    let rest = lanes_few more h.1 in
    let one = h.0 in
    let both = sum_by-cons (λ (steps : List Step). length steps) steps more in
    omega arith

steps_each : (script : Script) (clients : List (List Step)) → list_all (is_client script.nodes script.queues) clients ≡ true → AllByRecursion (λ (steps : List Step). length steps ≤ 4096) clients
steps_each script [] h = tt
steps_each script (steps ∷ more) h = (leb-true (length steps) 4096 (both_first _ _ (both_first _ _ h)), steps_each script more (both_second _ _ h))

pub lanes_sum : (script : Script) (lanes : List ℕ) → IsScript script → lanes ≡ lanes_of script → sum lanes < 262144
lanes_sum script lanes valid e =
    let few = lanes_few script.clients (steps_each script script.clients valid.clients) in
    let all = sum-map (λ (steps : List Step). length steps) script.clients in
    let clients = valid.clients_limit in
    subst (λ (all : List ℕ). sum all < 262144) (sym e) (omega arith)

-- ---- at the end

has_lane : (script : Script) (replay : Replay) (client : ℕ) (steps : List Step) → IsScript script → IsSound script replay → slice_get script.clients client ≡ Some steps
    → HasLane replay.tasks replay.ats client steps
has_lane script replay client steps valid sound e =
    let words = row_of_client replay.tasks.words script.clients client steps sound.lawful.performed.lanes e in
    let moments = row_of_client replay.ats script.clients client steps sound.lawful.performed.rows e in
    record {
      cells = λ step less. record {
        word = record { client = words.there; step = let long = words.long in omega arith };
        moment = record { row = moments.there; cell = let long = moments.long in omega arith };
      };
      few = steps_few script client steps valid e;
    }

pub have_lanes : (script : Script) (replay : Replay) → IsScript script → IsSound script replay → HaveLanes script replay.tasks replay.ats
have_lanes script replay valid sound = record { lanes = λ client steps e. has_lane script replay client steps valid sound e; few = valid.clients_limit }
