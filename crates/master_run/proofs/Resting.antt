-- The rounds come to rest: every turn that acts leaves less to do. Where no turn of a round acts, nothing waits, every
-- client is at its end, and no node has anything left to apply.
use Rattle.std.specs.Prelude.{◌≡◌, ℕ, zero, suc, ◌+◌, ◌<◌, ◌≤◌, ◌*◌, ◌⊎◌, Bool, true, false, ◌&&◌, List, [], ◌∷◌, ◌++◌, drop, length, set, nat_lt, Option, Some, None, option_and_then, unwrap_or, slice_get, refl, if◌then◌else◌}
use Rattle.std.specs.Option.{option_map}
use Rattle.std.proofs.Common.{sym, ◌∙◌, ap, subst, arith, inl, inr}
use Rattle.std.proofs.Math.Bool.{true≢false}
use Rattle.std.proofs.lemmas.Bool.Decides.{nat_tests}
use Rattle.std.proofs.lemmas.List.{length-append}
use Rattle.std.specs.List.{AllByRecursion, list_any}
use Rattle.executors.specs.declared.tasks.Task.{Task}
use Rattle.scripts.specs.declared.whole_script.Script.{Script}
use Rattle.scripts.specs.declared.whole_script.ScriptNode.{ScriptNode}
use Rattle.scripts.specs.declared.whole_script.ScriptTurn.{ScriptTurn}
use Rattle.scripts.specs.declared.whole_script.ScriptTurn.TheVariants as turn
use Rattle.scripts.specs.declared.steps.Ack.{Ack}
use Rattle.scripts.specs.declared.steps.Goal.TheVariants as goal
use Rattle.scripts.specs.declared.steps.Step.{Step}
use Rattle.scripts.specs.declared.steps.Step.TheVariants.{Submit, Await, Watch, Next, Read, Sleep, Close}
use Rattle.scripts.specs.Built.{IsBuilt}
use Rattle.scripts.specs.Scripts.{IsScript}
use Rattle.session_law.specs.declared.batches.Entry.{Entry}
use Rattle.session_law.specs.Endings.{task_timeout_of}
use Rattle.session_law.specs.Histories.{SteppedBatch, step_at}
use Rattle.session_law.specs.NodeRecords.{Commit, commit_to, is_handed}
use Rattle.task_words.specs.declared.words.Word.{Word}
use Rattle.task_words.specs.declared.words.Word.TheVariants as word
use Rattle.master_intake.specs.declared.entries.Waiting.{Waiting}
use Rattle.master_intake.specs.Waitings.{left_by, next_queue, priorities_of}
use Rattle.master_run.specs.Books.{added, last_stepped}
use Rattle.master_run.specs.Courses.{Course, moment_at, next_at, word_of}
use Rattle.master_run.specs.Events.{Event, event}
use Rattle.master_run.specs.Nodes.{NodeCourse, applied_node, first_applied, handed_each, handed_of, left_in, node_taking}
use Rattle.master_run.specs.Rests.{IsAtRest}
use Rattle.master_run.specs.Serials.{Serial, after_step, after_turn, at_clock, client_turn, client_turns, go_on, if_acted, load, master_turn, node_number, node_turn, node_turns, play, rest, round_turns, turn_of, turned}
use Rattle.master_run.specs.Servings.{got_from, has_some_in, ran, served}
use Rattle.master_run.specs.SoFar.{IsLawfulSoFar, IsRecordedAt, IsWordLawful, is_entry_of, is_over, is_passed, is_submit_at, is_vacant}
use Rattle.master_run.specs.Steps.{ack_end_in, ack_told, awaited_by, batch_told, moved_on, next_step_of, performed, step_by, submitted_by, waiting_of}
use Rattle.master_run.specs.StepsLeft.{always, steps_left}
use Rattle.master_run.proofs.AckOver.{ack_acts}
use Rattle.master_run.proofs.Bounds.{stood}
use Rattle.master_run.proofs.Distinct.{node_turn_at}
use Rattle.master_run.proofs.Keeping.{no_some, not_true, some_same}
use Rattle.master_run.proofs.Linking.{fewer_wait}
use Rattle.master_run.proofs.Naming.{asks_submit, awaits_asking, awaits_submit}
use Rattle.master_run.proofs.Places.{all_at, all_mapped, all_placed}
use Rattle.master_run.proofs.Recording.{is_applied}
use Rattle.master_run.proofs.StepsLeft.{kind_falls}
use Rattle.master_run.proofs.Taken.{built_at}
use Rattle.master_run.proofs.Turning.{IsOnTime, client_keeps, mapped, master_keeps, next_waits, node_keeps}

-- ---- what counts for more than what it leaves

times_less : (n a b : ℕ) → a < b → n * a + n ≤ n * b
times_less zero a b less = omega arith
times_less (suc n) a b less = let rest = times_less n a b less in omega arith

times_more : (n a b : ℕ) → a ≤ b + 1 → n * a ≤ n * b + n
times_more zero a b most = omega arith
times_more (suc n) a b most = let rest = times_more n a b most in omega arith

stepped_less : (n steps fewer waiting more left : ℕ) → fewer < steps → more ≤ waiting + 1 → (n + 2) * fewer + (n + 1) * more + left < (n + 2) * steps + (n + 1) * waiting + left
stepped_less n steps fewer waiting more left p q = let a = times_less (n + 2) fewer steps p in let b = times_more (n + 1) more waiting q in omega arith

served_less : (n steps waiting fewer left more : ℕ) → fewer < waiting → more ≤ left + n → (n + 2) * steps + (n + 1) * fewer + more < (n + 2) * steps + (n + 1) * waiting + left
served_less n steps waiting fewer left more p q = let a = times_less (n + 1) fewer waiting p in omega arith

applied_less : (steps waiting left fewer : ℕ) → fewer < left → steps + waiting + fewer < steps + waiting + left
applied_less steps waiting left fewer p = omega arith

-- ---- a step that is performed leaves less

submit_falls : (script : Script) (k : Course) (client at queue : ℕ) (task : Task) (timeout : Option ℕ) (ack : Option Ack) → IsLawfulSoFar script k
    → step_at script client (next_at k.positions client) ≡ Some (Submit queue task timeout ack) → load script (submitted_by k client at queue task timeout) < load script k
submit_falls script k client at queue task timeout ack h e =
    let step = stood script client (next_at k.positions client) (Submit queue task timeout ack) e in
    let w = waiting_of client (next_at k.positions client) queue task in
    let fewer = kind_falls always script.clients k.positions client step.steps (Submit queue task timeout ack) h.performed.places step.of_client step.of_steps refl in
    let longer = length-append k.waiting (w ∷ []) in
    stepped_less (length script.nodes) (steps_left always script.clients k.positions) (steps_left always script.clients (moved_on k.positions client)) (length k.waiting) (length (k.waiting ++ w ∷ []))
    (left_in k.nodes) (omega arith) (omega arith)

-- a step that moves its client on, and leaves what waits and the nodes
moved_falls : (script : Script) (k now : Course) (client : ℕ) (step : Step) → IsLawfulSoFar script k → step_at script client (next_at k.positions client) ≡ Some step
    → moved_on k.positions client ≡ now.positions → k.waiting ≡ now.waiting → k.nodes ≡ now.nodes → load script now < load script k
moved_falls script k now client step h e positions waiting nodes =
    let at = stood script client (next_at k.positions client) step e in
    let fewer = kind_falls always script.clients k.positions client at.steps step h.performed.places at.of_client at.of_steps refl in
    subst (λ (n : ℕ). n < load script k)
    (λ i. (length script.nodes + 2) * steps_left always script.clients (positions i) + (length script.nodes + 1) * length (waiting i) + left_in (nodes i))
    (stepped_less (length script.nodes) (steps_left always script.clients k.positions) (steps_left always script.clients (moved_on k.positions client)) (length k.waiting) (length k.waiting)
    (left_in k.nodes) (omega arith) (omega arith))

await_falls : (script : Script) (k now : Course) (client : ℕ) (step : Step) (found : Option ℕ) → IsLawfulSoFar script k → step_at script client (next_at k.positions client) ≡ Some step
    → awaited_by k client found ≡ Some now → load script now < load script k
await_falls script k now client step None h e f = absurd (no_some now f)
await_falls script k now client step (Some batch) h e f =
    let same = some_same _ now f in
    moved_falls script k now client step h e (ap (λ (c : Course). c.positions) same) (ap (λ (c : Course). c.waiting) same) (ap (λ (c : Course). c.nodes) same)

step_falls : (script : Script) (k now : Course) (client at : ℕ) (found : Option Step) → IsLawfulSoFar script k → step_at script client (next_at k.positions client) ≡ found
    → step_by script k client at found ≡ Some now → load script now < load script k
step_falls script k now client at None h e f = absurd (no_some now f)
step_falls script k now client at (Some (Submit queue task timeout ack)) h e f =
    subst (λ (c : Course). load script c < load script k) (some_same _ now f) (submit_falls script k client at queue task timeout ack h e)
step_falls script k now client at (Some (Await earlier goal.Task)) h e f =
    await_falls script k now client (Await earlier goal.Task) (batch_told (word_of k.tasks client earlier)) h e f
step_falls script k now client at (Some (Await earlier goal.Ack)) h e f =
    await_falls script k now client (Await earlier goal.Ack) (ack_told (ack_end_in script k client earlier) (word_of k.tasks client earlier)) h e f
step_falls script k now client at (Some (Await earlier goal.Watch)) h e f = absurd (no_some now f)
step_falls script k now client at (Some (Watch _ _ _ _)) h e f = absurd (no_some now f)
step_falls script k now client at (Some (Next _ _ _ _)) h e f = absurd (no_some now f)
step_falls script k now client at (Some (Read _ _)) h e f = absurd (no_some now f)
step_falls script k now client at (Some (Sleep ms)) h e f =
    let same = some_same _ now f in
    moved_falls script k now client (Sleep ms) h e (ap (λ (c : Course). c.positions) same) (ap (λ (c : Course). c.waiting) same) (ap (λ (c : Course). c.nodes) same)
step_falls script k now client at (Some Close) h e f = absurd (no_some now f)

after_load : (script : Script) (s : Serial) (step : Option Step) → load script (after_step script step s).course ≡ load script s.course
after_load script s None = refl
after_load script s (Some (Submit _ _ _ _)) = refl
after_load script s (Some (Await _ _)) = refl
after_load script s (Some (Watch _ _ _ _)) = refl
after_load script s (Some (Next _ _ _ _)) = refl
after_load script s (Some (Read _ _)) = refl
after_load script s (Some (Sleep ms)) = refl
after_load script s (Some Close) = refl

client_falls : (script : Script) (client : ℕ) (s t : Serial) → IsLawfulSoFar script s.course → client_turn script client s ≡ Some t → load script t.course < load script s.course
client_falls script client s t h e =
    let step = next_step_of script s.course client in
    let m = mapped (λ k. after_step script step (at_clock s.clock k)) (performed script client s.clock s.course) t e in
    subst (λ (u : Serial). load script u.course < load script s.course) m.is
    (subst (λ (n : ℕ). n < load script s.course) (sym (after_load script (at_clock s.clock m.from) step)) (step_falls script s.course m.from client s.clock step h refl m.found))

-- ---- a queue that is served leaves less

-- a batch hands each node one commit at most
one_handed : (has : List Commit) (commit : Commit) (b : Bool) → length (has ++ (if b then commit ∷ [] else [])) ≤ length has + 1
one_handed has commit true = let longer = length-append has (commit ∷ []) in omega arith
one_handed has commit false = let same = length-append has [] in omega arith

none_handed : (has : List Commit) → length (has ++ []) ≤ length has + 1
none_handed has = let same = length-append has [] in omega arith

handed_most : (script : Script) (name : List ℕ) (s : Option SteppedBatch) (has : List Commit) → length (has ++ handed_of script name s) ≤ length has + 1
handed_most script name None has = none_handed has
handed_most script name (Some s) has = one_handed has (commit_to script name s) (is_handed script name s)

pub left_most : (script : Script) (s : Option SteppedBatch) (nodes : List ScriptNode) (have : List NodeCourse) → left_in (handed_each script s nodes have) ≤ left_in have + length nodes
left_most script s [] have = omega arith
left_most script s (node ∷ more) [] = omega arith
left_most script s (node ∷ more) (has ∷ others) =
    let one = handed_most script node.name s has.left in
    let rest = left_most script s more others in
    omega arith

ran_less : (script : Script) (queue at commit : ℕ) (k : Course) (entries : List Entry) (waiting : ℕ) → length k.waiting < waiting
    → let n = length script.nodes in load script (ran script queue at commit k entries) < (n + 2) * steps_left always script.clients k.positions + (n + 1) * waiting + left_in k.nodes
ran_less script queue at commit k [] waiting less =
    served_less (length script.nodes) (steps_left always script.clients k.positions) waiting (length k.waiting) (left_in k.nodes) (left_in k.nodes) less (omega arith)
ran_less script queue at commit k (first ∷ more) waiting less =
    served_less (length script.nodes) (steps_left always script.clients k.positions) waiting (length k.waiting) (left_in k.nodes) _ less
    (left_most script (last_stepped (added script k.book queue (first ∷ more) at commit)) script.nodes k.nodes)

served_falls : (script : Script) (k now : Course) (queue at commit : ℕ) (b : Bool) → has_some_in queue k.waiting ≡ b → (if b then Some (served script queue at commit k) else None) ≡ Some now
    → load script now < load script k
served_falls script k now queue at commit true some e =
    subst (λ (c : Course). load script c < load script k) (some_same _ now e)
    (ran_less script queue at commit (record k { waiting = left_by queue k.waiting; tasks = (got_from queue k).tasks }) (got_from queue k).entries
    (length k.waiting) (let fewer = fewer_wait queue k.waiting some in omega arith))
served_falls script k now queue at commit false some e = absurd (no_some now e)

-- ---- an apply leaves less

left_set : (nodes : List NodeCourse) (number : ℕ) (has now : NodeCourse) → slice_get nodes number ≡ Some has → length now.left < length has.left → left_in (set nodes number now) < left_in nodes
left_set [] number has now e less = absurd (no_some has e)
left_set (first ∷ nodes) zero has now e less = let same = ap (λ (n : NodeCourse). length n.left) (some_same first has e) in omega arith
left_set (first ∷ nodes) (suc number) has now e less = let rest = left_set nodes number has now e less in omega arith

apply_falls : (script : Script) (k now : Course) (number : ℕ) → event script (Event.Apply number) k ≡ Some now → load script now < load script k
apply_falls script k now number e =
    let a = is_applied script k now number e in
    let longer = ap (λ (l : List Commit). length l) a.left in
    let after : NodeCourse = record (node_taking script a.node.name a.commit a.has) { left = a.more } in
    subst (λ (c : Course). load script c < load script k) a.is
    (applied_less ((length script.nodes + 2) * steps_left always script.clients k.positions) ((length script.nodes + 1) * length k.waiting) (left_in k.nodes) (left_in (set k.nodes number after))
    (left_set k.nodes number a.has after a.of_course (omega arith)))

-- ---- a turn leaves less

chosen_falls : (script : Script) (chosen : ℕ → Event) (s t : Serial) (number : Option ℕ) → ((n : ℕ) (now : Course) → event script (chosen n) s.course ≡ Some now → load script now < load script s.course)
    → option_and_then (λ n. option_map (at_clock s.clock) (event script (chosen n) s.course)) number ≡ Some t → load script t.course < load script s.course
chosen_falls script chosen s t None falls e = absurd (no_some t e)
chosen_falls script chosen s t (Some number) falls e =
    let m = mapped (at_clock s.clock) (event script (chosen number) s.course) t e in
    subst (λ (u : Serial). load script u.course < load script s.course) m.is (falls number m.from m.found)

turn_falls : (script : Script) (turn : ScriptTurn) (s t : Serial) → IsLawfulSoFar script s.course → turn_of script turn s ≡ Some t → load script t.course < load script s.course
turn_falls script (turn.Client client) s t h e = client_falls script client s t h e
turn_falls script turn.Master s t h e =
    chosen_falls script (λ queue. Event.Serve queue s.clock s.clock) s t (next_queue (priorities_of script.queues) s.course.waiting)
    (λ queue now f. served_falls script s.course now queue s.clock s.clock (has_some_in queue s.course.waiting) refl f) e
turn_falls script (turn.Node name) s t h e =
    chosen_falls script (λ number. Event.Apply number) s t (node_number script name) (λ number now f. apply_falls script s.course now number f) e

-- ---- turns in a row

-- turns left all as it was, or one has acted and less is left to do
abbrev Goes : Script → Bool × Serial → Bool × Serial → Type 0
Goes script before after = (after ≡ before) ⊎ ((after.0 ≡ true) × (load script after.1.course < load script before.1.course))

one_goes : (script : Script) (before : Bool × Serial) (o : Option Serial) → ((t : Serial) → o ≡ Some t → load script t.course < load script before.1.course) → Goes script before (after_turn before o)
one_goes script before None f = inl refl
one_goes script before (Some t) f = inr (refl, f t refl)

goes_on : (script : Script) (a b c : Bool × Serial) → (b.0 ≡ true → c.0 ≡ true) → Goes script a b → Goes script b c → Goes script a c
goes_on script a b c stays (inl e) (inl f) = inl (f ∙ e)
goes_on script a b c stays (inl e) (inr less) = inr (less.0, (let same = ap (λ (p : Bool × Serial). load script p.1.course) e in let l = less.1 in omega arith))
goes_on script a b c stays (inr less) (inl f) = inr (ap (λ (p : Bool × Serial). p.0) f ∙ less.0, (let same = ap (λ (p : Bool × Serial). load script p.1.course) f in let l = less.1 in omega arith))
goes_on script a b c stays (inr less) (inr more) = inr (more.0, (let l = less.1 in let m = more.1 in omega arith))

one_stays : (before : Bool × Serial) (o : Option Serial) → before.0 ≡ true → (after_turn before o).0 ≡ true
one_stays before None e = e
one_stays before (Some t) e = refl

play_stays : (script : Script) (turns : List ScriptTurn) (before : Bool × Serial) → before.0 ≡ true → (play script turns before).0 ≡ true
play_stays script [] before e = e
play_stays script (first ∷ more) before e = play_stays script more (turned script before first) (one_stays before (turn_of script first before.1) e)

after_on_time : (script : Script) (turn : ScriptTurn) (before : Bool × Serial) (o : Option Serial) → turn_of script turn before.1 ≡ o → IsScript script → IsOnTime script before.1
    → IsOnTime script (after_turn before o).1
after_on_time script turn before None e valid h = h
after_on_time script (turn.Client client) before (Some t) e valid h = client_keeps script client before.1 t valid h e
after_on_time script turn.Master before (Some t) e valid h = master_keeps script before.1 t valid h e
after_on_time script (turn.Node name) before (Some t) e valid h = node_keeps script name before.1 t valid h e

turned_on_time : (script : Script) (turn : ScriptTurn) (before : Bool × Serial) → IsScript script → IsOnTime script before.1 → IsOnTime script (turned script before turn).1
turned_on_time script turn before valid h = after_on_time script turn before (turn_of script turn before.1) refl valid h

pub play_on_time : (script : Script) (turns : List ScriptTurn) (before : Bool × Serial) → IsScript script → IsOnTime script before.1 → IsOnTime script (play script turns before).1
play_on_time script [] before valid h = h
play_on_time script (first ∷ more) before valid h = play_on_time script more (turned script before first) valid (turned_on_time script first before valid h)

play_goes : (script : Script) (turns : List ScriptTurn) (before : Bool × Serial) → IsScript script → IsOnTime script before.1 → Goes script before (play script turns before)
play_goes script [] before valid h = inl refl
play_goes script (first ∷ more) before valid h =
    let next = turned script before first in
    goes_on script before next (play script more next) (play_stays script more next)
    (one_goes script before (turn_of script first before.1) (λ t e. turn_falls script first before.1 t h.lawful e))
    (play_goes script more next valid (turned_on_time script first before valid h))

-- where none has acted, each can't
nothing_acts : (script : Script) (first : ScriptTurn) (more : List ScriptTurn) (s : Serial) (o : Option Serial) → turn_of script first s ≡ o → (play script more (after_turn (false, s) o)).0 ≡ false
    → ((play script more (false, s)).0 ≡ false → AllByRecursion (λ t. turn_of script t s ≡ None) more) → AllByRecursion (λ t. turn_of script t s ≡ None) (first ∷ more)
nothing_acts script first more s None e none rest = (e, rest none)
nothing_acts script first more s (Some t) e none rest = absurd (true≢false (sym (play_stays script more (true, t) refl) ∙ none))

pub none_act : (script : Script) (turns : List ScriptTurn) (s : Serial) → (play script turns (false, s)).0 ≡ false → AllByRecursion (λ t. turn_of script t s ≡ None) turns
none_act script [] s none = tt
none_act script (first ∷ more) s none = nothing_acts script first more s (turn_of script first s) refl none (none_act script more s)

-- ---- at rest

goes_still : (script : Script) (s : Serial) (after : Bool × Serial) → Goes script (false, s) after → after.0 ≡ false → after.1 ≡ s
goes_still script s after (inl e) none = ap (λ (p : Bool × Serial). p.1) e
goes_still script s after (inr less) none = absurd (true≢false (sym less.0 ∙ none))

goes_less : (script : Script) (s : Serial) (after : Bool × Serial) → Goes script (false, s) after → after.0 ≡ true → load script after.1.course < load script s.course
goes_less script s after (inl e) some = absurd (true≢false (sym some ∙ ap (λ (p : Bool × Serial). p.0) e))
goes_less script s after (inr less) some = less.1

pub round_still : (script : Script) (s t : Serial) → IsScript script → IsOnTime script s → play script (round_turns script) (false, s) ≡ (false, t) → t ≡ s
round_still script s t valid h e =
    sym (ap (λ (p : Bool × Serial). p.1) e) ∙ goes_still script s (play script (round_turns script) (false, s)) (play_goes script (round_turns script) (false, s) valid h) (ap (λ (p : Bool × Serial). p.0) e)

pub round_less : (script : Script) (s t : Serial) → IsScript script → IsOnTime script s → play script (round_turns script) (false, s) ≡ (true, t) → load script t.course < load script s.course
round_less script s t valid h e =
    subst (λ (u : Serial). load script u.course < load script s.course) (ap (λ (p : Bool × Serial). p.1) e)
    (goes_less script s (play script (round_turns script) (false, s)) (play_goes script (round_turns script) (false, s) valid h) (ap (λ (p : Bool × Serial). p.0) e))

all_first : {X : Type 0} (P : X → Type 0) (xs ys : List X) → AllByRecursion P (xs ++ ys) → AllByRecursion P xs
all_first P [] ys all = tt
all_first P (x ∷ xs) ys all = (all.0, all_first P xs ys all.1)

all_later : {X : Type 0} (P : X → Type 0) (xs ys : List X) → AllByRecursion P (xs ++ ys) → AllByRecursion P ys
all_later P [] ys all = all
all_later P (x ∷ xs) ys all = all_later P xs ys all.1

-- nothing waits where the master can't act
none_served : (script : Script) (s : Serial) (queue : ℕ) (b : Bool) → has_some_in queue s.course.waiting ≡ b → b ≡ true
    → option_map (at_clock s.clock) (if b then Some (served script queue s.clock s.clock s.course) else None) ≡ None → ⊥
none_served script s queue true some there e = no_some (at_clock s.clock (served script queue s.clock s.clock s.course)) (sym e)
none_served script s queue false some there e = true≢false (sym there)

none_next : (script : Script) (s : Serial) (waiting : List Waiting) (queue : Option ℕ) → s.course.waiting ≡ waiting → next_queue (priorities_of script.queues) waiting ≡ queue
    → option_and_then (λ q. option_map (at_clock s.clock) (event script (Event.Serve q s.clock s.clock) s.course)) queue ≡ None → waiting ≡ []
none_next script s [] queue same e none = refl
none_next script s (w ∷ more) None same e none = absurd (no_some _ (sym e))
none_next script s (w ∷ more) (Some queue) same e none =
    absurd (none_served script s queue (has_some_in queue s.course.waiting) refl
    (ap (has_some_in queue) same ∙ next_waits (priorities_of script.queues) (w ∷ more) queue e) none)

-- a task that was submitted is over where nothing waits
pub over_at_rest : (script : Script) (k : Course) (client step : ℕ) (w : Word) → word_of k.tasks client step ≡ w → IsLawfulSoFar script k → k.waiting ≡ [] → is_vacant w ≡ false → is_over w ≡ true
over_at_rest script k client step word.Vacant is h empty some = absurd (true≢false some)
over_at_rest script k client step (word.Queued seen deadline) is h empty some =
    let queued = subst (IsWordLawful script k.book.batches k.waiting client step (moment_at k.ats client step) (task_timeout_of (step_at script client step))) is (h.ended.words client step) in
    absurd (true≢false (sym queued.waits ∙ ap (λ (all : List Waiting). list_any (is_entry_of client step) all) empty))
over_at_rest script k client step (word.Taken seen batch) is h empty some =
    absurd (subst (IsWordLawful script k.book.batches k.waiting client step (moment_at k.ats client step) (task_timeout_of (step_at script client step))) is (h.ended.words client step))
over_at_rest script k client step (word.Ended code) is h empty some = refl
over_at_rest script k client step (word.Timed reading) is h empty some = refl

over_told : (w : Word) → is_over w ≡ true → (batch : ℕ) × (batch_told w ≡ Some batch)
over_told word.Vacant h = absurd (true≢false (sym h))
over_told (word.Queued seen deadline) h = absurd (true≢false (sym h))
over_told (word.Taken seen batch) h = absurd (true≢false (sym h))
over_told (word.Ended code) h = (code.batch, refl)
over_told (word.Timed reading) h = (0, refl)

lt_true : (n m : ℕ) → n < m → nat_lt n m ≡ true
lt_true n m less = grind (arith, nat_tests)

passed_true : (positions : List ℕ) (client step number : ℕ) → step < number → next_at positions client ≡ number → is_passed positions client step ≡ true
passed_true positions client step number less e = subst (λ (n : ℕ). nat_lt step n ≡ true) (sym e) (lt_true step number less)

-- a submit before the next step was performed
pub submitted_before : (script : Script) (k : Course) (client earlier : ℕ) → IsLawfulSoFar script k → earlier < next_at k.positions client → is_submit_at (step_at script client earlier) ≡ true
    → is_vacant (word_of k.tasks client earlier) ≡ false
submitted_before script k client earlier h less submit =
    let passed = passed_true k.positions client earlier (next_at k.positions client) less refl in
    not_true _ (h.performed.cells client earlier ∙ (λ i. passed i && submit i))

-- what a next step awaits was submitted
pub passed_before : (script : Script) (k : Course) (client earlier : ℕ) → IsScript script → IsLawfulSoFar script k
    → step_at script client (next_at k.positions client) ≡ Some (Await earlier goal.Task) → is_vacant (word_of k.tasks client earlier) ≡ false
passed_before script k client earlier valid h e =
    let named = awaits_submit script client (next_at k.positions client) earlier valid e in
    submitted_before script k client earlier h named.0 named.1

-- a client that can't act is at its end
await_acts : (script : Script) (s : Serial) (client earlier : ℕ) → IsScript script → IsLawfulSoFar script s.course → s.course.waiting ≡ []
    → step_at script client (next_at s.course.positions client) ≡ Some (Await earlier goal.Task) → (batch : ℕ) × (batch_told (word_of s.course.tasks client earlier) ≡ Some batch)
await_acts script s client earlier valid h empty e =
    let k = s.course in
    let there = passed_before script k client earlier valid h e in
    over_told (word_of k.tasks client earlier) (over_at_rest script k client earlier (word_of k.tasks client earlier) refl h empty there)

await_ack_acts : (script : Script) (s : Serial) (client earlier : ℕ) → IsScript script → IsLawfulSoFar script s.course → s.course.waiting ≡ []
    → AllByRecursion (λ (n : NodeCourse). n.left ≡ []) s.course.nodes → step_at script client (next_at s.course.positions client) ≡ Some (Await earlier goal.Ack)
    → (batch : ℕ) × (ack_told (ack_end_in script s.course client earlier) (word_of s.course.tasks client earlier) ≡ Some batch)
await_ack_acts script s client earlier valid h empty left e =
    let k = s.course in
    let named = awaits_asking script client (next_at k.positions client) earlier valid e in
    let there = submitted_before script k client earlier h named.less (asks_submit (step_at script client earlier) named.asked named.asks) in
    let w = word_of k.tasks client earlier in
    ack_acts script k client earlier (moment_at k.ats client earlier) (task_timeout_of (step_at script client earlier)) named.asked w h.lapsed left named.asks (h.ended.words client earlier)
    (over_at_rest script k client earlier w refl h empty there)

at_end : (script : Script) (s : Serial) (client : ℕ) (found : Option Step) → IsScript script → IsBuilt script → IsLawfulSoFar script s.course → s.course.waiting ≡ []
    → AllByRecursion (λ (n : NodeCourse). n.left ≡ []) s.course.nodes → next_step_of script s.course client ≡ found
    → option_map (λ k. after_step script found (at_clock s.clock k)) (step_by script s.course client s.clock found) ≡ None → found ≡ None
at_end script s client None valid built h empty left e none = refl
at_end script s client (Some (Submit queue task timeout ack)) valid built h empty left e none = absurd (no_some _ (sym none))
at_end script s client (Some (Await earlier goal.Task)) valid built h empty left e none =
    let told = await_acts script s client earlier valid h empty e in
    absurd (no_some _ (sym (ap (λ (b : Option ℕ). option_map (λ k. after_step script (Some (Await earlier goal.Task)) (at_clock s.clock k)) (awaited_by s.course client b)) (sym told.1) ∙ none)))
at_end script s client (Some (Await earlier goal.Ack)) valid built h empty left e none =
    let told = await_ack_acts script s client earlier valid h empty left e in
    absurd (no_some _ (sym (ap (λ (b : Option ℕ). option_map (λ k. after_step script (Some (Await earlier goal.Ack)) (at_clock s.clock k)) (awaited_by s.course client b)) (sym told.1) ∙ none)))
at_end script s client (Some (Await earlier goal.Watch)) valid built h empty left e none = absurd (true≢false (sym (built_at script client (next_at s.course.positions client) (Await earlier goal.Watch) built e)))
at_end script s client (Some (Watch a b c d)) valid built h empty left e none = absurd (true≢false (sym (built_at script client (next_at s.course.positions client) (Watch a b c d) built e)))
at_end script s client (Some (Next a b c d)) valid built h empty left e none = absurd (true≢false (sym (built_at script client (next_at s.course.positions client) (Next a b c d) built e)))
at_end script s client (Some (Read a b)) valid built h empty left e none = absurd (true≢false (sym (built_at script client (next_at s.course.positions client) (Read a b) built e)))
at_end script s client (Some (Sleep ms)) valid built h empty left e none = absurd (no_some _ (sym none))
at_end script s client (Some Close) valid built h empty left e none = absurd (true≢false (sym (built_at script client (next_at s.course.positions client) Close built e)))

-- of a client that there is, the turn is among those of a round
same_sum : (n : ℕ) → n ≡ n + 0
same_sum n = omega arith

next_sum : (n m : ℕ) → n + 1 + m ≡ n + suc m
next_sum n m = omega arith

zero_sum : (n : ℕ) → 0 + n ≡ n
zero_sum n = omega arith

turn_there : (P : ScriptTurn → Type 0) (first client : ℕ) (clients : List (List Step)) (steps : List Step) → slice_get clients client ≡ Some steps → AllByRecursion P (client_turns first clients) → P (turn.Client (first + client))
turn_there P first client [] steps e all = absurd (no_some steps e)
turn_there P first zero (one ∷ more) steps e all = subst (λ (n : ℕ). P (turn.Client n)) (same_sum first) all.0
turn_there P first (suc client) (one ∷ more) steps e all = subst (λ (n : ℕ). P (turn.Client n)) (next_sum first client) (turn_there P (first + 1) client more steps e all.1)

rests_by : (script : Script) (s : Serial) (client : ℕ) (found : Option (List Step)) → slice_get script.clients client ≡ found → IsScript script → IsBuilt script → IsLawfulSoFar script s.course
    → s.course.waiting ≡ [] → AllByRecursion (λ (n : NodeCourse). n.left ≡ []) s.course.nodes → AllByRecursion (λ t. turn_of script t s ≡ None) (client_turns 0 script.clients)
    → next_step_of script s.course client ≡ None
rests_by script s client None e valid built h empty left all = ap (option_and_then (λ steps. slice_get steps (next_at s.course.positions client))) e
rests_by script s client (Some steps) e valid built h empty left all =
    at_end script s client (next_step_of script s.course client) valid built h empty left refl
    (subst (λ (n : ℕ). turn_of script (turn.Client n) s ≡ None) (zero_sum client) (turn_there (λ t. turn_of script t s ≡ None) 0 client script.clients steps e all))

-- a node that can't act has nothing left
none_left : (script : Script) (s : Serial) (number : ℕ) (name : List ℕ) (has : NodeCourse) (left : List Commit)
    → option_map (at_clock s.clock) (option_map (λ (n : NodeCourse). record s.course { nodes = set s.course.nodes number n }) (first_applied script name left has)) ≡ None → left ≡ []
none_left script s number name has [] e = refl
none_left script s number name has (commit ∷ more) e = absurd (no_some _ (sym e))

node_rests : (script : Script) (s : Serial) (number : ℕ) (node : ScriptNode) (has : NodeCourse) → IsScript script → slice_get script.nodes number ≡ Some node → slice_get s.course.nodes number ≡ Some has
    → node_turn script node.name s ≡ None → has.left ≡ []
node_rests script s number node has valid e f none =
    let acts : Option ScriptNode → Option NodeCourse → Option Serial =
    λ a b. option_map (at_clock s.clock) (option_map (λ (n : NodeCourse). record s.course { nodes = set s.course.nodes number n }) (applied_node script a b)) in
    none_left script s number node.name has has.left
    ((λ i. acts (sym e i) (sym f i)) ∙ sym (node_turn_at script number node s valid e) ∙ none)

nodes_rest : (script : Script) (s : Serial) → IsScript script → IsLawfulSoFar script s.course → AllByRecursion (λ t. turn_of script t s ≡ None) (node_turns script.nodes)
    → AllByRecursion (λ (n : NodeCourse). n.left ≡ []) s.course.nodes
nodes_rest script s valid h none =
    let each = all_mapped (λ t. turn_of script t s ≡ None) (λ (n : ScriptNode). turn.Node n.name) script.nodes none in
    all_placed (IsRecordedAt script s.course.book.batches) (λ (n : NodeCourse). n.left ≡ []) script.nodes s.course.nodes h.recorded
    (λ number node has e f. node_rests script s number node has valid e f (all_at (λ (n : ScriptNode). node_turn script n.name s ≡ None) script.nodes number node each e))

pub is_at_rest : (script : Script) (s t : Serial) → IsScript script → IsBuilt script → IsOnTime script s → play script (round_turns script) (false, s) ≡ (false, t) → IsAtRest script t.course
is_at_rest script s t valid built h e =
    let none = none_act script (round_turns script) s (ap (λ (p : Bool × Serial). p.0) e) in
    let turns = client_turns 0 script.clients in
    let others = turn.Master ∷ node_turns script.nodes in
    let master = all_later (λ t. turn_of script t s ≡ None) turns others none in
    let empty = none_next script s s.course.waiting (next_queue (priorities_of script.queues) s.course.waiting) refl refl master.0 in
    let clients = all_first (λ t. turn_of script t s ≡ None) turns others none in
    let left = nodes_rest script s valid h.lawful master.1 in
    subst (λ (u : Serial). IsAtRest script u.course) (sym (round_still script s t valid h e)) (record {
      empty = empty;
      ended = λ client. rests_by script s client (slice_get script.clients client) refl valid built h.lawful empty left clients;
      applied = left;
    })

-- ---- how many rounds are enough

-- rounds from here on, of which there are enough, end there
pub record Ends (script : Script) (s end : Serial) : Type 0 where
  pub rounds : ℕ
  pub enough : load script s.course < rounds
  pub there : rest script rounds s ≡ end

pub ends_first : (script : Script) (s : Serial) → Ends script s (rest script (load script s.course + 1) s)
ends_first script s = record { rounds = load script s.course + 1; enough = omega arith; there = refl }

going : (script : Script) (s t end : Serial) (rounds : ℕ) → load script s.course < rounds → rest script rounds s ≡ end → go_on script s ≡ Some t → load script t.course < load script s.course → Ends script t end
unfolding rest
going script s t end zero enough there e less = absurd (omega arith)
going script s t end (suc more) enough there e less = record {
  rounds = more;
  enough = omega arith;
  there = sym (ap (λ (o : Option Serial). unwrap_or (option_map (rest script more) o) s) e) ∙ there;
}

pub ends_on : (script : Script) (s t end : Serial) → IsScript script → IsOnTime script s → play script (round_turns script) (false, s) ≡ (true, t) → Ends script s end → Ends script t end
ends_on script s t end valid h e ends = going script s t end ends.rounds ends.enough ends.there (ap if_acted e) (round_less script s t valid h e)

stopping : (script : Script) (s t end : Serial) (rounds : ℕ) → load script s.course < rounds → rest script rounds s ≡ end → go_on script s ≡ None → s ≡ end
unfolding rest
stopping script s t end zero enough there e = absurd (omega arith)
stopping script s t end (suc more) enough there e = sym (ap (λ (o : Option Serial). unwrap_or (option_map (rest script more) o) s) e) ∙ there

pub ends_here : (script : Script) (s t end : Serial) → IsScript script → IsOnTime script s → play script (round_turns script) (false, s) ≡ (false, t) → Ends script s end → t ≡ end
ends_here script s t end valid h e ends = round_still script s t valid h e ∙ stopping script s t end ends.rounds ends.enough ends.there (ap if_acted e)

-- ---- a round, as it is played

play_both : (script : Script) (xs ys : List ScriptTurn) (before : Bool × Serial) → play script (xs ++ ys) before ≡ play script ys (play script xs before)
play_both script [] ys before = refl
play_both script (x ∷ xs) ys before = play_both script xs ys (turned script before x)

pub either_acts : (acted b : Bool) (s t : Serial) (o : Option Serial) → after_turn (false, s) o ≡ (b, t) → after_turn (acted, s) o ≡ ((if b then true else acted), t)
either_acts acted b s t None e =
    (λ i. ((if (ap (λ (p : Bool × Serial). p.0) e i) then true else acted), ap (λ (p : Bool × Serial). p.1) e i))
either_acts acted b s t (Some u) e =
    (λ i. ((if (ap (λ (p : Bool × Serial). p.0) e i) then true else acted), ap (λ (p : Bool × Serial). p.1) e i))

none_dropped : {A : Type 0} (xs : List A) (n : ℕ) → length xs ≤ n → drop n xs ≡ []
none_dropped [] zero over = refl
none_dropped [] (suc n) over = refl
none_dropped (x ∷ xs) zero over = absurd (omega arith)
none_dropped (x ∷ xs) (suc n) over = none_dropped xs n (omega arith)

-- up to its nodes
round_led : (script : Script) (first s t : Serial) (place client : ℕ) (acted b : Bool) → length script.clients ≤ place
    → play script (client_turns client (drop place script.clients)) (acted, s) ≡ play script (client_turns 0 script.clients) (false, first) → after_turn (false, s) (master_turn script s) ≡ (b, t)
    → play script (node_turns script.nodes) ((if b then true else acted), t) ≡ play script (round_turns script) (false, first)
round_led script first s t place client acted b over leads e =
    let nodes = node_turns script.nodes in
    let clients : (acted, s) ≡ play script (client_turns 0 script.clients) (false, first) =
    ap (λ (l : List (List Step)). play script (client_turns client l) (acted, s)) (sym (none_dropped script.clients place over)) ∙ leads in
    sym (play_both script (client_turns 0 script.clients) (turn.Master ∷ nodes) (false, first)
    ∙ ap (play script (turn.Master ∷ nodes)) (sym clients)
    ∙ ap (play script nodes) (either_acts acted b s t (master_turn script s) e))

pub round_acted : (script : Script) (first s t : Serial) (place client : ℕ) (acted b : Bool) → length script.clients ≤ place
    → play script (client_turns client (drop place script.clients)) (acted, s) ≡ play script (client_turns 0 script.clients) (false, first) → after_turn (false, s) (master_turn script s) ≡ (b, t) → b ≡ true
    → play script (node_turns script.nodes) (true, t) ≡ play script (round_turns script) (false, first)
round_acted script first s t place client acted b over leads e acts =
    (λ i. play script (node_turns script.nodes) ((if (sym acts i) then true else acted), t)) ∙ round_led script first s t place client acted b over leads e

pub round_still_so : (script : Script) (first s t : Serial) (place client : ℕ) (acted b : Bool) → length script.clients ≤ place
    → play script (client_turns client (drop place script.clients)) (acted, s) ≡ play script (client_turns 0 script.clients) (false, first) → after_turn (false, s) (master_turn script s) ≡ (b, t) → b ≡ false
    → play script (node_turns script.nodes) (acted, t) ≡ play script (round_turns script) (false, first)
round_still_so script first s t place client acted b over leads e none =
    (λ i. play script (node_turns script.nodes) ((if (sym none i) then true else acted), t)) ∙ round_led script first s t place client acted b over leads e

-- what a round answers
pub round_ended : (script : Script) (before now end : Serial) (b : Bool) → IsScript script → IsOnTime script before → play script (round_turns script) (false, before) ≡ (b, now) → b ≡ false
    → Ends script before end → now ≡ end
round_ended script before now end true valid h e none ends = absurd (true≢false none)
round_ended script before now end false valid h e none ends = ends_here script before now end valid h e ends

pub round_smaller : (script : Script) (before now : Serial) (b : Bool) → IsScript script → IsOnTime script before → play script (round_turns script) (false, before) ≡ (b, now) → b ≡ true
    → load script now.course < load script before.course
round_smaller script before now true valid h e some = round_less script before now valid h e
round_smaller script before now false valid h e some = absurd (true≢false (sym some))

pub round_on : (script : Script) (before now end : Serial) (b : Bool) → IsScript script → IsOnTime script before → play script (round_turns script) (false, before) ≡ (b, now) → b ≡ true
    → Ends script before end → Ends script now end
round_on script before now end true valid h e some ends = ends_on script before now end valid h e ends
round_on script before now end false valid h e some ends = absurd (true≢false (sym some))
