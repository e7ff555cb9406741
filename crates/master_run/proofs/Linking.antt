-- A replay's links stay those of its world, and have room for all that may still be committed; so that a batch over
-- them is the one that the script asks for.
use Rattle.std.specs.Prelude.{◌≡◌, ℕ, ◌+◌, ◌-◌, ◌<◌, ◌≤◌, Bool, true, false, not, cond, ◌&&◌, ◌||◌, List, [], ◌∷◌, length, map, Option, Some, None, option_and_then, Result, Ok, Err, IfOk, OnOk, refl, if◌then◌else◌}
use Rattle.std.proofs.Common.{sym, ◌∙◌, ap, subst, arith}
use Rattle.std.proofs.Math.Bool.{true≢false}
use Rattle.std.proofs.lemmas.List.{length-append}
use Rattle.std.proofs.lemmas.List.Filters.{length-filter_both}
use Rattle.std.specs.List.{AllByRecursion}
use Rattle.meta_state.specs.declared.cluster_state.ClusterState.{ClusterState}
use Rattle.node_apply.specs.NodeLinks.{NodeLinkView}
use Rattle.plain_data.specs.declared.memory.OutOfMemory.{OutOfMemory}
use Rattle.publication.specs.declared.deliveries.Answer.{Answer}
use Rattle.publication.specs.Deliveries.{IsDelivered}
use Rattle.publication.specs.LinkMeanings.{LinkMeaning}
use Rattle.publication.specs.Threes.{AllThree}
use Rattle.publication.proofs.Threes.{three_by, three_first, three_map}
use Rattle.scripts.specs.declared.faults.Fault.{Fault}
use Rattle.scripts.specs.declared.queues.QueueSpec.{QueueSpec}
use Rattle.scripts.specs.declared.whole_script.Script.{Script}
use Rattle.scripts.specs.declared.whole_script.ScriptNode.{ScriptNode}
use Rattle.scripts.specs.declared.steps.Goal.TheVariants as goal
use Rattle.scripts.specs.declared.steps.Step.{Step}
use Rattle.scripts.specs.declared.steps.Step.TheVariants.{Submit, Await, Watch, Next, Read, Sleep, Close}
use Rattle.scripts.specs.Built.{IsBuilt}
use Rattle.scripts.specs.Scripts.{IsScript, is_submit}
use Rattle.session_law.specs.declared.batches.Entry.{Entry}
use Rattle.session_law.specs.declared.worlds.NodeWorld.{NodeWorld}
use Rattle.session_law.specs.declared.worlds.Stepped.{Stepped}
use Rattle.session_law.specs.declared.worlds.World.{World}
use Rattle.session_law.specs.BatchSteps.{commit_step, drop_step}
use Rattle.session_law.specs.Histories.{step_at}
use Rattle.executors.specs.declared.tasks.Task.{Task}
use Rattle.scripts.specs.declared.steps.Ack.{Ack}
use Rattle.session_law.specs.Publications.{cut_by, does_commit}
use Rattle.session_law.specs.Worlds.{first_node, first_state_of, first_world}
use Rattle.meta_state.specs.States.{zero_state}
use Rattle.master_run.specs.declared.plans.Plan.{Plan}
use Rattle.master_run.specs.declared.plans.Plan.TheVariants.{Settled, Proposed}
use Rattle.master_run.specs.declared.plans.Proposal.{Proposal}
use Rattle.master_run.specs.declared.replays.Replay.{Replay}
use Rattle.master_run.specs.declared.sendings.Sent.{Sent}
use Rattle.master_intake.specs.declared.entries.Waiting.{Waiting}
use Rattle.master_intake.specs.Waitings.{is_in, left_by, taken_from}
use Rattle.master_run.specs.Books.{Chronicle, IsAdded, added, added_to, input_at, noted, plan_for, ran_at}
use Rattle.master_run.specs.Linked.{AreUsed, IsLinked, IsSteady, IsUsed, batches_left}
use Rattle.master_run.specs.NodeEnds.{link_for, links_for, meanings_for, room_for}
use Rattle.master_run.specs.Plans.{concluded}
use Rattle.master_run.specs.Reaches.{AreScripted, IsScripted}
use Rattle.master_run.specs.Sendings.{AreLinksOf, HaveRoom, IsSentFor, WasProposed}
use Rattle.master_run.specs.Courses.{Course, first_course, next_at, word_of}
use Rattle.master_run.specs.Replays.{IsOverLinks, course_of, serial_of}
use Rattle.std.specs.Option.{option_map}
use Rattle.master_run.specs.Events.{Event, event}
use Rattle.master_run.specs.Serials.{Serial, after_step, after_turn, at_clock, client_turn, first_serial, node_number, node_turn}
use Rattle.master_run.specs.Servings.{has_some_in}
use Rattle.master_run.specs.SoFar.{IsLawfulSoFar}
use Rattle.master_run.specs.Steps.{ack_end_in, ack_told, awaited_by, batch_told, moved_on, next_step_of, performed, step_by, submitted_by, waiting_of}
use Rattle.master_run.specs.StepsLeft.{steps_left}
use Rattle.master_run.proofs.Adding.{scripted_reached, scripted_step}
use Rattle.master_run.proofs.Alls.{all_by}
use Rattle.master_run.proofs.Bounds.{stood}
use Rattle.master_run.proofs.Keeping.{no_some, some_same}
use Rattle.master_run.proofs.Planning.{reach_cut, step_is}
use Rattle.master_run.proofs.Reaching.{HasAnswered, have_answered}
use Rattle.master_run.proofs.Recording.{is_applied}
use Rattle.master_run.proofs.StepsLeft.{kind_falls, left_falls, left_first}
use Rattle.master_run.proofs.Taken.{faults_built}
use Rattle.master_run.proofs.Turning.{after_cases, mapped}

-- ---- over links of which none fails, a batch is the one of the script

-- a link that doesn't fail, and what was delivered over it
abbrev pub IsSure : ClusterState → ClusterState → Bool → LinkMeaning → LinkMeaning → Answer → Type 0
IsSure prev new commits before after answer = (before.reliable ≡ true) × IsDelivered prev new commits before after answer

not_missed : (asked took : Bool) → (asked ≡ true → took ≡ false → ⊥) → (asked && not took) ≡ false
not_missed true true never = refl
not_missed true false never = absurd (never refl refl)
not_missed false took never = refl

sure_answered : (prev new : ClusterState) (commits : Bool) (node : ScriptNode) (has : NodeWorld) (answer : Answer) → HasAnswered (IsSure prev new commits) node has answer
    → IsScripted [] node has answer
sure_answered prev new commits node has answer answered asked =
    not_missed answer.asked answer.accepted (λ h none. true≢false (sym answered.over.0 ∙ (answered.over.1.missed h none).can))

all_scripted : (script : Script) (world : World) (may_read : ℕ → Bool) (before after : List LinkMeaning) (sent : Sent) (plan : Plan) → script.faults ≡ [] → AreLinksOf script.nodes world before
    → AllByRecursion (λ l. l.reliable ≡ true) before → IsSentFor world may_read before after sent plan → AreScripted script.faults script.nodes world plan sent.delivery.answers
all_scripted script world may_read before after sent (Settled stepped) none of sure sends = tt
all_scripted script world may_read before after sent (Proposed proposal) none of sure sends =
    let commits = sent.delivery.commits in
    let answers = sent.delivery.answers in
    let all = three_first (λ (l : LinkMeaning). l.reliable ≡ true) (IsDelivered world.state proposal.new commits) before after answers sure sends.delivered.each in
    subst (λ (faults : List Fault). AllThree (IsScripted faults) script.nodes world.nodes answers) (sym none)
    (three_map (HasAnswered (IsSure world.state proposal.new commits)) (IsScripted []) (sure_answered world.state proposal.new commits) script.nodes world.nodes answers
    (have_answered (IsSure world.state proposal.new commits) before after answers all script.nodes world.nodes of.names of.held))

-- a commit's reading is the one that its clock gives
read_one : (commits : Bool) (script : Script) (queue : QueueSpec) (entries : List Entry) (world : World) (proposal : Proposal) (c d : ℕ) → (commits ≡ true → c ≡ d)
    → let step : ℕ → Stepped × World = λ at.
    let input = input_at (cut_by script.faults) script queue entries at in
    if commits then commit_step input world proposal.new proposal.marks (reach_cut input world proposal) else drop_step input world proposal.new (reach_cut input world proposal) in
    step c ≡ step d
read_one true script queue entries world proposal c d same =
    ap (λ at. let input = input_at (cut_by script.faults) script queue entries at in commit_step input world proposal.new proposal.marks (reach_cut input world proposal)) (same refl)
read_one false script queue entries world proposal c d same = refl

reading_is : (script : Script) (queue : QueueSpec) (entries : List Entry) (world : World) (may_read : ℕ → Bool) (before after : List LinkMeaning) (sent : Sent) (plan : Plan) (at : ℕ)
    → AreLinksOf script.nodes world before → IsSentFor world may_read before after sent plan → AreScripted script.faults script.nodes world plan sent.delivery.answers
    → ((c : ℕ) → may_read c ≡ true → c ≡ at)
    → let step : ℕ → Stepped × World = λ c. let input = input_at (cut_by script.faults) script queue entries c in concluded (reach_cut input world) input world plan in
    step sent.commit ≡ step at
reading_is script queue entries world may_read before after sent (Settled stepped) at of sends scripted only = refl
reading_is script queue entries world may_read before after sent (Proposed proposal) at of sends scripted only =
    let reach = reach_cut (input_at (cut_by script.faults) script queue entries at) world proposal in
    let commits : sent.delivery.commits ≡ does_commit proposal.new reach =
    sends.delivered.commits ∙ ap (does_commit proposal.new) (scripted_reached script world may_read before after sent proposal of sends scripted) in
    read_one (does_commit proposal.new reach) script queue entries world proposal sent.commit at (λ yes. only sent.commit (sends.read (commits ∙ yes)))

pub added_over_links : (script : Script) (number : ℕ) (entries : List Entry) (at : ℕ) (may_read : ℕ → Bool) (before after : List LinkMeaning) (old new : Chronicle) → IsScript script
    → script.faults ≡ [] → AreLinksOf script.nodes old.world before → AllByRecursion (λ l. l.reliable ≡ true) before → ((c : ℕ) → may_read c ≡ true → c ≡ at)
    → IsAdded script number entries at may_read before after old new → new ≡ added script old number entries at at
added_over_links script number entries at may_read before after old new valid none of sure only is =
    let plan = plan_for script is.queue entries old.world in
    let scripted = all_scripted script old.world may_read before after is.sent plan none of sure is.sends in
    let same = scripted_step script is.queue entries old.world may_read before after is.sent valid of is.sends scripted in
    let read : ran_at script old.world is.queue entries is.sent.commit ≡ ran_at script old.world is.queue entries at =
    step_is (input_at (cut_by script.faults) script is.queue entries is.sent.commit) old.world
    ∙ reading_is script is.queue entries old.world may_read before after is.sent plan at of is.sends scripted only
    ∙ sym (step_is (input_at (cut_by script.faults) script is.queue entries at) old.world) in
    is.book ∙ ap (noted old is.queue entries at) (same ∙ read) ∙ ap (λ (found : Option QueueSpec). added_to script old found entries at at) (sym is.of_queue)

-- ---- what a batch takes of the links

same_used : (links : List LinkMeaning) → AreUsed links links
same_used [] = tt
same_used (link ∷ links) = (record { reliable = refl; room = omega arith }, same_used links)

room_used : (got : Bool) (room : ℕ) → room ≤ (if got then room - 1 else room) + 1
room_used true room = omega arith
room_used false room = omega arith

delivered_used : (prev new : ClusterState) (commits : Bool) (before after : LinkMeaning) (answer : Answer) → IsDelivered prev new commits before after answer → IsUsed before after
delivered_used prev new commits before after answer is = record {
  reliable = ap (λ (l : LinkMeaning). l.reliable) is.link;
  room = subst (λ (n : ℕ). before.room ≤ n + 1) (sym (ap (λ (l : LinkMeaning). l.room) is.link)) (room_used answer.handed before.room);
}

plan_used : (world : World) (may_read : ℕ → Bool) (before after : List LinkMeaning) (sent : Sent) (plan : Plan) → IsSentFor world may_read before after sent plan → AreUsed before after
plan_used world may_read before after sent (Settled stepped) sends = subst (AreUsed before) (sym sends) (same_used before)
plan_used world may_read before after sent (Proposed proposal) sends =
    three_by (IsDelivered world.state proposal.new sent.delivery.commits) (λ before after answers. AreUsed before after) tt
    (λ b a answer before after answers one all rest. (delivered_used world.state proposal.new sent.delivery.commits b a answer one, rest))
    before after sent.delivery.answers sends.delivered.each

pub used_by_batch : (script : Script) (number : ℕ) (entries : List Entry) (at : ℕ) (may_read : ℕ → Bool) (before after : List LinkMeaning) (old new : Chronicle)
    → IsAdded script number entries at may_read before after old new → AreUsed before after
used_by_batch script number entries at may_read before after old new is = plan_used old.world may_read before after is.sent (plan_for script is.queue entries old.world) is.sends

-- ---- what may still be committed

pub all_sure : (left : ℕ) (links : List LinkMeaning) → AllByRecursion (IsSteady left) links → AllByRecursion (λ l. l.reliable ≡ true) links
all_sure left links steady = all_by (IsSteady left) (λ (l : LinkMeaning). l.reliable ≡ true) (λ l h. h.reliable) links steady

steady_on : (left less : ℕ) (before after : List LinkMeaning) → less + 1 ≤ left → AllByRecursion (IsSteady left) before → AreUsed before after → AllByRecursion (IsSteady less) after
steady_on left less [] [] h steady used = tt
steady_on left less [] (a ∷ after) h steady used = absurd used
steady_on left less (b ∷ before) [] h steady used = tt
steady_on left less (b ∷ before) (a ∷ after) h steady used = (
  record { reliable = used.0.reliable ∙ steady.0.reliable; room = let old = steady.0.room in let new = used.0.room in omega arith },
  steady_on left less before after h steady.1 used.1,
)

-- over a replay's links, at a clock that stands still at its moment
pub rebooked_over_links : (script : Script) (number : ℕ) (entries : List Entry) (may_read : ℕ → Bool) (before after : List LinkMeaning) (replay : Replay) (new : Chronicle) → IsScript script
    → IsOverLinks script replay before → ((c : ℕ) → may_read c ≡ true → c ≡ replay.clock) → IsAdded script number entries replay.clock may_read before after replay.book new
    → (record replay { book = new }) ≡ (record replay { book = added script replay.book number entries replay.clock replay.clock })
rebooked_over_links script number entries may_read before after replay new valid over only is i =
    record replay { book = added_over_links script number entries replay.clock may_read before after replay.book new valid over.faults over.of over.sure only is i }

-- where something waits in a queue, some of it is taken
taken_by_one : (number : ℕ) (w : Waiting) (more : List Waiting) (b : Bool) → is_in number w ≡ b → (b || has_some_in number more) ≡ true → (has_some_in number more ≡ true → 0 < length (taken_from number more))
    → 0 < length (cond b (w ∷ taken_from number more) (taken_from number more))
taken_by_one number w more true e h rest = omega arith
taken_by_one number w more false e h rest = rest h

some_taken : (number : ℕ) (waiting : List Waiting) → has_some_in number waiting ≡ true → 0 < length (taken_from number waiting)
some_taken number [] h = absurd (true≢false (sym h))
some_taken number (w ∷ more) h = taken_by_one number w more (is_in number w) refl h (some_taken number more)

-- ---- the turns

-- a course whose world is as it was, and that may have no more batches
record IsLess (script : Script) (before now : Course) : Type 0 where
  world : now.book.world ≡ before.book.world
  left : batches_left script now ≤ batches_left script before

linked_less : (script : Script) (before now : Course) (links : List LinkMeaning) → IsLess script before now → IsLinked script before links → IsLinked script now links
linked_less script before now links less linked = record {
  of = subst (λ (w : World). AreLinksOf script.nodes w links) (sym less.world) linked.of;
  steady = all_by (IsSteady (batches_left script before)) (IsSteady (batches_left script now)) (λ l h. record { reliable = h.reliable; room = let r = h.room in let fewer = less.left in omega arith }) links linked.steady;
  faults = linked.faults;
}

moved_less : (script : Script) (k now : Course) (client : ℕ) → now.book.world ≡ k.book.world → now.positions ≡ moved_on k.positions client → now.waiting ≡ k.waiting → IsLess script k now
moved_less script k now client world positions waiting = record {
  world = world;
  left =
      let fewer = left_falls is_submit script.clients k.positions client in
      let same = ap (λ (p : List ℕ). steps_left is_submit script.clients p) positions in
      let long = ap (λ (w : List Waiting). length w) waiting in
      omega arith;
}

submit_less : (script : Script) (k : Course) (client at queue : ℕ) (task : Task) (timeout : Option ℕ) (ack : Option Ack) → IsLawfulSoFar script k
    → step_at script client (next_at k.positions client) ≡ Some (Submit queue task timeout ack) → IsLess script k (submitted_by k client at queue task timeout)
submit_less script k client at queue task timeout ack h e =
    let step = stood script client (next_at k.positions client) (Submit queue task timeout ack) e in
    let fewer = kind_falls is_submit script.clients k.positions client step.steps (Submit queue task timeout ack) h.performed.places step.of_client step.of_steps refl in
    let longer = length-append k.waiting (waiting_of client (next_at k.positions client) queue task ∷ []) in
    record { world = refl; left = omega arith }

await_less : (script : Script) (k now : Course) (client : ℕ) (found : Option ℕ) → awaited_by k client found ≡ Some now → IsLess script k now
await_less script k now client None e = absurd (no_some now e)
await_less script k now client (Some batch) e =
    let same = some_same _ now e in
    moved_less script k now client (ap (λ (c : Course). c.book.world) (sym same)) (ap (λ (c : Course). c.positions) (sym same)) (ap (λ (c : Course). c.waiting) (sym same))

step_less : (script : Script) (k now : Course) (client at : ℕ) (found : Option Step) → IsLawfulSoFar script k → step_at script client (next_at k.positions client) ≡ found
    → step_by script k client at found ≡ Some now → IsLess script k now
step_less script k now client at None h e f = absurd (no_some now f)
step_less script k now client at (Some (Submit queue task timeout ack)) h e f =
    subst (IsLess script k) (some_same _ now f) (submit_less script k client at queue task timeout ack h e)
step_less script k now client at (Some (Await earlier goal.Task)) h e f = await_less script k now client (batch_told (word_of k.tasks client earlier)) f
step_less script k now client at (Some (Await earlier goal.Ack)) h e f =
    await_less script k now client (ack_told (ack_end_in script k client earlier) (word_of k.tasks client earlier)) f
step_less script k now client at (Some (Await earlier goal.Watch)) h e f = absurd (no_some now f)
step_less script k now client at (Some (Watch _ _ _ _)) h e f = absurd (no_some now f)
step_less script k now client at (Some (Next _ _ _ _)) h e f = absurd (no_some now f)
step_less script k now client at (Some (Read _ _)) h e f = absurd (no_some now f)
step_less script k now client at (Some (Sleep ms)) h e f =
    let same = some_same _ now f in
    moved_less script k now client (ap (λ (c : Course). c.book.world) (sym same)) (ap (λ (c : Course). c.positions) (sym same)) (ap (λ (c : Course). c.waiting) (sym same))
step_less script k now client at (Some Close) h e f = absurd (no_some now f)

-- a client that performs a step uses no link
pub linked_by_step : (script : Script) (k now : Course) (client at : ℕ) (links : List LinkMeaning) → IsLawfulSoFar script k → performed script client at k ≡ Some now → IsLinked script k links
    → IsLinked script now links
linked_by_step script k now client at links h e linked =
    linked_less script k now links (step_less script k now client at (next_step_of script k client) h refl e) linked

mapped_links : (script : Script) (k now : Course) (clock : ℕ) (step : Option Step) (links : List LinkMeaning) → IsLinked script now links → IsLinked script (after_step script step (at_clock clock now)).course links
mapped_links script k now clock None links h = h
mapped_links script k now clock (Some (Submit _ _ _ _)) links h = h
mapped_links script k now clock (Some (Await _ _)) links h = h
mapped_links script k now clock (Some (Watch _ _ _ _)) links h = h
mapped_links script k now clock (Some (Next _ _ _ _)) links h = h
mapped_links script k now clock (Some (Read _ _)) links h = h
mapped_links script k now clock (Some (Sleep ms)) links h = record { of = h.of; steady = h.steady; faults = h.faults }
mapped_links script k now clock (Some Close) links h = h

turn_links : (script : Script) (client : ℕ) (s t : Serial) (o : Option Course) (acted : Bool) (links : List LinkMeaning) → performed script client s.clock s.course ≡ o → IsLawfulSoFar script s.course
    → after_turn (false, s) (option_map (λ k. after_step script (next_step_of script s.course client) (at_clock s.clock k)) o) ≡ (acted, t) → IsLinked script s.course links → IsLinked script t.course links
turn_links script client s t None acted links e h f linked = subst (λ (u : Serial). IsLinked script u.course links) (ap (λ (p : Bool × Serial). p.1) f) linked
turn_links script client s t (Some k) acted links e h f linked =
    subst (λ (u : Serial). IsLinked script u.course links) (ap (λ (p : Bool × Serial). p.1) f)
    (mapped_links script s.course k s.clock (next_step_of script s.course client) links (linked_by_step script s.course k client s.clock links h e linked))

-- a client's turn uses no link
pub linked_by_client : (script : Script) (client : ℕ) (s t : Serial) (acted : Bool) → IsLawfulSoFar script s.course → after_turn (false, s) (client_turn script client s) ≡ (acted, t)
    → (links : List LinkMeaning) → IsLinked script s.course links → IsLinked script t.course links
linked_by_client script client s t acted h f links linked = turn_links script client s t (performed script client s.clock s.course) acted links refl h f linked

pub client_links_if : (result : Result Bool OutOfMemory) (script : Script) (client : ℕ) (before now : Replay) → IsLawfulSoFar script (course_of before)
    → IfOk result (λ acted. after_turn (false, serial_of before) (client_turn script client (serial_of before)) ≡ (acted, serial_of now))
    → OnOk result ((links : List LinkMeaning) → IsLinked script (course_of before) links → IsLinked script (course_of now) links)
client_links_if (Ok acted) script client before now h e = linked_by_client script client (serial_of before) (serial_of now) acted h e
client_links_if (Err fault) script client before now h e = tt

-- what waits is more than what is left of it
pub fewer_wait : (number : ℕ) (waiting : List Waiting) → has_some_in number waiting ≡ true → length (left_by number waiting) + 1 ≤ length waiting
fewer_wait number waiting some =
    let taken = some_taken number waiting some in
    let both = length-filter_both (is_in number) (λ (w : Waiting). not (is_in number w)) (λ w. refl) waiting in
    omega arith

pub rooms_left : (script : Script) (k : Course) (number : ℕ) (links : List LinkMeaning) → has_some_in number k.waiting ≡ true → IsLinked script k links → HaveRoom links
rooms_left script k number links some linked =
    let fewer = fewer_wait number k.waiting some in
    all_by (IsSteady (batches_left script k)) (λ (l : LinkMeaning). 0 < l.room) (λ l h. let r = h.room in omega arith) links linked.steady

-- the master's batch uses one commit of each at most
pub linked_by_batch : (script : Script) (k now : Course) (number : ℕ) (before after : List LinkMeaning) → has_some_in number k.waiting ≡ true → IsLinked script k before
    → now.positions ≡ k.positions → now.waiting ≡ left_by number k.waiting → AreLinksOf script.nodes now.book.world after → AreUsed before after → IsLinked script now after
linked_by_batch script k now number before after some linked positions waiting of used =
    let fewer = fewer_wait number k.waiting some in
    let long = ap (λ (w : List Waiting). length w) waiting in
    let same = ap (λ (p : List ℕ). steps_left is_submit script.clients p) positions in
    record {
      of = of;
      steady = steady_on (batches_left script k) (batches_left script now) before after (omega arith) linked.steady used;
      faults = linked.faults;
    }

-- where its batch is none, no link was used
pub linked_by_none : (script : Script) (k now : Course) (number : ℕ) (links : List LinkMeaning) → has_some_in number k.waiting ≡ true → IsLinked script k links
    → now.book ≡ k.book → now.positions ≡ k.positions → now.waiting ≡ left_by number k.waiting → IsLinked script now links
linked_by_none script k now number links some linked book positions waiting =
    let fewer = fewer_wait number k.waiting some in
    let long = ap (λ (w : List Waiting). length w) waiting in
    let same = ap (λ (p : List ℕ). steps_left is_submit script.clients p) positions in
    linked_less script k now links (record { world = ap (λ (b : Chronicle). b.world) book; left = omega arith }) linked

-- ---- a node's turn uses no link

pub linked_by_apply : (script : Script) (k now : Course) (number : ℕ) (links : List LinkMeaning) → event script (Event.Apply number) k ≡ Some now → IsLinked script k links → IsLinked script now links
linked_by_apply script k now number links e linked =
    subst (λ (c : Course). IsLinked script c links) (is_applied script k now number e).is (record { of = linked.of; steady = linked.steady; faults = linked.faults })

linked_by_number : (script : Script) (s t : Serial) (number : Option ℕ) (links : List LinkMeaning)
    → option_and_then (λ n. option_map (at_clock s.clock) (event script (Event.Apply n) s.course)) number ≡ Some t → IsLinked script s.course links → IsLinked script t.course links
linked_by_number script s t None links e linked = absurd (no_some t e)
linked_by_number script s t (Some number) links e linked =
    let m = mapped (at_clock s.clock) (event script (Event.Apply number) s.course) t e in
    subst (λ (u : Serial). IsLinked script u.course links) m.is (linked_by_apply script s.course m.from number links m.found linked)

pub linked_by_node : (script : Script) (name : List ℕ) (s t : Serial) (acted : Bool) (links : List LinkMeaning) → after_turn (false, s) (node_turn script name s) ≡ (acted, t)
    → IsLinked script s.course links → IsLinked script t.course links
linked_by_node script name s t acted links e linked =
    after_cases (λ (u : Serial). IsLinked script u.course links) s t (node_turn script name s) acted linked (λ u f. linked_by_number script s u (node_number script name) links f linked) e

-- ---- at first

names_first : (room : ℕ) (first none : ClusterState) (nodes : List ScriptNode)
    → map (λ (l : LinkMeaning). l.name) (meanings_for room nodes (map (first_node first none) nodes)) ≡ map (λ (n : ScriptNode). n.name) nodes
names_first room first none [] = refl
names_first room first none (node ∷ nodes) = λ i. node.name ∷ names_first room first none nodes i

held_first : (room : ℕ) (first none : ClusterState) (nodes : List ScriptNode)
    → map (λ (l : LinkMeaning). l.held) (meanings_for room nodes (map (first_node first none) nodes)) ≡ map (λ (n : NodeWorld). n.accepted) (map (first_node first none) nodes)
held_first room first none [] = refl
held_first room first none (node ∷ nodes) = λ i. (first_node first none node).accepted ∷ held_first room first none nodes i

sent_first : (room : ℕ) (first none : ClusterState) (nodes : List ScriptNode)
    → map (λ (l : LinkMeaning). l.sent) (meanings_for room nodes (map (first_node first none) nodes)) ≡ map (λ (n : NodeWorld). n.sent) (map (first_node first none) nodes)
sent_first room first none [] = refl
sent_first room first none (node ∷ nodes) = λ i. 0 ∷ sent_first room first none nodes i

last_first : (proposals room : ℕ) (nodes : List ScriptNode) (have : List NodeWorld) → AllByRecursion (λ (l : LinkMeaning). WasProposed proposals l.last) (meanings_for room nodes have)
last_first proposals room [] have = tt
last_first proposals room (node ∷ nodes) [] = tt
last_first proposals room (node ∷ nodes) (has ∷ have) = (tt, last_first proposals room nodes have)

steady_first : (left room : ℕ) (nodes : List ScriptNode) (have : List NodeWorld) → left ≤ room → AllByRecursion (IsSteady left) (meanings_for room nodes have)
steady_first left room [] have h = tt
steady_first left room (node ∷ nodes) [] h = tt
steady_first left room (node ∷ nodes) (has ∷ have) h = (record { reliable = refl; room = h }, steady_first left room nodes have h)

pub first_linked : (script : Script) (links : List LinkMeaning) → script.faults ≡ [] → links ≡ meanings_for (room_for script) script.nodes (first_world script).nodes
    → IsLinked script (first_course script) links
unfolding first_world
first_linked script links none is =
    let first = first_state_of script in
    let empty = zero_state script.cluster in
    let left = left_first is_submit script.clients in
    subst (IsLinked script (first_course script)) (sym is) (record {
      of = record {
        names = names_first (room_for script) first empty script.nodes;
        held = held_first (room_for script) first empty script.nodes;
        sent = sent_first (room_for script) first empty script.nodes;
        last = last_first 0 (room_for script) script.nodes (map (first_node first empty) script.nodes);
      };
      steady = steady_first (batches_left script (first_course script)) (room_for script) script.nodes (map (first_node first empty) script.nodes) (omega arith);
      faults = none;
    })

pub begins_linked : (script : Script) (s : Serial) (world : World) (links : List LinkMeaning) → IsBuilt script → s ≡ first_serial script → world ≡ s.course.book.world
    → links ≡ meanings_for (room_for script) script.nodes world.nodes → IsLinked script s.course links
begins_linked script s world links built first has is =
    let at : world ≡ first_world script = has ∙ ap (λ (t : Serial). t.course.book.world) first in
    subst (λ (t : Serial). IsLinked script t.course links) (sym first)
    (first_linked script links (faults_built script built) (is ∙ ap (λ (w : World). meanings_for (room_for script) script.nodes w.nodes) at))

pub meanings_are : (room : ℕ) (nodes : List ScriptNode) (have : List NodeWorld) → map (λ (l : NodeLinkView). l.meaning) (links_for room nodes have) ≡ meanings_for room nodes have
meanings_are room [] have = refl
meanings_are room (node ∷ nodes) [] = refl
meanings_are room (node ∷ nodes) (has ∷ have) = ap (λ (l : List LinkMeaning). (link_for room node has).meaning ∷ l) (meanings_are room nodes have)
