-- A batch that is added over links is the step of a batch, with those cut off that were missed; and the links hold
-- afterwards what the world says.
use Rattle.std.specs.Prelude.{◌≡◌, ℕ, ◌+◌, ◌<◌, ◌≤◌, ◌^◌, Bool, true, false, List, [], ◌∷◌, ◌++◌, length, map, slice_get, drop, Option, Some, None, Result, Ok, Err, IfOk, MatchResult, OnOk, refl, if◌then◌else◌}
use Rattle.std.proofs.Common.{sym, ◌∙◌, ap, subst, arith}
use Rattle.std.proofs.Math.Bool.{true≢false}
use Rattle.std.specs.List.{AllByRecursion}
use Rattle.edge_io.specs.Causes.{counted_up}
use Rattle.meta_state.specs.declared.cluster_state.ClusterState.{ClusterState}
use Rattle.publication.specs.declared.deliveries.Answer.{Answer}
use Rattle.publication.specs.Deliveries.{CanTake, IsDelivered, is_in}
use Rattle.publication.specs.LinkMeanings.{LinkMeaning}
use Rattle.publication.specs.Threes.{AllThree}
use Rattle.publication.proofs.Threes.{three_by, three_map}
use Rattle.scripts.specs.declared.queues.QueueSpec.{QueueSpec}
use Rattle.scripts.specs.declared.whole_script.Script.{Script}
use Rattle.scripts.specs.declared.whole_script.ScriptNode.{ScriptNode}
use Rattle.scripts.specs.Scripts.{IsScript}
use Rattle.plain_data.specs.declared.memory.OutOfMemory.{OutOfMemory}
use Rattle.session_law.specs.declared.batches.Batch.{Batch}
use Rattle.session_law.specs.declared.batches.Entry.{Entry}
use Rattle.session_law.specs.declared.task_ends.TaskEnd.{TaskEnd}
use Rattle.session_law.specs.declared.worlds.NodeWorld.{NodeWorld}
use Rattle.session_law.specs.declared.worlds.Stepped.{Stepped}
use Rattle.session_law.specs.declared.worlds.World.{World}
use Rattle.session_law.specs.BatchSteps.{BatchInput, batch_step, commit_step, drop_step, publish_step}
use Rattle.session_law.specs.Histories.{IsOrdered, tasks_at}
use Rattle.session_law.specs.Publications.{cut_by, does_commit, reach_of, sent_more}
use Rattle.master_run.specs.declared.conclusions.Conclusion.{Conclusion}
use Rattle.master_run.specs.declared.plans.Plan.{Plan}
use Rattle.master_run.specs.declared.plans.Plan.TheVariants.{Settled, Proposed}
use Rattle.master_run.specs.declared.plans.Planned.{Planned}
use Rattle.master_run.specs.declared.plans.Proposal.{Proposal}
use Rattle.master_run.specs.declared.sendings.Sent.{Sent}
use Rattle.master_run.specs.Books.{CanJoin, CanJoinAt, Chronicle, IsAdded, IsKeptBook, input_at, noted, plan_for, ran_at}
use Rattle.master_run.specs.Conclusions.{end_with, world_or}
use Rattle.master_run.specs.Ledgers.{AreProposed, IsKnownTo, IsLedger}
use Rattle.master_run.specs.Plans.{concluded}
use Rattle.master_run.specs.Reaches.{AreScripted, IsReached, IsScripted, cut_off, node_after, nodes_after, reach_by}
use Rattle.master_run.specs.Rooms.{CanPublish, HasRoom}
use Rattle.master_run.specs.Sendings.{AreLinksOf, CanSend, HaveRoom, IsDecided, IsSentFor, WasProposed}
use Rattle.master_run.specs.Touching.{KnowsChanges}
use Rattle.master_run.proofs.Bounds.{version_few}
use Rattle.master_run.proofs.Keeping.{kept_join, no_some, order_join, some_same}
use Rattle.master_run.proofs.Ledgering.{ledger_next}
use Rattle.master_run.proofs.Planning.{IsFresh, ProposesFresh, plan_fresh, reach_cut, step_is}
use Rattle.master_run.proofs.Reaching.{HasAnswered, IsCut, are_told, cut_where_missed, have_answered, no_more, reached_by}
use Rattle.master_run.proofs.Taken.{each_task}

-- ---- before anything is sent

pub joins_queue : (script : Script) (book : Chronicle) (number : ℕ) (queue : QueueSpec) (entries : List Entry) → slice_get script.queues number ≡ Some queue → CanJoinAt script book number entries
    → CanJoin script book queue entries
joins_queue script book number queue entries e joins =
    subst (λ (q : QueueSpec). CanJoin script book q entries) (some_same joins.queue queue (sym joins.of_queue ∙ e)) joins.joins

-- no message led to the next proposal
not_sent : (proposals id : ℕ) (last : Option ℕ) → id ≡ proposals + 2 → WasProposed proposals last → last ≡ Some id → ⊥
not_sent proposals id None fresh was same = no_some id same
not_sent proposals id (Some n) fresh was same = let is = some_same n id same in let low : n ≤ proposals + 1 = was in omega arith

can_take : (world : World) (proposal : Proposal) (has : NodeWorld) (link : LinkMeaning) → IsFresh world proposal → IsKnownTo world has → link.held ≡ has.accepted → 0 < link.room
    → WasProposed world.proposals link.last → CanTake world.state proposal.new link
can_take world proposal has link fresh known e room was =
    let held : link.held.id ≡ has.accepted.id = ap (λ (s : ClusterState). s.id) e in
    record {
      other = λ same. let id = fresh.id in let less = known.proposed in omega arith;
      same = λ same. e ∙ known.same (sym held ∙ same);
      room = room;
      unsent = not_sent world.proposals proposal.new.id link.last fresh.id was;
    }

all_can_take : (world : World) (proposal : Proposal) (have : List NodeWorld) (links : List LinkMeaning) → IsFresh world proposal → AllByRecursion (IsKnownTo world) have
    → map (λ (l : LinkMeaning). l.held) links ≡ map (λ (n : NodeWorld). n.accepted) have → HaveRoom links → AllByRecursion (λ l. WasProposed world.proposals l.last) links
    → AllByRecursion (CanTake world.state proposal.new) links
all_can_take world proposal have [] fresh known e room was = tt
all_can_take world proposal [] (link ∷ links) fresh known e room was = absurd (no_more link.held (map (λ (l : LinkMeaning). l.held) links) (sym e))
all_can_take world proposal (has ∷ have) (link ∷ links) fresh known e room was = (
  can_take world proposal has link fresh known.0 (some_same link.held has.accepted (ap (λ (states : List ClusterState). slice_get states 0) e)) room.0 was.0,
  all_can_take world proposal have links fresh known.1 (ap (λ (states : List ClusterState). drop 1 states) e) room.1 was.1,
)

can_send_plan : (planned : Planned) (nodes : List ScriptNode) (world : World) (links : List LinkMeaning) (plan : Plan) → ProposesFresh world plan → KnowsChanges planned.touched world.state plan
    → AreProposed world → AreLinksOf nodes world links → HaveRoom links → world.state.version < 2 ^ 31 → CanSend planned world links plan
can_send_plan planned nodes world links (Settled stepped) fresh knows are of room few = tt
can_send_plan planned nodes world links (Proposed proposal) fresh knows are of room few =
    let id = fresh.id in
    let state = are.state in
    let version = fresh.version in
    record {
      differ = λ same. omega arith;
      each = all_can_take world proposal world.nodes links fresh are.nodes of.held room of.last;
      bound = omega arith;
      agree = knows;
    }

pub can_send : (script : Script) (book : Chronicle) (queue : QueueSpec) (entries : List Entry) (planned : Planned) (links : List LinkMeaning) → IsScript script → IsOrdered script book.batches
    → IsLedger book.batches book.world → AreLinksOf script.nodes book.world links → HaveRoom links → planned.plan ≡ plan_for script queue entries book.world
    → KnowsChanges planned.touched book.world.state planned.plan → CanSend planned book.world links planned.plan
can_send script book queue entries planned links valid order ledger of room e knows =
    can_send_plan planned script.nodes book.world links planned.plan
    (subst (ProposesFresh book.world) (sym e) (plan_fresh queue.executor (tasks_at script entries) book.world)) knows ledger.proposed of room
    (version_few script book.batches book.world valid order ledger)

-- ---- once it was sent

pub is_decided : (world : World) (may_read : ℕ → Bool) (before after : List LinkMeaning) (sent : Sent) (plan : Plan) → IsSentFor world may_read before after sent plan → IsDecided sent plan
is_decided world may_read before after sent (Settled stepped) sends = tt
is_decided world may_read before after sent (Proposed proposal) sends = sends.delivered.commits

-- with nodes cut off as they were missed
reached_cut : (cut : List ℕ → ℕ → Bool) (script : Script) (world : World) (may_read : ℕ → Bool) (before after : List LinkMeaning) (sent : Sent) (proposal : Proposal)
    → AreLinksOf script.nodes world before → IsSentFor world may_read before after sent (Proposed proposal) → AllThree (IsCut cut) script.nodes world.nodes sent.delivery.answers
    → reach_by world.nodes sent.delivery.answers proposal ≡ reach_of cut world.state proposal.new script.nodes world.nodes
reached_cut cut script world may_read before after sent proposal of sends cuts =
    let commits = sent.delivery.commits in
    let answers = sent.delivery.answers in
    let answered = have_answered (IsDelivered world.state proposal.new commits) before after answers sends.delivered.each script.nodes world.nodes of.names of.held in
    reached_by cut world.state proposal.new script.nodes world.nodes answers
    (are_told cut world.state proposal.new commits script.nodes world.nodes answers answered cuts)

pub is_reached : (script : Script) (world : World) (may_read : ℕ → Bool) (before after : List LinkMeaning) (sent : Sent) (plan : Plan) → IsScript script → AreLinksOf script.nodes world before
    → IsSentFor world may_read before after sent plan → IsReached script.nodes world sent.delivery.answers plan
is_reached script world may_read before after sent (Settled stepped) valid of sends = tt
is_reached script world may_read before after sent (Proposed proposal) valid of sends =
    let delivered = IsDelivered world.state proposal.new sent.delivery.commits in
    let answered = have_answered delivered before after sent.delivery.answers sends.delivered.each script.nodes world.nodes of.names of.held in
    reached_cut (cut_off script.nodes sent.delivery.answers) script world may_read before after sent proposal of sends
    (cut_where_missed (HasAnswered delivered) script.nodes world.nodes sent.delivery.answers answered valid.nodes_distinct)

-- ---- the step

concluded_reached : (script : Script) (queue : QueueSpec) (entries : List Entry) (commit : ℕ) (world : World) (answers : List Answer) (plan : Plan) → IsReached script.nodes world answers plan
    → let input = input_at (cut_off script.nodes answers) script queue entries commit in
    concluded (reach_by world.nodes answers) input world plan ≡ concluded (reach_cut input world) input world plan
concluded_reached script queue entries commit world answers (Settled stepped) reached = refl
concluded_reached script queue entries commit world answers (Proposed proposal) reached =
    ap (publish_step (input_at (cut_off script.nodes answers) script queue entries commit) world proposal.new proposal.marks) reached

pub is_step : (script : Script) (queue : QueueSpec) (entries : List Entry) (commit : ℕ) (world : World) (answers : List Answer) (plan : Plan) (made : Stepped × World)
    → plan ≡ plan_for script queue entries world → IsReached script.nodes world answers plan
    → made ≡ concluded (reach_by world.nodes answers) (input_at (cut_off script.nodes answers) script queue entries commit) world plan
    → made ≡ batch_step (input_at (cut_off script.nodes answers) script queue entries commit) world
is_step script queue entries commit world answers plan made e reached is =
    let input = input_at (cut_off script.nodes answers) script queue entries commit in
    is ∙ concluded_reached script queue entries commit world answers plan reached ∙ ap (concluded (reach_cut input world) input world) e ∙ sym (step_is input world)

-- ---- the links afterwards

names_after : (prev new : ClusterState) (commits : Bool) (before after : List LinkMeaning) (answers : List Answer) → AllThree (IsDelivered prev new commits) before after answers
    → map (λ (l : LinkMeaning). l.name) after ≡ map (λ (l : LinkMeaning). l.name) before
names_after prev new commits before after answers all =
    three_by (IsDelivered prev new commits) (λ before after answers. map (λ (l : LinkMeaning). l.name) after ≡ map (λ (l : LinkMeaning). l.name) before) refl
    (λ b a answer before after answers one all rest i. (one.link i).name ∷ rest i) before after answers all

held_one : (asked took : Bool) (new held : ClusterState) (has : NodeWorld) → held ≡ has.accepted → (asked ≡ false → took ≡ false)
    → (if took then new else held) ≡ (if asked then sent_more new has took else has).accepted
held_one true true new held has e outside = refl
held_one true false new held has e outside = e
held_one false true new held has e outside = absurd (true≢false (outside refl))
held_one false false new held has e outside = e

abbrev IsHeldAfter : ClusterState → List LinkMeaning → List LinkMeaning → List Answer → Type 0
IsHeldAfter new before after answers = (have : List NodeWorld) → map (λ (l : LinkMeaning). l.held) before ≡ map (λ (n : NodeWorld). n.accepted) have
    → map (λ (l : LinkMeaning). l.held) after ≡ map (λ (n : NodeWorld). n.accepted) (nodes_after new have answers)

none_held : (new : ClusterState) → IsHeldAfter new [] [] []
none_held new [] e = refl
none_held new (has ∷ have) e = absurd (no_more has.accepted (map (λ (n : NodeWorld). n.accepted) have) e)

one_held : (prev new : ClusterState) (commits : Bool) (b a : LinkMeaning) (answer : Answer) (before after : List LinkMeaning) (answers : List Answer) → IsDelivered prev new commits b a answer
    → IsHeldAfter new before after answers → IsHeldAfter new (b ∷ before) (a ∷ after) (answer ∷ answers)
one_held prev new commits b a answer before after answers one rest [] e = absurd (no_more b.held (map (λ (l : LinkMeaning). l.held) before) (sym e))
one_held prev new commits b a answer before after answers one rest (has ∷ have) e =
    let held = some_same b.held has.accepted (ap (λ (states : List ClusterState). slice_get states 0) e) in
    let here : a.held ≡ (node_after new has answer).accepted =
    ap (λ (l : LinkMeaning). l.held) one.link ∙ held_one answer.asked answer.accepted new b.held has held (λ h. (one.outside h).0) in
    λ i. here i ∷ rest have (ap (λ (states : List ClusterState). drop 1 states) e) i

held_after : (prev new : ClusterState) (commits : Bool) (before after : List LinkMeaning) (answers : List Answer) → AllThree (IsDelivered prev new commits) before after answers
    → IsHeldAfter new before after answers
held_after prev new commits before after answers all =
    three_by (IsDelivered prev new commits) (IsHeldAfter new) (none_held new) (λ b a answer before after answers one all rest. one_held prev new commits b a answer before after answers one rest)
    before after answers all

-- the count of publications to a node, in its link and in the world
sent_one : (asked took : Bool) (new : ClusterState) (has : NodeWorld) (sent : ℕ) → sent ≡ has.sent → CanPublish has
    → (if asked then counted_up sent else sent) ≡ (if asked then sent_more new has took else has).sent
sent_one true true new has sent e few = omega arith
sent_one true false new has sent e few = omega arith
sent_one false took new has sent e few = e

abbrev IsSentAfter : ClusterState → List LinkMeaning → List LinkMeaning → List Answer → Type 0
IsSentAfter new before after answers = (have : List NodeWorld) → map (λ (l : LinkMeaning). l.sent) before ≡ map (λ (n : NodeWorld). n.sent) have → AllByRecursion CanPublish have
    → map (λ (l : LinkMeaning). l.sent) after ≡ map (λ (n : NodeWorld). n.sent) (nodes_after new have answers)

none_sent : (new : ClusterState) → IsSentAfter new [] [] []
none_sent new [] e few = refl
none_sent new (has ∷ have) e few = absurd (no_more has.sent (map (λ (n : NodeWorld). n.sent) have) e)

one_sent : (prev new : ClusterState) (commits : Bool) (b a : LinkMeaning) (answer : Answer) (before after : List LinkMeaning) (answers : List Answer) → IsDelivered prev new commits b a answer
    → IsSentAfter new before after answers → IsSentAfter new (b ∷ before) (a ∷ after) (answer ∷ answers)
one_sent prev new commits b a answer before after answers one rest [] e few = absurd (no_more b.sent (map (λ (l : LinkMeaning). l.sent) before) (sym e))
one_sent prev new commits b a answer before after answers one rest (has ∷ have) e few =
    let sent = some_same b.sent has.sent (ap (λ (counts : List ℕ). slice_get counts 0) e) in
    let here : a.sent ≡ (node_after new has answer).sent =
    ap (λ (l : LinkMeaning). l.sent) one.link
    ∙ ap (λ (asked : Bool). if asked then counted_up b.sent else b.sent) (sym (ap (λ (x : Answer). x.asked) one.told))
    ∙ sent_one answer.asked answer.accepted new has b.sent sent few.0 in
    λ i. here i ∷ rest have (ap (λ (counts : List ℕ). drop 1 counts) e) few.1 i

sent_after : (prev new : ClusterState) (commits : Bool) (before after : List LinkMeaning) (answers : List Answer) → AllThree (IsDelivered prev new commits) before after answers
    → IsSentAfter new before after answers
sent_after prev new commits before after answers all =
    three_by (IsDelivered prev new commits) (IsSentAfter new) (none_sent new) (λ b a answer before after answers one all rest. one_sent prev new commits b a answer before after answers one rest)
    before after answers all

-- the state to which the last message led
last_one : (inside : Bool) (proposals id : ℕ) (last : Option ℕ) → id ≡ proposals + 2 → WasProposed proposals last → WasProposed (proposals + 1) (if inside then Some id else last)
last_one true proposals id last fresh was = omega arith
last_one false proposals id None fresh was = tt
last_one false proposals id (Some n) fresh was = let low : n ≤ proposals + 1 = was in omega arith

last_after : (prev new : ClusterState) (commits : Bool) (proposals : ℕ) (before after : List LinkMeaning) (answers : List Answer) → new.id ≡ proposals + 2
    → AllThree (IsDelivered prev new commits) before after answers → AllByRecursion (λ (l : LinkMeaning). WasProposed proposals l.last) before
    → AllByRecursion (λ (l : LinkMeaning). WasProposed (proposals + 1) l.last) after
last_after prev new commits proposals before after answers fresh all =
    three_by (IsDelivered prev new commits)
    (λ before after answers. AllByRecursion (λ (l : LinkMeaning). WasProposed proposals l.last) before → AllByRecursion (λ (l : LinkMeaning). WasProposed (proposals + 1) l.last) after) (λ was. tt)
    (λ b a answer before after answers one all rest was. (
      subst (WasProposed (proposals + 1)) (sym (ap (λ (l : LinkMeaning). l.last) one.link)) (last_one (is_in new b) proposals new.id b.last fresh was.0),
      rest was.1,
    ))
    before after answers all

published_links : (commits : Bool) (nodes : List ScriptNode) (input : BatchInput) (world : World) (proposal : Proposal) (answers : List Answer) (after : List LinkMeaning)
    → map (λ (l : LinkMeaning). l.name) after ≡ map (λ (n : ScriptNode). n.name) nodes
    → map (λ (l : LinkMeaning). l.held) after ≡ map (λ (n : NodeWorld). n.accepted) (nodes_after proposal.new world.nodes answers)
    → map (λ (l : LinkMeaning). l.sent) after ≡ map (λ (n : NodeWorld). n.sent) (nodes_after proposal.new world.nodes answers)
    → AllByRecursion (λ (l : LinkMeaning). WasProposed (world.proposals + 1) l.last) after
    → AreLinksOf nodes (if commits then commit_step input world proposal.new proposal.marks (reach_by world.nodes answers proposal) else drop_step input world proposal.new (reach_by world.nodes answers proposal)).1 after
published_links true nodes input world proposal answers after names held sent last = record { names = names; held = held; sent = sent; last = last }
published_links false nodes input world proposal answers after names held sent last = record { names = names; held = held; sent = sent; last = last }

links_concluded : (nodes : List ScriptNode) (input : BatchInput) (world : World) (may_read : ℕ → Bool) (before after : List LinkMeaning) (sent : Sent) (plan : Plan) → AreLinksOf nodes world before
    → ProposesFresh world plan → AllByRecursion CanPublish world.nodes → IsSentFor world may_read before after sent plan
    → AreLinksOf nodes (concluded (reach_by world.nodes sent.delivery.answers) input world plan).1 after
links_concluded nodes input world may_read before after sent (Settled stepped) of fresh few sends = subst (AreLinksOf nodes world) (sym sends) of
links_concluded nodes input world may_read before after sent (Proposed proposal) of fresh few sends =
    let answers = sent.delivery.answers in
    let each = sends.delivered.each in
    published_links (does_commit proposal.new (reach_by world.nodes answers proposal)) nodes input world proposal answers after
    (names_after world.state proposal.new sent.delivery.commits before after answers each ∙ of.names)
    (held_after world.state proposal.new sent.delivery.commits before after answers each world.nodes of.held)
    (sent_after world.state proposal.new sent.delivery.commits before after answers each world.nodes of.sent few)
    (last_after world.state proposal.new sent.delivery.commits world.proposals before after answers fresh.id each of.last)

pub links_after : (script : Script) (queue : QueueSpec) (entries : List Entry) (world : World) (may_read : ℕ → Bool) (before after : List LinkMeaning) (sent : Sent) → IsScript script
    → HasRoom world → AreLinksOf script.nodes world before → IsSentFor world may_read before after sent (plan_for script queue entries world)
    → AreLinksOf script.nodes (batch_step (input_at (cut_off script.nodes sent.delivery.answers) script queue entries sent.commit) world).1 after
links_after script queue entries world may_read before after sent valid room of sends =
    let input = input_at (cut_off script.nodes sent.delivery.answers) script queue entries sent.commit in
    let plan = plan_for script queue entries world in
    let reached = is_reached script world may_read before after sent plan valid of sends in
    let same = is_step script queue entries sent.commit world sent.delivery.answers plan (concluded (reach_by world.nodes sent.delivery.answers) input world plan) refl reached refl in
    subst (λ (s : Stepped × World). AreLinksOf script.nodes s.1 after) same
    (links_concluded script.nodes input world may_read before after sent plan of (plan_fresh queue.executor (tasks_at script entries) world) room.sent sends)

-- ---- where nodes are missed as the script says

pub scripted_reached : (script : Script) (world : World) (may_read : ℕ → Bool) (before after : List LinkMeaning) (sent : Sent) (proposal : Proposal) → AreLinksOf script.nodes world before
    → IsSentFor world may_read before after sent (Proposed proposal) → AreScripted script.faults script.nodes world (Proposed proposal) sent.delivery.answers
    → reach_by world.nodes sent.delivery.answers proposal ≡ reach_of (cut_by script.faults) world.state proposal.new script.nodes world.nodes
scripted_reached script world may_read before after sent proposal of sends scripted =
    reached_cut (cut_by script.faults) script world may_read before after sent proposal of sends
    (three_map (IsScripted script.faults) (IsCut (cut_by script.faults)) (λ node has answer h asked. sym (h asked)) script.nodes world.nodes sent.delivery.answers scripted)

concluded_scripted : (script : Script) (queue : QueueSpec) (entries : List Entry) (world : World) (may_read : ℕ → Bool) (before after : List LinkMeaning) (sent : Sent) (plan : Plan) → IsScript script
    → AreLinksOf script.nodes world before → IsSentFor world may_read before after sent plan → AreScripted script.faults script.nodes world plan sent.delivery.answers
    → let off = input_at (cut_off script.nodes sent.delivery.answers) script queue entries sent.commit in
    let by = input_at (cut_by script.faults) script queue entries sent.commit in
    concluded (reach_cut off world) off world plan ≡ concluded (reach_cut by world) by world plan
concluded_scripted script queue entries world may_read before after sent (Settled stepped) valid of sends scripted = refl
concluded_scripted script queue entries world may_read before after sent (Proposed proposal) valid of sends scripted =
    ap (publish_step (input_at (cut_off script.nodes sent.delivery.answers) script queue entries sent.commit) world proposal.new proposal.marks)
    (sym (is_reached script world may_read before after sent (Proposed proposal) valid of sends) ∙ scripted_reached script world may_read before after sent proposal of sends scripted)

pub scripted_step : (script : Script) (queue : QueueSpec) (entries : List Entry) (world : World) (may_read : ℕ → Bool) (before after : List LinkMeaning) (sent : Sent) → IsScript script
    → AreLinksOf script.nodes world before → IsSentFor world may_read before after sent (plan_for script queue entries world)
    → AreScripted script.faults script.nodes world (plan_for script queue entries world) sent.delivery.answers
    → batch_step (input_at (cut_off script.nodes sent.delivery.answers) script queue entries sent.commit) world ≡ ran_at script world queue entries sent.commit
scripted_step script queue entries world may_read before after sent valid of sends scripted =
    step_is (input_at (cut_off script.nodes sent.delivery.answers) script queue entries sent.commit) world
    ∙ concluded_scripted script queue entries world may_read before after sent (plan_for script queue entries world) valid of sends scripted
    ∙ sym (step_is (input_at (cut_by script.faults) script queue entries sent.commit) world)

pub kept_over_links : (script : Script) (number : ℕ) (queue : QueueSpec) (entries : List Entry) (at : ℕ) (may_read : ℕ → Bool) (before after : List LinkMeaning) (sent : Sent) (old new : Chronicle)
    → IsScript script → slice_get script.queues number ≡ Some queue → CanJoin script old queue entries → AreLinksOf script.nodes old.world before
    → IsSentFor old.world may_read before after sent (plan_for script queue entries old.world)
    → new ≡ noted old queue entries at (batch_step (input_at (cut_off script.nodes sent.delivery.answers) script queue entries sent.commit) old.world)
    → IsKeptBook script old → AreScripted script.faults script.nodes old.world (plan_for script queue entries old.world) sent.delivery.answers → IsKeptBook script new
kept_over_links script number queue entries at may_read before after sent old new valid e joins of sends is kept scripted =
    let same = scripted_step script queue entries old.world may_read before after sent valid of sends scripted in
    subst (IsKeptBook script) (sym (is ∙ ap (noted old queue entries at) same)) (kept_join script old number queue entries at sent.commit valid kept e joins)

-- ---- what a book notes of it

-- what was concluded of what was sent, if it was
abbrev pub IsConcluded : Script → World → QueueSpec → List Entry → Plan → Conclusion → Result Sent OutOfMemory → Type 0
IsConcluded script world queue entries plan made sent =
    MatchResult sent
    (λ s. end_with made world ≡ concluded (reach_by world.nodes s.delivery.answers) (input_at (cut_off script.nodes s.delivery.answers) script queue entries s.commit) world plan)
    (λ _. ⊥)

-- a book, as its struct has it (`inside`) and as contracts see it (`book`)
pub noted_ledger : (script : Script) (inside book : Chronicle) (queue : QueueSpec) (entries : List Entry) (batch : Batch) (plan : Plan) (made : Conclusion) (sent : Result Sent OutOfMemory)
    → inside ≡ book → batch.entries ≡ entries → IsLedger inside.batches inside.world → CanJoin script book queue entries → plan ≡ plan_for script queue entries book.world
    → IfOk sent (λ s. IsReached script.nodes book.world s.delivery.answers plan) → IsConcluded script inside.world queue entries plan made sent
    → IsLedger (inside.batches ++ batch ∷ []) (world_or made.after inside.world)
noted_ledger script inside book queue entries batch plan made (Err fault) e same ledger joins is reached concluded = absurd concluded
noted_ledger script inside book queue entries batch plan made (Ok sent) e same ledger joins is reached concluded =
    let input = input_at (cut_off script.nodes sent.delivery.answers) script queue entries sent.commit in
    let step = is_step script queue entries sent.commit inside.world sent.delivery.answers plan (end_with made inside.world)
    (subst (λ (b : Chronicle). plan ≡ plan_for script queue entries b.world) (sym e) is)
    (subst (λ (b : Chronicle). IsReached script.nodes b.world sent.delivery.answers plan) (sym e) reached) concluded in
    subst (λ (s : Stepped × World). IsLedger (inside.batches ++ batch ∷ []) s.1) (sym step)
    (ledger_next inside.batches batch input inside.world (each_task script book queue entries joins ∙ ap length (sym same)) ledger)

pub noted_is : (script : Script) (inside book : Chronicle) (queue : QueueSpec) (entries : List Entry) (at : ℕ) (plan : Plan) (made : Conclusion) (sent : Result Sent OutOfMemory)
    (batches : List Batch) (ends : List TaskEnd) (world : World) → inside ≡ book
    → batches ≡ inside.batches ++ record { queue = queue.name; at = at; entries = entries; result = made.stepped.result } ∷ [] → ends ≡ made.stepped.ends
    → world ≡ world_or made.after inside.world → plan ≡ plan_for script queue entries book.world → IfOk sent (λ s. IsReached script.nodes book.world s.delivery.answers plan)
    → IsConcluded script inside.world queue entries plan made sent
    → let new : Chronicle = record { batches = batches; ends = ends; world = world } in
    MatchResult sent (λ s. new ≡ noted book queue entries at (batch_step (input_at (cut_off script.nodes s.delivery.answers) script queue entries s.commit) book.world)) (λ _. ⊥)
noted_is script inside book queue entries at plan made (Err fault) batches ends world e b n w is reached concluded = concluded
noted_is script inside book queue entries at plan made (Ok sent) batches ends world e b n w is reached concluded =
    let input = input_at (cut_off script.nodes sent.delivery.answers) script queue entries sent.commit in
    let step = is_step script queue entries sent.commit inside.world sent.delivery.answers plan (end_with made inside.world)
    (subst (λ (c : Chronicle). plan ≡ plan_for script queue entries c.world) (sym e) is)
    (subst (λ (c : Chronicle). IsReached script.nodes c.world sent.delivery.answers plan) (sym e) reached) concluded in
    let put : record { batches = batches; ends = ends; world = world } ≡ noted inside queue entries at (end_with made inside.world) =
    λ i. record { batches = b i; ends = n i; world = w i } in
    put ∙ ap (noted inside queue entries at) step ∙ (λ i. noted (e i) queue entries at (batch_step input (e i).world))

-- ---- the whole

pub reached_if : (script : Script) (world : World) (may_read : ℕ → Bool) (before after : List LinkMeaning) (sent : Result Sent OutOfMemory) (plan : Plan) → IsScript script
    → AreLinksOf script.nodes world before → IfOk sent (λ s. IsSentFor world may_read before after s plan) → IfOk sent (λ s. IsReached script.nodes world s.delivery.answers plan)
reached_if script world may_read before after (Ok sent) plan valid of sends = is_reached script world may_read before after sent plan valid of sends
reached_if script world may_read before after (Err fault) plan valid of sends = tt

is_added : (script : Script) (number : ℕ) (queue : QueueSpec) (entries : List Entry) (at : ℕ) (may_read : ℕ → Bool) (before after : List LinkMeaning) (old new : Chronicle) (plan : Plan)
    (sent : Result Sent OutOfMemory) → IsScript script → slice_get script.queues number ≡ Some queue → CanJoin script old queue entries → AreLinksOf script.nodes old.world before
    → plan ≡ plan_for script queue entries old.world → IfOk sent (λ s. IsSentFor old.world may_read before after s plan)
    → MatchResult sent (λ s. new ≡ noted old queue entries at (batch_step (input_at (cut_off script.nodes s.delivery.answers) script queue entries s.commit) old.world)) (λ _. ⊥)
    → IsAdded script number entries at may_read before after old new
is_added script number queue entries at may_read before after old new plan (Err fault) valid e joins of is sends noted_so = absurd noted_so
is_added script number queue entries at may_read before after old new plan (Ok sent) valid e joins of is sends noted_so =
    let sent_for = subst (IsSentFor old.world may_read before after sent) is sends in
    record {
      queue = queue;
      of_queue = e;
      sent = sent;
      sends = sent_for;
      book = noted_so;
      kept = kept_over_links script number queue entries at may_read before after sent old new valid e joins of sent_for noted_so;
    }

on_ok : {T E : Type 0} (P Q : Type 0) (r : Result T E) → (P → Q) → OnOk r P → OnOk r Q
on_ok P Q (Ok value) f h = f h
on_ok P Q (Err fault) f h = tt

pub added_if : {T E : Type 0} (made : Result T E) (script : Script) (number : ℕ) (queue : QueueSpec) (entries : List Entry) (at : ℕ) (may_read : ℕ → Bool) (before after : List LinkMeaning)
    (old new : Chronicle) (plan : Plan) (sent : Result Sent OutOfMemory) → IsScript script → slice_get script.queues number ≡ Some queue → CanJoinAt script old number entries
    → AreLinksOf script.nodes old.world before → plan ≡ plan_for script queue entries old.world → IfOk sent (λ s. IsSentFor old.world may_read before after s plan)
    → OnOk made (MatchResult sent (λ s. new ≡ noted old queue entries at (batch_step (input_at (cut_off script.nodes s.delivery.answers) script queue entries s.commit) old.world)) (λ _. ⊥))
    → OnOk made (IsAdded script number entries at may_read before after old new)
added_if made script number queue entries at may_read before after old new plan sent valid e joins of is sends noted_so =
    on_ok _ _ made
    (λ h. is_added script number queue entries at may_read before after old new plan sent valid e (joins_queue script old number queue entries e joins) of is sends h)
    noted_so

pub order_if : {T E : Type 0} (made : Result T E) (script : Script) (number : ℕ) (entries : List Entry) (at : ℕ) (may_read : ℕ → Bool) (before after : List LinkMeaning) (old new : Chronicle)
    → IsOrdered script old.batches → CanJoinAt script old number entries → OnOk made (IsAdded script number entries at may_read before after old new) → OnOk made (IsOrdered script new.batches)
order_if made script number entries at may_read before after old new order joins added =
    on_ok _ _ made
    (λ h. subst (λ (b : Chronicle). IsOrdered script b.batches) (sym h.book)
    (order_join script old h.queue entries at (batch_step (input_at (cut_off script.nodes h.sent.delivery.answers) script h.queue entries h.sent.commit) old.world) order
    (joins_queue script old number h.queue entries h.of_queue joins)))
    added

pub links_if : {T E : Type 0} (made : Result T E) (script : Script) (number : ℕ) (entries : List Entry) (at : ℕ) (may_read : ℕ → Bool) (before after : List LinkMeaning) (old new : Chronicle)
    → IsScript script → HasRoom old.world → AreLinksOf script.nodes old.world before → OnOk made (IsAdded script number entries at may_read before after old new)
    → OnOk made (AreLinksOf script.nodes new.world after)
links_if made script number entries at may_read before after old new valid room of added =
    on_ok _ _ made
    (λ h. subst (λ (b : Chronicle). AreLinksOf script.nodes b.world after) (sym h.book)
    (links_after script h.queue entries old.world may_read before after h.sent valid room of h.sends))
    added
