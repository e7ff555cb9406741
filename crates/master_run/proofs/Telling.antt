-- What a batch hands to each node over a link that doesn't fail: the commit that the script says, with the number of the
-- publication to this node.
use Rattle.std.specs.Prelude.{◌≡◌, ℕ, suc, ◌+◌, Bool, true, false, not, ◌&&◌, List, [], ◌∷◌, ◌++◌, drop, length, map, is_some, slice_get, Option, Some, Result, Ok, Err, OnOk, refl, if◌then◌else◌}
use Rattle.std.proofs.Common.{sym, ◌∙◌, ap, subst, append-nil, arith}
use Rattle.std.proofs.Math.Bool.{true≢false}
use Rattle.std.proofs.lemmas.List.{length-map}
use Rattle.std.specs.List.{AllByRecursion}
use Rattle.std.specs.Option.{option_map}
use Rattle.plain_data.specs.Pairs.{lookup}
use Rattle.meta_state.specs.declared.cluster_state.ClusterState.{ClusterState}
use Rattle.meta_state.specs.declared.versions.Next.{Next}
use Rattle.meta_state.specs.declared.versions.Next.TheVariants.{Same, Changed}
use Rattle.meta_state.specs.Versions.{next_of}
use Rattle.publication.specs.declared.deliveries.Answer.{Answer}
use Rattle.publication.specs.Deliveries.{IsDelivered, sent_if}
use Rattle.publication.specs.LinkMeanings.{LinkMeaning}
use Rattle.publication.specs.Threes.{AllThree}
use Rattle.publication.proofs.Threes.{three_by, three_first}
use Rattle.executors.specs.declared.contexts.Mark.{Mark}
use Rattle.executors.specs.declared.executions.Executed.{Executed}
use Rattle.executors.specs.declared.executions.Executed.TheVariants.{Made, Failed}
use Rattle.executors.specs.declared.kinds.Kind.{Kind}
use Rattle.executors.specs.declared.tasks.Task.{Task}
use Rattle.executors.specs.Contexts.{numbered}
use Rattle.executors.specs.Executions.{executed}
use Rattle.executors.specs.Kinds.{needs_master}
use Rattle.scripts.specs.declared.queues.QueueSpec.{QueueSpec}
use Rattle.scripts.specs.declared.whole_script.Script.{Script}
use Rattle.scripts.specs.declared.whole_script.ScriptNode.{ScriptNode}
use Rattle.scripts.specs.Scripts.{IsScript}
use Rattle.session_law.specs.declared.batches.Batch.{Batch}
use Rattle.session_law.specs.declared.batches.BatchResult.TheVariants as result
use Rattle.session_law.specs.declared.batches.Entry.{Entry}
use Rattle.session_law.specs.declared.task_ends.TaskEnd.TheVariants as end
use Rattle.session_law.specs.declared.worlds.NodeWorld.{NodeWorld}
use Rattle.session_law.specs.declared.worlds.Reach.{Reach}
use Rattle.session_law.specs.declared.worlds.Stepped.{Stepped}
use Rattle.session_law.specs.declared.worlds.World.{World}
use Rattle.session_law.specs.BatchSteps.{BatchInput, all_end, batch_step, commit_step, drop_step}
use Rattle.session_law.specs.Committed.{is_published}
use Rattle.session_law.specs.Histories.{SteppedBatch, tasks_at}
use Rattle.session_law.specs.NodeRecords.{Commit, commit_to, is_handed, is_handed_on, sent_to}
use Rattle.session_law.specs.Publications.{does_commit, fault_at}
use Rattle.master_run.specs.declared.plans.Plan.{Plan}
use Rattle.master_run.specs.declared.plans.Plan.TheVariants.{Settled, Proposed}
use Rattle.master_run.specs.declared.plans.Proposal.{Proposal}
use Rattle.master_run.specs.declared.sendings.Sent.{Sent}
use Rattle.master_run.specs.Books.{Chronicle, IsAdded, input_at, last_batch, last_stepped, noted, plan_for}
use Rattle.master_run.specs.Nodes.{handed_of}
use Rattle.master_run.specs.Passing.{AreTold, IsTold}
use Rattle.master_run.specs.Plans.{concluded, plan_executed, plan_next, plan_of}
use Rattle.master_run.specs.Reaches.{cut_off, reach_by}
use Rattle.master_run.specs.Sendings.{AreLinksOf, IsSentFor}
use Rattle.master_run.proofs.Adding.{is_reached, is_step}
use Rattle.master_run.proofs.Alls.{either}
use Rattle.master_run.proofs.Distinct.{sent_at}
use Rattle.master_run.proofs.Handing.{handed_plain}
use Rattle.master_run.proofs.Keeping.{some_same}
use Rattle.master_run.proofs.Linking.{IsSure}
use Rattle.master_run.proofs.Reaching.{no_more}

-- ---- the last batch of a book

last_batch_pushed : (batches : List Batch) (batch : Batch) → last_batch (batches ++ batch ∷ []) ≡ Some batch
last_batch_pushed [] batch = refl
last_batch_pushed (first ∷ []) batch = refl
last_batch_pushed (first ∷ next ∷ more) batch = last_batch_pushed (next ∷ more) batch

-- a batch as it is noted, with its step
abbrev stepped_so : QueueSpec → List Entry → ℕ → Stepped × World → SteppedBatch
stepped_so queue entries at step = record {
  batch = record { queue = queue.name; at = at; entries = entries; result = step.0.result };
  stepped = record { result = step.0.result; ends = step.0.ends };
  world = step.1;
}

last_noted : (old : Chronicle) (queue : QueueSpec) (entries : List Entry) (at : ℕ) (step : Stepped × World)
    → last_stepped (noted old queue entries at step) ≡ Some (stepped_so queue entries at step)
last_noted old queue entries at step =
    let batch : Batch = record { queue = queue.name; at = at; entries = entries; result = step.0.result } in
    ap (λ (b : Option Batch). option_map (λ (b : Batch). record { batch = b; stepped = record { result = b.result; ends = step.0.ends }; world = step.1 }) b) (last_batch_pushed old.batches batch)

-- ---- what is settled isn't published, and hands nothing

abbrev IsNotPublished : Plan → Type 0
IsNotPublished (Settled stepped) = is_published stepped.result ≡ false
IsNotPublished (Proposed proposal) = Unit {0}

next_not_published : (world : World) (marks : List Mark) (next : Next) → IsNotPublished (plan_next world marks next)
next_not_published world marks Same = refl
next_not_published world marks (Changed new) = tt

executed_not_published : (count : ℕ) (world : World) (made : Executed) → IsNotPublished (plan_executed count world made)
executed_not_published count world (Failed position refusal) = refl
executed_not_published count world (Made state marks) = next_not_published world marks (next_of world.state state (world.proposals + 2))

plan_not_published : (kind : Kind) (tasks : List Task) (world : World) → IsNotPublished (plan_of kind tasks world)
unfolding plan_of
plan_not_published kind tasks world =
    either IsNotPublished (needs_master kind && not world.in_office) (Settled (record { result = result.NotMaster; ends = all_end end.NotMaster (length tasks) }))
    (plan_executed (length tasks) world (executed kind world.state (numbered 0 tasks))) refl (executed_not_published (length tasks) world (executed kind world.state (numbered 0 tasks)))

none_if : {A : Type 0} (b c : Bool) (x : A) → b ≡ false → (if b && c then x ∷ [] else []) ≡ []
none_if true c x e = absurd (true≢false e)
none_if false c x e = refl

none_handed : (script : Script) (name : List ℕ) (s : SteppedBatch) → is_published s.stepped.result ≡ false → handed_of script name (Some s) ≡ []
none_handed script name s e =
    none_if (is_published s.stepped.result) (is_some (lookup name s.world.state.nodes) && is_handed_on (fault_at script.faults name (sent_to script name s.world))) (commit_to script name s) e

told_none : (script : Script) (s : Option SteppedBatch) (node : ScriptNode) (link : LinkMeaning) → handed_of script node.name s ≡ [] → IsTold script s node link link
told_none script s node link none = record {
  name = refl;
  handed = sym (ap (λ (l : List Commit). link.handed ++ map (λ c. c.state) l) none ∙ append-nil link.handed);
  numbers = sym (ap (λ (l : List Commit). link.numbers ++ map (λ c. c.publication) l) none ∙ append-nil link.numbers);
  base = refl;
}

all_told_none : (script : Script) (s : Option SteppedBatch) (nodes : List ScriptNode) (links : List LinkMeaning) → map (λ (l : LinkMeaning). l.name) links ≡ map (λ (n : ScriptNode). n.name) nodes
    → ((name : List ℕ) → handed_of script name s ≡ []) → AllThree (IsTold script s) nodes links links
all_told_none script s [] [] e none = tt
all_told_none script s [] (link ∷ links) e none = absurd (no_more link.name (map (λ (l : LinkMeaning). l.name) links) (sym e))
all_told_none script s (node ∷ nodes) [] e none = absurd (no_more node.name (map (λ (n : ScriptNode). n.name) nodes) e)
all_told_none script s (node ∷ nodes) (link ∷ links) e none =
    (told_none script s node link (none node.name), all_told_none script s nodes links (ap (λ (names : List (List ℕ)). drop 1 names) e) none)

-- ---- what is proposed

-- over a link that doesn't fail, the node of a new state is handed it exactly where it commits
got_true : (asked took commits : Bool) → (asked ≡ false → took ≡ false) → (commits ≡ true) × (took ≡ true) → true ≡ (commits && asked)
got_true true took commits outside both = sym (ap (λ (b : Bool). b && true) both.0)
got_true false took commits outside both = absurd (true≢false (sym both.1 ∙ outside refl))

got_by : (asked took got commits : Bool) → (asked ≡ false → took ≡ false) → (asked ≡ true → took ≡ false → ⊥) → (got ≡ true → (commits ≡ true) × (took ≡ true))
    → (commits ≡ true → took ≡ true → got ≡ false → ⊥) → got ≡ (commits && asked)
got_by asked took true commits outside missed committed lost = got_true asked took commits outside (committed refl)
got_by true true false true outside missed committed lost = absurd (lost refl refl refl)
got_by true false false true outside missed committed lost = absurd (missed refl refl)
got_by false took false true outside missed committed lost = refl
got_by asked took false false outside missed committed lost = refl

and_if : (c f g : Bool) → (c ≡ true → f ≡ g) → (c && f) ≡ (c && g)
and_if true f g same = same refl
and_if false f g same = refl

-- a batch as it was stepped with a proposal that commits or not
record IsOf (s : SteppedBatch) (new : ClusterState) (commits : Bool) : Type 0 where
  published : is_published s.stepped.result ≡ commits
  state : commits ≡ true → s.world.state ≡ new

handed_is : (script : Script) (s : SteppedBatch) (prev new : ClusterState) (commits : Bool) (node : ScriptNode) (before after : LinkMeaning) (answer : Answer) → script.faults ≡ []
    → IsOf s new commits → IsSure prev new commits before after answer → before.name ≡ node.name → answer.handed ≡ is_handed script node.name s
handed_is script s prev new commits node before after answer none of sure name =
    let is = sure.1 in
    let asked : answer.asked ≡ is_some (lookup node.name new.nodes) =
    ap (λ (a : Answer). a.asked) is.told ∙ ap (λ (n : List ℕ). is_some (lookup n new.nodes)) name in
    got_by answer.asked answer.accepted answer.handed commits (λ h. (is.outside h).0) (λ h n. true≢false (sym sure.0 ∙ (is.missed h n).can)) is.committed
    (λ c h n. true≢false (sym sure.0 ∙ (is.lost c h n).can))
    ∙ ap (λ (b : Bool). commits && b) asked
    ∙ and_if commits (is_some (lookup node.name new.nodes)) (is_some (lookup node.name s.world.state.nodes))
    (λ c. ap (λ (t : ClusterState). is_some (lookup node.name t.nodes)) (sym (of.state c)))
    ∙ ap (λ (b : Bool). b && is_some (lookup node.name s.world.state.nodes)) (sym of.published)
    ∙ sym (handed_plain script node.name s none)

one_more : {A : Type 0} (got : Bool) (xs : List A) (x : A) (read : Commit → A) (commit : Commit) → (got ≡ true → x ≡ read commit)
    → (if got then xs ++ x ∷ [] else xs) ≡ xs ++ map read (if got then commit ∷ [] else [])
one_more true xs x read commit same = ap (λ y. xs ++ y ∷ []) (same refl)
one_more false xs x read commit same = sym (append-nil xs)

told_one : (script : Script) (s : SteppedBatch) (prev new : ClusterState) (commits : Bool) (node : ScriptNode) (before after : LinkMeaning) (answer : Answer) → script.faults ≡ []
    → IsOf s new commits → IsSure prev new commits before after answer → before.name ≡ node.name → after.sent ≡ sent_to script node.name s.world → IsTold script (Some s) node before after
told_one script s prev new commits node before after answer none of sure name count =
    let is = sure.1 in
    let commit = commit_to script node.name s in
    let got = handed_is script s prev new commits node before after answer none of sure name in
    let number : sent_if new before ≡ commit.publication = sym (ap (λ (l : LinkMeaning). l.sent) is.link) ∙ count in
    record {
      name = ap (λ (l : LinkMeaning). l.name) is.link;
      handed = ap (λ (l : LinkMeaning). l.handed) is.link
          ∙ one_more answer.handed before.handed new (λ c. c.state) commit (λ h. sym (of.state (is.committed h).0))
          ∙ ap (λ (h : Bool). before.handed ++ map (λ (c : Commit). c.state) (if h then commit ∷ [] else [])) got;
      numbers = ap (λ (l : LinkMeaning). l.numbers) is.link
          ∙ one_more answer.handed before.numbers (sent_if new before) (λ c. c.publication) commit (λ h. number)
          ∙ ap (λ (h : Bool). before.numbers ++ map (λ (c : Commit). c.publication) (if h then commit ∷ [] else [])) got;
      base = ap (λ (l : LinkMeaning). l.base) is.link;
    }

-- all links, with the counts of publications that they have then
abbrev AreToldOf : Script → SteppedBatch → List LinkMeaning → List LinkMeaning → List Answer → Type 0
AreToldOf script s before after answers = (nodes : List ScriptNode) → map (λ (l : LinkMeaning). l.name) before ≡ map (λ (n : ScriptNode). n.name) nodes
    → map (λ (l : LinkMeaning). l.sent) after ≡ map (λ (n : ScriptNode). sent_to script n.name s.world) nodes → AllThree (IsTold script (Some s)) nodes before after

none_told : (script : Script) (s : SteppedBatch) → AreToldOf script s [] [] []
none_told script s [] e f = tt
none_told script s (node ∷ nodes) e f = absurd (no_more node.name (map (λ (n : ScriptNode). n.name) nodes) e)

next_told : (script : Script) (s : SteppedBatch) (prev new : ClusterState) (commits : Bool) (b a : LinkMeaning) (answer : Answer) (before after : List LinkMeaning) (answers : List Answer)
    → script.faults ≡ [] → IsOf s new commits → IsSure prev new commits b a answer → AreToldOf script s before after answers → AreToldOf script s (b ∷ before) (a ∷ after) (answer ∷ answers)
next_told script s prev new commits b a answer before after answers none of sure rest [] e f = absurd (no_more b.name (map (λ (l : LinkMeaning). l.name) before) (sym e))
next_told script s prev new commits b a answer before after answers none of sure rest (node ∷ nodes) e f = (
  told_one script s prev new commits node b a answer none of sure (some_same b.name node.name (ap (λ (names : List (List ℕ)). slice_get names 0) e))
      (some_same a.sent (sent_to script node.name s.world) (ap (λ (counts : List ℕ). slice_get counts 0) f)),
  rest nodes (ap (λ (names : List (List ℕ)). drop 1 names) e) (ap (λ (counts : List ℕ). drop 1 counts) f),
)

all_told : (script : Script) (s : SteppedBatch) (prev new : ClusterState) (commits : Bool) (before after : List LinkMeaning) (answers : List Answer) → script.faults ≡ [] → IsOf s new commits
    → AllThree (IsSure prev new commits) before after answers → AreToldOf script s before after answers
all_told script s prev new commits before after answers none of all =
    three_by (IsSure prev new commits) (AreToldOf script s) (none_told script s)
    (λ b a answer before after answers one all rest. next_told script s prev new commits b a answer before after answers none of one rest) before after answers all

-- ---- the counts, by the names of the nodes

same_places : {A B C : Type 0} (f : A → C) (g : B → C) (xs : List A) (ys : List B) → length xs ≡ length ys
    → ((n : ℕ) (x : A) (y : B) → slice_get xs n ≡ Some x → slice_get ys n ≡ Some y → f x ≡ g y) → map f xs ≡ map g ys
same_places f g [] [] long same = refl
same_places f g [] (y ∷ ys) long same = absurd (omega arith)
same_places f g (x ∷ xs) [] long same = absurd (omega arith)
same_places f g (x ∷ xs) (y ∷ ys) long same = λ i. same 0 x y refl refl i ∷ same_places f g xs ys (omega arith) (λ n a b e h. same (suc n) a b e h) i

counts_named : (script : Script) (world : World) (links : List LinkMeaning) → IsScript script → AreLinksOf script.nodes world links
    → map (λ (l : LinkMeaning). l.sent) links ≡ map (λ (n : ScriptNode). sent_to script n.name world) script.nodes
counts_named script world links valid of =
    let counted : length links ≡ length world.nodes =
    sym (length-map links (λ (l : LinkMeaning). l.sent)) ∙ ap (λ (counts : List ℕ). length counts) of.sent ∙ length-map world.nodes (λ (n : NodeWorld). n.sent) in
    let named : length links ≡ length script.nodes =
    sym (length-map links (λ (l : LinkMeaning). l.name)) ∙ ap (λ (names : List (List ℕ)). length names) of.names ∙ length-map script.nodes (λ (n : ScriptNode). n.name) in
    of.sent
    ∙ same_places (λ (n : NodeWorld). n.sent) (λ (n : ScriptNode). sent_to script n.name world) world.nodes script.nodes (sym counted ∙ named)
    (λ number has node e f. sym (sent_at script world number node has valid f e))

-- ---- the batch

published_of : (commits : Bool) (queue : QueueSpec) (entries : List Entry) (at : ℕ) (input : BatchInput) (world : World) (proposal : Proposal) (reach : Reach)
    → IsOf (stepped_so queue entries at (if commits then commit_step input world proposal.new proposal.marks reach else drop_step input world proposal.new reach)) proposal.new commits
published_of true queue entries at input world proposal reach = record { published = refl; state = λ c. refl }
published_of false queue entries at input world proposal reach = record { published = refl; state = λ c. absurd (true≢false (sym c)) }

-- by its plan, once the nodes have answered
abbrev concluded_so : Script → QueueSpec → List Entry → World → Sent → Plan → Stepped × World
concluded_so script queue entries world sent plan =
    concluded (reach_by world.nodes sent.delivery.answers) (input_at (cut_off script.nodes sent.delivery.answers) script queue entries sent.commit) world plan

told_by_plan : (script : Script) (queue : QueueSpec) (entries : List Entry) (at : ℕ) (world : World) (may_read : ℕ → Bool) (before after : List LinkMeaning) (sent : Sent) (plan : Plan) → IsScript script
    → script.faults ≡ [] → AreLinksOf script.nodes world before → AllByRecursion (λ l. l.reliable ≡ true) before → IsNotPublished plan → IsSentFor world may_read before after sent plan
    → AreLinksOf script.nodes (concluded_so script queue entries world sent plan).1 after
    → AreTold script (Some (stepped_so queue entries at (concluded_so script queue entries world sent plan))) before after
told_by_plan script queue entries at world may_read before after sent (Settled stepped) valid none of sure not sends now =
    let s = stepped_so queue entries at (stepped, world) in
    subst (λ (links : List LinkMeaning). AreTold script (Some s) before links) (sym sends)
    (all_told_none script (Some s) script.nodes before of.names (λ name. none_handed script name s not))
told_by_plan script queue entries at world may_read before after sent (Proposed proposal) valid none of sure not sends now =
    let answers = sent.delivery.answers in
    let input = input_at (cut_off script.nodes answers) script queue entries sent.commit in
    let reach = reach_by world.nodes answers proposal in
    let commits = does_commit proposal.new reach in
    let step = if commits then commit_step input world proposal.new proposal.marks reach else drop_step input world proposal.new reach in
    let s = stepped_so queue entries at step in
    let each = subst (λ (c : Bool). AllThree (IsDelivered world.state proposal.new c) before after answers) sends.delivered.commits sends.delivered.each in
    all_told script s world.state proposal.new commits before after answers none (published_of commits queue entries at input world proposal reach)
    (three_first (λ (l : LinkMeaning). l.reliable ≡ true) (IsDelivered world.state proposal.new commits) before after answers sure each) script.nodes of.names
    (counts_named script step.1 after valid now)

pub told_by_batch : (script : Script) (number : ℕ) (entries : List Entry) (at : ℕ) (may_read : ℕ → Bool) (before after : List LinkMeaning) (old new : Chronicle) → IsScript script
    → script.faults ≡ [] → AreLinksOf script.nodes old.world before → AllByRecursion (λ l. l.reliable ≡ true) before → IsAdded script number entries at may_read before after old new
    → AreLinksOf script.nodes new.world after → AreTold script (last_stepped new) before after
told_by_batch script number entries at may_read before after old new valid none of sure is now =
    let queue = is.queue in
    let answers = is.sent.delivery.answers in
    let input = input_at (cut_off script.nodes answers) script queue entries is.sent.commit in
    let plan = plan_for script queue entries old.world in
    let made = concluded_so script queue entries old.world is.sent plan in
    let reached = is_reached script old.world may_read before after is.sent plan valid of is.sends in
    let same : made ≡ batch_step input old.world = is_step script queue entries is.sent.commit old.world answers plan made refl reached refl in
    let book : new ≡ noted old queue entries at made = is.book ∙ ap (noted old queue entries at) (sym same) in
    subst (λ (s : Option SteppedBatch). AreTold script s before after) (sym (ap last_stepped book ∙ last_noted old queue entries at made))
    (told_by_plan script queue entries at old.world may_read before after is.sent plan valid none of sure (plan_not_published queue.executor (tasks_at script entries) old.world) is.sends
    (subst (λ (b : Chronicle). AreLinksOf script.nodes b.world after) book now))

on_both : {T E P Q R : Type 0} (r : Result T E) → (P → Q → R) → OnOk r P → OnOk r Q → OnOk r R
on_both (Ok value) f p q = f p q
on_both (Err fault) f p q = tt

pub told_if : {T E : Type 0} (made : Result T E) (script : Script) (number : ℕ) (entries : List Entry) (at : ℕ) (may_read : ℕ → Bool) (before after : List LinkMeaning) (old new : Chronicle)
    → IsScript script → script.faults ≡ [] → AreLinksOf script.nodes old.world before → AllByRecursion (λ l. l.reliable ≡ true) before
    → OnOk made (IsAdded script number entries at may_read before after old new) → OnOk made (AreLinksOf script.nodes new.world after) → OnOk made (AreTold script (last_stepped new) before after)
told_if made script number entries at may_read before after old new valid none of sure added now =
    on_both made (told_by_batch script number entries at may_read before after old new valid none of sure) added now
