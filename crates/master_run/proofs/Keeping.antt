-- A book stays kept where a batch of its script's own entries joins it, each apart from all before it.
use Rattle.std.specs.Prelude.{◌≡◌, ℕ, zero, suc, ◌+◌, ◌<◌, ◌≤◌, Bool, true, false, not, ◌==◌, ◌&&◌, ◌||◌, List, [], ◌∷◌, ◌++◌, length, map, fold, Some, None, slice_get, bytes_eq, refl, if◌then◌else◌}
use Rattle.std.proofs.Common.{sym, ◌∙◌, ap, subst, arith, append-nil}
use Rattle.std.proofs.lemmas.Grind.{flat_map-append}
use Rattle.std.proofs.Math.Bool.{true≢false}
use Rattle.std.specs.Cmp.{unsigned_Decides}
use Rattle.std.specs.List.{AllByRecursion, list_any}
use Rattle.std.specs.Cmp.Lexicographic.{bytes_decides}
use Rattle.meta_state.specs.declared.cluster_state.ClusterState.{ClusterState}
use Rattle.meta_state.specs.declared.versions.Next.{Next}
use Rattle.meta_state.specs.declared.versions.Next.TheVariants.{Same, Changed}
use Rattle.meta_state.specs.Versions.{next_of}
use Rattle.executors.specs.declared.contexts.Mark.{Mark}
use Rattle.executors.specs.declared.executions.Executed.{Executed}
use Rattle.executors.specs.declared.executions.Executed.TheVariants.{Made, Failed}
use Rattle.executors.specs.declared.kinds.Kind.{Kind}
use Rattle.scripts.specs.declared.queues.QueueSpec.{QueueSpec}
use Rattle.scripts.specs.declared.whole_script.Script.{Script}
use Rattle.executors.specs.Contexts.{numbered}
use Rattle.executors.specs.Executions.{executed}
use Rattle.executors.specs.Kinds.{needs_master}
use Rattle.scripts.specs.Names.{are_distinct}
use Rattle.scripts.specs.Scripts.{IsScript}
use Rattle.session_law.specs.declared.batches.Batch.{Batch}
use Rattle.session_law.specs.declared.batches.Entry.{Entry}
use Rattle.session_law.specs.declared.worlds.Reach.{Reach}
use Rattle.session_law.specs.declared.worlds.Stepped.{Stepped}
use Rattle.session_law.specs.declared.worlds.World.{World}
use Rattle.session_law.specs.Histories.{AreApart, AreSeen, IsApart, IsOrdered, IsOwn, Queued, SteppedBatch, after, commit_of, history_on, kind_named, queued_in, queued_of, stepped, tasks_at, world_after}
use Rattle.session_law.specs.Publications.{cut_by, does_commit, reach_of}
use Rattle.session_law.specs.BatchSteps.{BatchInput, batch_step, commit_step, drop_step, executed_step, next_step, refused_step}
use Rattle.session_law.specs.Worlds.{first_world}
use Rattle.master_run.specs.Books.{CanJoin, Chronicle, IsKeptBook, first_book, input_at, noted, ran_at}
use Rattle.master_run.proofs.Alls.{all_append, all_by, all_push}

-- ---- tests and options

pub some_same : {A : Type 0} (a b : A) → Some a ≡ Some b → a ≡ b
some_same a b e = cc

pub no_some : {A : Type 0} (a : A) → None ≡ Some a → ⊥
no_some a e = cc

pub or_right : (a b : Bool) → b ≡ true → (a || b) ≡ true
or_right true b e = refl
or_right false b e = e

pub or_left : (a b : Bool) → a ≡ true → (a || b) ≡ true
or_left true b e = refl
or_left false b e = absurd (true≢false (sym e))

pub same_number : (n : ℕ) → (n == n) ≡ true
same_number n = (unsigned_Decides n n).1 refl

pub not_true : (a : Bool) → not a ≡ true → a ≡ false
not_true false e = refl
not_true true e = absurd (true≢false (sym e))

pub false_from : (b : Bool) → (b ≡ true → ⊥) → b ≡ false
false_from true never = absurd (never refl)
false_from false never = refl

pub both_first : (a b : Bool) → (a && b) ≡ true → a ≡ true
both_first true b e = refl
both_first false b e = absurd (true≢false (sym e))

pub neither : (a b : Bool) → (a || b) ≡ false → (a ≡ false) × (b ≡ false)
neither true b e = absurd (true≢false e)
neither false b e = (refl, e)

pub both_second : (a b : Bool) → (a && b) ≡ true → b ≡ true
both_second true b e = e
both_second false b e = absurd (true≢false (sym e))

-- ---- the first queue of a name is the one at its place, since the names are distinct

any_at : (queues : List QueueSpec) (number : ℕ) (queue : QueueSpec) (name : List ℕ) → slice_get queues number ≡ Some queue → bytes_eq name queue.name ≡ true
    → list_any (bytes_eq name) (map (λ q. q.name) queues) ≡ true
any_at [] number queue name e h = absurd (no_some queue e)
any_at (q ∷ queues) zero queue name e h = or_left _ _ (ap (λ (s : QueueSpec). bytes_eq name s.name) (some_same q queue e) ∙ h)
any_at (q ∷ queues) (suc n) queue name e h = or_right _ _ (any_at queues n queue name e h)

named_next : (b : Bool) (executor : Kind) (rest : Kind) (wanted : Kind) → (b ≡ true → ⊥) → rest ≡ wanted → (if b then executor else rest) ≡ wanted
named_next true executor rest wanted never e = absurd (never refl)
named_next false executor rest wanted never e = e

named_first : (b : Bool) (executor rest wanted : Kind) → b ≡ true → executor ≡ wanted → (if b then executor else rest) ≡ wanted
named_first true executor rest wanted holds e = e
named_first false executor rest wanted holds e = absurd (true≢false (sym holds))

pub bytes_turn : (a b : List ℕ) → bytes_eq a b ≡ true → bytes_eq b a ≡ true
bytes_turn a b h = (bytes_decides b a).1 (sym ((bytes_decides a b).0 h))

pub named_kind : (queues : List QueueSpec) (number : ℕ) (queue : QueueSpec) → are_distinct (map (λ q. q.name) queues) ≡ true → slice_get queues number ≡ Some queue
    → kind_named queues queue.name ≡ queue.executor
named_kind [] number queue d e = absurd (no_some queue e)
named_kind (q ∷ queues) zero queue d e =
    let same = some_same q queue e in
    named_first (bytes_eq queue.name q.name) q.executor (kind_named queues queue.name) queue.executor
    ((bytes_decides queue.name q.name).1 (ap (λ (s : QueueSpec). s.name) (sym same))) (ap (λ (s : QueueSpec). s.executor) same)
named_kind (q ∷ queues) (suc n) queue d e =
    let apart : list_any (bytes_eq q.name) (map (λ q. q.name) queues) ≡ false = not_true _ (both_first _ _ d) in
    named_next (bytes_eq queue.name q.name) q.executor (kind_named queues queue.name) queue.executor
    (λ h. true≢false (sym (any_at queues n queue q.name e (bytes_turn queue.name q.name h)) ∙ apart))
    (named_kind queues n queue (both_second _ _ d) e)

pub names_apart : (queues : List QueueSpec) (i j : ℕ) (a b : QueueSpec) → are_distinct (map (λ q. q.name) queues) ≡ true → slice_get queues i ≡ Some a → slice_get queues j ≡ Some b
    → bytes_eq a.name b.name ≡ true → i ≡ j
names_apart [] i j a b d e f h = absurd (no_some a e)
names_apart (q ∷ queues) zero zero a b d e f h = refl
names_apart (q ∷ queues) zero (suc j) a b d e f h =
    let apart : list_any (bytes_eq q.name) (map (λ q. q.name) queues) ≡ false = not_true _ (both_first _ _ d) in
    let same : bytes_eq q.name b.name ≡ true = ap (λ (s : QueueSpec). bytes_eq s.name b.name) (some_same q a e) ∙ h in
    absurd (true≢false (sym (any_at queues j b q.name f same) ∙ apart))
names_apart (q ∷ queues) (suc i) zero a b d e f h =
    let apart : list_any (bytes_eq q.name) (map (λ q. q.name) queues) ≡ false = not_true _ (both_first _ _ d) in
    let same : bytes_eq q.name a.name ≡ true = ap (λ (s : QueueSpec). bytes_eq s.name a.name) (some_same q b f) ∙ bytes_turn a.name b.name h in
    absurd (true≢false (sym (any_at queues i a q.name e same) ∙ apart))
names_apart (q ∷ queues) (suc i) (suc j) a b d e f h = ap suc (names_apart queues i j a b (both_second _ _ d) e f h)

-- ---- a batch is the same again at the reading at which it committed

-- the input of a batch, with another reading
abbrev with_reading : BatchInput → ℕ → BatchInput
with_reading input at = record input { commit = at }

publish_again : (commits : Bool) (input : BatchInput) (at : ℕ) (world : World) (new : ClusterState) (marks : List Mark) (reach : Reach)
    → let at_reading : ℕ → Stepped × World = λ c. if commits then commit_step (with_reading input c) world new marks reach else drop_step (with_reading input c) world new reach in
    at_reading (commit_of (at_reading at).0.result) ≡ at_reading at
publish_again true input at world new marks reach = refl
publish_again false input at world new marks reach = refl

next_again : (input : BatchInput) (at : ℕ) (world : World) (marks : List Mark) (next : Next)
    → next_step (with_reading input (commit_of (next_step (with_reading input at) world marks next).0.result)) world marks next ≡ next_step (with_reading input at) world marks next
next_again input at world marks Same = refl
next_again input at world marks (Changed new) =
    let reach = reach_of input.cut world.state new input.nodes world.nodes in
    publish_again (does_commit new reach) input at world new marks reach

executed_again : (input : BatchInput) (at : ℕ) (world : World) (made : Executed)
    → executed_step (with_reading input (commit_of (executed_step (with_reading input at) world made).0.result)) world made ≡ executed_step (with_reading input at) world made
executed_again input at world (Failed position refusal) = refl
executed_again input at world (Made state marks) = next_again input at world marks (next_of world.state state (world.proposals + 2))

office_again : (refused : Bool) (none some : ℕ → Stepped × World) (at : ℕ) → none (commit_of (none at).0.result) ≡ none at → some (commit_of (some at).0.result) ≡ some at
    → let at_reading : ℕ → Stepped × World = λ c. if refused then none c else some c in
    at_reading (commit_of (at_reading at).0.result) ≡ at_reading at
office_again true none some at e f = e
office_again false none some at e f = f

step_again : (input : BatchInput) (at : ℕ) (world : World)
    → batch_step (with_reading input (commit_of (batch_step (with_reading input at) world).0.result)) world ≡ batch_step (with_reading input at) world
unfolding batch_step
step_again input at world =
    let made = executed input.kind world.state (numbered 0 input.tasks) in
    office_again (needs_master input.kind && not world.in_office) (λ c. refused_step (with_reading input c) world) (λ c. executed_step (with_reading input c) world made) at
    refl (executed_again input at world made)

-- ---- one more at the back

abbrev HasComputed : SteppedBatch → Type 0
HasComputed s = s.batch.result ≡ s.stepped.result

results_push : (script : Script) (world : World) (batches : List Batch) (batch : Batch) → AllByRecursion HasComputed (history_on script world batches)
    → batch.result ≡ (stepped script (fold (after script) world batches) batch).0.result → AllByRecursion HasComputed (history_on script world (batches ++ batch ∷ []))
results_push script world [] batch all e = (e, tt)
results_push script world (first ∷ batches) batch all e = (all.0, results_push script (after script world first) batches batch all.1 e)

pub apart_append : (all more : List Queued) → AreApart all → AreApart more → AllByRecursion (λ later. AllByRecursion (λ before. IsApart before later) all) more
    → AreApart (all ++ more)
apart_append [] more apart among cross = among
apart_append (first ∷ all) more apart among cross = (
  all_append (IsApart first) all more apart.0 (all_by (λ later. AllByRecursion (λ before. IsApart before later) (first ∷ all)) (IsApart first) (λ later h. h.0) more cross),
  apart_append all more apart.1 among
      (all_by (λ later. AllByRecursion (λ before. IsApart before later) (first ∷ all)) (λ later. AllByRecursion (λ before. IsApart before later) all) (λ later h. h.1) more cross),
)

seen_push : (number : ℕ) (batches : List Batch) (batch : Batch) → AreSeen number batches → AllByRecursion (λ e. e.seen < number + length batches) batch.entries
    → AreSeen number (batches ++ batch ∷ [])
seen_push number [] batch seen h = (all_by (λ (e : Entry). e.seen < number + 0) (λ (e : Entry). e.seen < number) (λ e less. omega arith) batch.entries h, tt)
seen_push number (first ∷ batches) batch seen h = (
  seen.0,
  seen_push (number + 1) batches batch seen.1
      (all_by (λ (e : Entry). e.seen < number + length (first ∷ batches)) (λ (e : Entry). e.seen < number + 1 + length batches) (λ e less. omega arith) batch.entries h),
)

world_push : (script : Script) (world : World) (batches : List Batch) (batch : Batch) → fold (after script) world (batches ++ batch ∷ []) ≡ after script (fold (after script) world batches) batch
world_push script world [] batch = refl
world_push script world (first ∷ batches) batch = world_push script (after script world first) batches batch

pub placed_push : (batches : List Batch) (batch : Batch) → queued_of (batches ++ batch ∷ []) ≡ queued_of batches ++ queued_in batch
placed_push batches batch = flat_map-append queued_in batches (batch ∷ []) ∙ ap (λ l. queued_of batches ++ l) (append-nil (queued_in batch))

-- ---- the whole

pub kept_first : (script : Script) → IsKeptBook script (first_book script)
kept_first script = record { serial = record { results = tt; order = record { filled = tt; own = tt; apart = tt; seen = tt } }; world = refl }

-- with entries that may join, a book is in order still, whatever came of them
pub order_join : (script : Script) (book : Chronicle) (queue : QueueSpec) (entries : List Entry) (at : ℕ) (step : Stepped × World) → IsOrdered script book.batches → CanJoin script book queue entries
    → IsOrdered script (noted book queue entries at step).batches
order_join script book queue entries at step order joins =
    let batch : Batch = record { queue = queue.name; at = at; entries = entries; result = step.0.result } in
    record {
      filled = all_push (λ (b : Batch). 0 < length b.entries) book.batches batch order.filled joins.some;
      own = subst (AllByRecursion (IsOwn script)) (sym (placed_push book.batches batch)) (all_append (IsOwn script) (queued_of book.batches) (queued_in batch) order.own joins.own);
      apart = subst AreApart (sym (placed_push book.batches batch)) joins.apart;
      seen = seen_push 1 book.batches batch order.seen
          (all_by (λ (e : Entry). e.seen ≤ length book.batches) (λ (e : Entry). e.seen < 1 + length book.batches) (λ e less. omega arith) entries joins.seen);
    }

-- the batch that is noted, and what it is stepped to in the history
abbrev pub batch_of : Script → Chronicle → QueueSpec → List Entry → ℕ → ℕ → Batch
batch_of script book queue entries at commit = record { queue = queue.name; at = at; entries = entries; result = (ran_at script book.world queue entries commit).0.result }

pub stepped_again : (script : Script) (book : Chronicle) (number : ℕ) (queue : QueueSpec) (entries : List Entry) (at commit : ℕ) → IsScript script → IsKeptBook script book
    → slice_get script.queues number ≡ Some queue
    → ran_at script book.world queue entries commit ≡ stepped script (world_after script book.batches) (batch_of script book queue entries at commit)
stepped_again script book number queue entries at commit valid kept e =
    let step : World → Kind → ℕ → Stepped × World =
    λ w k c. batch_step (record { cut = cut_by script.faults; nodes = script.nodes; kind = k; tasks = tasks_at script entries; commit = c }) w in
    let made = step book.world queue.executor commit in
    sym (step_again (input_at (cut_by script.faults) script queue entries commit) commit book.world)
    ∙ (λ i. step (kept.world i) (sym (named_kind script.queues number queue valid.queues_distinct e) i) (commit_of made.0.result))

pub kept_join : (script : Script) (book : Chronicle) (number : ℕ) (queue : QueueSpec) (entries : List Entry) (at commit : ℕ) → IsScript script → IsKeptBook script book
    → slice_get script.queues number ≡ Some queue → CanJoin script book queue entries → IsKeptBook script (noted book queue entries at (ran_at script book.world queue entries commit))
kept_join script book number queue entries at commit valid kept e joins =
    let made = ran_at script book.world queue entries commit in
    let batch = batch_of script book queue entries at commit in
    let again = stepped_again script book number queue entries at commit valid kept e in
    record {
      serial = record {
        results = results_push script (first_world script) book.batches batch kept.serial.results (ap (λ (s : Stepped × World). s.0.result) again);
        order = order_join script book queue entries at made kept.serial.order joins;
      };
      world = ap (λ (s : Stepped × World). s.1) again ∙ sym (world_push script (first_world script) book.batches batch);
    }
