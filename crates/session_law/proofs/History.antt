-- What one batch does to the current state, and from it: the committed versions rise by one; and no task stands twice.
use Rattle.std.specs.Prelude.{◌≡◌, ℕ, ◌+◌, ◌≤◌, ◌&&◌, ◌||◌, Bool, true, false, not, List, [], ◌∷◌, ◌++◌, count_by, filter, fold, map, refl, if◌then◌else◌}
use Rattle.std.proofs.Common.{sym, subst, ap, ◌∙◌, cond, arith}
use Rattle.std.specs.List.{AllByRecursion, cons_option, list_any}
use Rattle.std.proofs.lemmas.Bool.{true≢false}
use Rattle.std.proofs.lemmas.Bool.Decides.{nat_tests}
use Rattle.std.proofs.lemmas.List.Sums.{sum_by-cons}
use Rattle.meta_state.specs.declared.cluster_state.ClusterState.{ClusterState}
use Rattle.meta_state.specs.declared.versions.Next.TheVariants.{Same, Changed}
use Rattle.meta_state.specs.Exact.{state_eq}
use Rattle.meta_state.specs.Versions.{content_of, metadata_version, stamped}
use Rattle.executors.specs.declared.contexts.Mark.{Mark}
use Rattle.executors.specs.declared.executions.Executed.{Executed}
use Rattle.executors.specs.declared.executions.Executed.TheVariants.{Made, Failed}
use Rattle.scripts.specs.declared.whole_script.Script.{Script}
use Rattle.executors.specs.Contexts.{numbered}
use Rattle.executors.specs.Executions.{executed}
use Rattle.executors.specs.Kinds.{needs_master}
use Rattle.session_law.specs.declared.batches.Batch.{Batch}
use Rattle.session_law.specs.declared.batches.BatchResult.{BatchResult}
use Rattle.session_law.specs.declared.batches.BatchResult.TheVariants as result
use Rattle.session_law.specs.declared.batches.Entry.{Entry}
use Rattle.session_law.specs.declared.worlds.Reach.{Reach}
use Rattle.session_law.specs.declared.worlds.Stepped.{Stepped}
use Rattle.session_law.specs.declared.worlds.World.{World}
use Rattle.session_law.specs.Committed.{committed_in, is_published}
use Rattle.session_law.specs.Histories.{AreApart, IsApart, Queued, SteppedBatch, after, history_on, input_of, is_same_task, queued_in, queued_of, stepped}
use Rattle.session_law.specs.Laws.{AreConsecutive, KeepsState, OthersKeepTheState, TasksStandOnce, VersionsAreInOrder, published_version, published_versions}
use Rattle.session_law.specs.Outcomes.{holds, is_task}
use Rattle.session_law.specs.Publications.{does_commit, reach_of}
use Rattle.session_law.specs.BatchSteps.{BatchInput, batch_step, commit_step, drop_step, executed_step, next_step}
use Rattle.session_law.specs.Worlds.{first_world}

-- ---- one batch

publish_keeps : (commits : Bool) (input : BatchInput) (world : World) (new : ClusterState) (marks : List Mark) (reach : Reach) → new.version ≡ world.state.version + 1
    → let step = if commits then commit_step input world new marks reach else drop_step input world new reach in KeepsState world step.0.result step.1
publish_keeps true input world new marks reach e = (e, refl)
publish_keeps false input world new marks reach e = (refl, refl)

next_keeps : (same : Bool) (input : BatchInput) (world : World) (made : ClusterState) (marks : List Mark)
    → let next = if same then Same else Changed (stamped made (world.proposals + 2) (world.state.version + 1) (metadata_version world.state.metadata made.metadata)) in
    let step = next_step input world marks next in
    KeepsState world step.0.result step.1
next_keeps true input world made marks = (refl, refl)
next_keeps false input world made marks =
    let new = stamped made (world.proposals + 2) (world.state.version + 1) (metadata_version world.state.metadata made.metadata) in
    let reach = reach_of input.cut world.state new input.nodes world.nodes in
    publish_keeps (does_commit new reach) input world new marks reach refl

executed_keeps : (input : BatchInput) (world : World) (made : Executed) → let step = executed_step input world made in KeepsState world step.0.result step.1
executed_keeps input world (Failed position refusal) = refl
executed_keeps input world (Made state marks) = next_keeps (state_eq (content_of world.state) (content_of state)) input world state marks

office_keeps : (refused : Bool) (world : World) (none some : Stepped × World) → KeepsState world none.0.result none.1 → KeepsState world some.0.result some.1
    → let step = if refused then none else some in KeepsState world step.0.result step.1
office_keeps true world none some a b = a
office_keeps false world none some a b = b

step_keeps : (input : BatchInput) (world : World) → let step = batch_step input world in KeepsState world step.0.result step.1
unfolding batch_step
step_keeps input world =
    office_keeps (needs_master input.kind && not world.in_office) world _ _ refl
    (executed_keeps input world (executed input.kind world.state (numbered 0 input.tasks)))

pub others_keep_the_state : OthersKeepTheState
others_keep_the_state script world batch = step_keeps (input_of script batch) world

-- a batch that has its result
result_keeps : (script : Script) (world : World) (batch : Batch) → batch.result ≡ (stepped script world batch).0.result → KeepsState world batch.result (after script world batch)
result_keeps script world batch e =
    let P : BatchResult → Type 0 = λ r. KeepsState world r (after script world batch) in subst P (sym e) (others_keep_the_state script world batch)

-- ---- a history of more batches

pub history_append : (script : Script) (world : World) (batches more : List Batch)
    → history_on script world (batches ++ more) ≡ history_on script world batches ++ history_on script (fold (after script) world batches) more
history_append script world [] more = refl
history_append script world (batch ∷ batches) more = λ i.
    record { batch = batch; stepped = (stepped script world batch).0; world = after script world batch } ∷
    history_append script (after script world batch) batches more i

-- ---- versions

one_more : (r : BatchResult) (old new : World) (n : ℕ) (vs : List ℕ) → KeepsState old r new → old.state.version + 1 ≡ n
    → ((m : ℕ) → new.state.version + 1 ≡ m → AreConsecutive m vs) → AreConsecutive n (cons_option (published_version r) vs)
one_more (result.Published version id commit diffs fulls accepted) old new n vs k e more =
    (k.0 ∙ e, more (n + 1) (ap (λ v. v + 1) (k.1 ∙ (k.0 ∙ e))))
one_more (result.Unchanged version) old new n vs k e more = more n (ap (λ (w : World). w.state.version + 1) k.1 ∙ e)
one_more (result.Failed position refusal) old new n vs k e more = more n (ap (λ (w : World). w.state.version + 1) k ∙ e)
one_more result.NotMaster old new n vs k e more = more n (ap (λ (w : World). w.state.version + 1) k ∙ e)
one_more (result.PublishFailed id diffs fulls accepted) old new n vs k e more = more n (ap (λ (s : ClusterState). s.version + 1) k.0 ∙ e)

consecutive : (script : Script) (batches : List Batch) (world : World) (n : ℕ) → AllByRecursion (λ s. s.batch.result ≡ s.stepped.result) (history_on script world batches)
    → world.state.version + 1 ≡ n → AreConsecutive n (published_versions batches)
consecutive script [] world n a e = tt
consecutive script (batch ∷ batches) world n a e =
    one_more batch.result world (after script world batch) n (published_versions batches) (result_keeps script world batch a.0) e
    (λ m f. consecutive script batches (after script world batch) m a.1 f)

one_committed : (r : BatchResult) (old : World) (s : SteppedBatch) (kept : List SteppedBatch) (vs : List ℕ) → KeepsState old r s.world
    → map (λ s. s.version) (map (λ s. s.world.state) kept) ≡ vs
    → map (λ s. s.version) (map (λ s. s.world.state) (cond (is_published r) (s ∷ kept) kept)) ≡ cons_option (published_version r) vs
one_committed (result.Published version id commit diffs fulls accepted) old s kept vs k e = λ i. k.1 i ∷ e i
one_committed (result.Unchanged version) old s kept vs k e = e
one_committed (result.Failed position refusal) old s kept vs k e = e
one_committed result.NotMaster old s kept vs k e = e
one_committed (result.PublishFailed id diffs fulls accepted) old s kept vs k e = e

committed_versions : (script : Script) (batches : List Batch) (world : World) → AllByRecursion (λ s. s.batch.result ≡ s.stepped.result) (history_on script world batches)
    → map (λ s. s.version) (committed_in (history_on script world batches)) ≡ published_versions batches
committed_versions script [] world a = refl
committed_versions script (batch ∷ batches) world a =
    let step = stepped script world batch in
    let more = history_on script step.1 batches in
    one_committed step.0.result world (record { batch = batch; stepped = step.0; world = step.1 }) (filter (λ s. is_published s.stepped.result) more) (published_versions batches)
    (others_keep_the_state script world batch) (committed_versions script batches step.1 a.1)
    ∙ ap (λ r. cons_option (published_version r) (published_versions batches)) (sym a.0)

first_version : (script : Script) → (first_world script).state.version + 1 ≡ 2
unfolding first_world
first_version script = refl

pub versions_are_in_order : VersionsAreInOrder
versions_are_in_order script batches h = record {
  published = consecutive script batches (first_world script) 2 h.results (first_version script);
  committed = committed_versions script batches (first_world script) h.results;
}

-- ---- tasks

other_task : (a b : Entry) (client step : ℕ) → is_task client step a ≡ true → is_same_task a b ≡ false → is_task client step b ≡ false
other_task a b client step p q = grind (arith, nat_tests)

is_placed : ℕ → ℕ → Queued → Bool
is_placed client step placed = is_task client step placed.entry

-- where an entry is a task, no later one is
none_later : (a : Queued) (more : List Queued) (client step : ℕ) → is_task client step a.entry ≡ true → AllByRecursion (IsApart a) more
    → list_any (is_placed client step) more ≡ false
unfolding is_placed
none_later a [] client step p q = refl
none_later a (b ∷ more) client step p q =
    λ i. other_task a.entry b.entry client step p q.0.other i || none_later a more client step p q.1 i

-- of what is apart, a part is
apart_rest : (xs ys : List Queued) → AreApart (xs ++ ys) → AreApart ys
apart_rest [] ys a = a
apart_rest (x ∷ xs) ys a = apart_rest xs ys a.1

all_rest : {A : Type 0} (P : A → Type 0) (xs ys : List A) → AllByRecursion P (xs ++ ys) → AllByRecursion P ys
all_rest P [] ys a = a
all_rest P (x ∷ xs) ys a = all_rest P xs ys a.1

either : {R : Type 0} (a b : Bool) → (a || b) ≡ true → (a ≡ true → R) → (b ≡ true → R) → R
either true b p first second = first refl
either false b p first second = second p

neither : (a b : Bool) → (a || b) ≡ false → (a ≡ false) × (b ≡ false)
neither true b p = absurd (true≢false p)
neither false b p = (refl, p)

abbrev stands_in : List ℕ → Entry → Queued
stands_in queue entry = record { queue = queue; entry = entry }

-- where entries of a batch hold a task, nothing behind them does
batch_alone : (queue : List ℕ) (entries : List Entry) (more : List Queued) (client step : ℕ) → list_any (is_task client step) entries ≡ true
    → AreApart (map (stands_in queue) entries ++ more) → list_any (is_placed client step) more ≡ false
batch_alone queue [] more client step p a = absurd (true≢false (sym p))
batch_alone queue (entry ∷ entries) more client step p a =
    either (is_task client step entry) (list_any (is_task client step) entries) p
    (λ e. none_later (stands_in queue entry) more client step e (all_rest (IsApart (stands_in queue entry)) (map (stands_in queue) entries) more a.0))
    (λ q. batch_alone queue entries more client step q a.1)

-- entries that aren't a task, of a batch and behind it
parts_free : (queue : List ℕ) (entries : List Entry) (more : List Queued) (client step : ℕ)
    → list_any (is_placed client step) (map (stands_in queue) entries ++ more) ≡ false
    → (list_any (is_task client step) entries ≡ false) × (list_any (is_placed client step) more ≡ false)
unfolding is_placed
parts_free queue [] more client step h = (refl, h)
parts_free queue (entry ∷ entries) more client step h =
    let both = neither (is_task client step entry) (list_any (is_placed client step) (map (stands_in queue) entries ++ more)) h in
    let rest = parts_free queue entries more client step both.1 in
    ((λ i. both.0 i || rest.0 i), rest.1)

none_by : (b : Bool) (n : ℕ) → b ≡ false → n ≡ 0 → cond b 1 0 + n ≡ 0
none_by true n p e = absurd (true≢false p)
none_by false n p e = omega arith

-- a first batch counts, where it holds a task
held_first : (batch : Batch) (batches : List Batch) (client step : ℕ)
    → count_by (holds client step) (batch ∷ batches) ≡ cond (holds client step batch) 1 0 + count_by (holds client step) batches
held_first batch batches client step = sum_by-cons (λ b. cond (holds client step b) 1 0) batch batches

none_held : (batches : List Batch) (client step : ℕ) → list_any (is_placed client step) (queued_of batches) ≡ false → count_by (holds client step) batches ≡ 0
none_held [] client step h = refl
none_held (batch ∷ batches) client step h =
    let parts = parts_free batch.queue batch.entries (queued_of batches) client step h in
    held_first batch batches client step ∙
    none_by (holds client step batch) (count_by (holds client step) batches) parts.0 (none_held batches client step parts.1)

once_by : (b : Bool) (n : ℕ) → (b ≡ true → n ≡ 0) → n ≤ 1 → cond b 1 0 + n ≤ 1
once_by true n f h = let e = f refl in omega arith
once_by false n f h = omega arith

once : (batches : List Batch) (client step : ℕ) → AreApart (queued_of batches) → count_by (holds client step) batches ≤ 1
once [] client step a = omega arith
once (batch ∷ batches) client step a =
    let P : ℕ → Type 0 = λ n. n ≤ 1 in
    subst P (sym (held_first batch batches client step)) (once_by (holds client step batch) (count_by (holds client step) batches)
    (λ p. none_held batches client step (batch_alone batch.queue batch.entries (queued_of batches) client step p a))
    (once batches client step (apart_rest (queued_in batch) (queued_of batches) a)))

pub tasks_stand_once : TasksStandOnce
tasks_stand_once script batches h client step = once batches client step h.order.apart
