-- The tasks of a kept book's batch are few, and its queue's executor takes each of them.
use Rattle.std.specs.Prelude.{◌≡◌, ℕ, zero, suc, ◌+◌, ◌<◌, ◌^◌, Bool, true, ◌&&◌, ◌==◌, List, [], ◌∷◌, ◌++◌, length, Option, Some, None, option_and_then, slice_get, bytes_eq, refl}
use Rattle.std.proofs.Common.{sym, ◌∙◌, ap, subst, arith}
use Rattle.std.proofs.Math.Bool.{true≢false}
use Rattle.std.specs.List.{AllByRecursion, cons_option, list_all}
use Rattle.std.specs.Cmp.{unsigned_Decides}
use Rattle.std.specs.Cmp.Lexicographic.{bytes_decides}
use Rattle.std.proofs.lemmas.List.{length-append, length-map}
use Rattle.scripts.specs.declared.queues.QueueSpec.{QueueSpec}
use Rattle.scripts.specs.declared.whole_script.Script.{Script}
use Rattle.scripts.specs.declared.steps.Step.{Step}
use Rattle.scripts.specs.declared.steps.Step.TheVariants.{Submit, Await, Watch, Next, Read, Sleep, Close}
use Rattle.executors.specs.declared.tasks.Task.{Task}
use Rattle.scripts.specs.declared.faults.Fault.{Fault}
use Rattle.scripts.specs.Built.{IsBuilt, is_built_step}
use Rattle.executors.specs.Kinds.{accepts}
use Rattle.scripts.proofs.Takes.{accepts_task_for}
use Rattle.scripts.specs.Scripts.{IsScript}
use Rattle.scripts.specs.ValidSteps.{are_steps, is_client, is_if_some, is_positive_time, is_queue_for, is_step}
use Rattle.session_law.specs.Endings.{task_timeout_of}
use Rattle.session_law.specs.declared.batches.Entry.{Entry}
use Rattle.session_law.specs.Histories.{IsOrdered, IsOwn, is_named, is_own_step, kind_named, queued_of, step_at, submitted, task_at, tasks_at}
use Rattle.master_run.specs.Books.{CanJoin, Chronicle, placed_in}
use Rattle.master_run.proofs.Alls.{all_append}
use Rattle.master_run.proofs.Bounds.{Stands, all_get, own_few, stands, stood}
use Rattle.master_run.proofs.Ending.{entries_count}
use Rattle.master_run.proofs.Keeping.{both_first, both_second, named_kind, no_some, some_same}

-- ---- few

pub few_entries : (script : Script) (book : Chronicle) (queue : QueueSpec) (entries : List Entry) → IsScript script → IsOrdered script book.batches → CanJoin script book queue entries → length entries < 2 ^ 32
few_entries script book queue entries valid order joins =
    let all = queued_of book.batches ++ placed_in queue.name entries in
    let few = own_few script all valid (all_append (IsOwn script) (queued_of book.batches) (placed_in queue.name entries) order.own joins.own) joins.apart in
    let longer : length all ≡ length (queued_of book.batches) + length entries =
    length-append (queued_of book.batches) (placed_in queue.name entries) ∙ ap (λ n. length (queued_of book.batches) + n) (length-map entries (λ e. record { queue = queue.name; entry = e })) in
    omega arith

-- ---- taken

-- what a script's form says of a step's queue
abbrev pub is_queued : Script → Step → Bool
is_queued script (Submit at task timeout ack) = is_queue_for script.nodes task (slice_get script.queues at)
is_queued script _ = true

step_queued : (script : Script) (before : List Step) (step : Step) → is_step script.nodes script.queues before step ≡ true → is_queued script step ≡ true
step_queued script before (Submit at task timeout ack) h = both_first _ _ h
step_queued script before (Await _ _) h = refl
step_queued script before (Watch _ _ _ _) h = refl
step_queued script before (Next _ _ _ _) h = refl
step_queued script before (Read _ _) h = refl
step_queued script before (Sleep _) h = refl
step_queued script before Close h = refl

steps_queued : (script : Script) (before steps : List Step) (number : ℕ) (step : Step) → are_steps script.nodes script.queues before steps ≡ true → slice_get steps number ≡ Some step → is_queued script step ≡ true
steps_queued script before [] number step h e = absurd (no_some step e)
steps_queued script before (first ∷ steps) zero step h e = ap (is_queued script) (sym (some_same first step e)) ∙ step_queued script before first (both_first _ _ h)
steps_queued script before (first ∷ steps) (suc n) step h e = steps_queued script (before ++ first ∷ []) steps n step (both_second _ _ h) e

pub queued : (script : Script) (client number : ℕ) (step : Step) → IsScript script → step_at script client number ≡ Some step → is_queued script step ≡ true
queued script client number step valid e =
    let at = stood script client number step e in
    let steps = all_get (is_client script.nodes script.queues) script.clients client at.steps valid.clients at.of_client in
    steps_queued script [] at.steps number step (both_second _ _ steps) at.of_steps

pub some_queue : (script : Script) (task : Task) (found : Option QueueSpec) → is_queue_for script.nodes task found ≡ true → (queue : QueueSpec) × (found ≡ Some queue)
some_queue script task None h = absurd (true≢false (sym h))
some_queue script task (Some queue) h = (queue, refl)

-- a task that may not wait for ever may wait for a while
step_timeout : (script : Script) (before : List Step) (step : Step) → is_step script.nodes script.queues before step ≡ true → is_if_some is_positive_time (task_timeout_of (Some step)) ≡ true
step_timeout script before (Submit at task timeout ack) h = both_first _ _ (both_second _ _ h)
step_timeout script before (Await _ _) h = refl
step_timeout script before (Watch _ _ _ _) h = refl
step_timeout script before (Next _ _ _ _) h = refl
step_timeout script before (Read _ _) h = refl
step_timeout script before (Sleep _) h = refl
step_timeout script before Close h = refl

steps_timeout : (script : Script) (before steps : List Step) (number : ℕ) (step : Step) → are_steps script.nodes script.queues before steps ≡ true → slice_get steps number ≡ Some step
    → is_if_some is_positive_time (task_timeout_of (Some step)) ≡ true
steps_timeout script before [] number step h e = absurd (no_some step e)
steps_timeout script before (first ∷ steps) zero step h e =
    ap (λ s. is_if_some is_positive_time (task_timeout_of (Some s))) (sym (some_same first step e)) ∙ step_timeout script before first (both_first _ _ h)
steps_timeout script before (first ∷ steps) (suc n) step h e = steps_timeout script (before ++ first ∷ []) steps n step (both_second _ _ h) e

timeout_found : (script : Script) (client number : ℕ) (found : Option Step) → IsScript script → step_at script client number ≡ found → is_if_some is_positive_time (task_timeout_of found) ≡ true
timeout_found script client number None valid e = refl
timeout_found script client number (Some step) valid e =
    let at = stood script client number step e in
    let steps = all_get (is_client script.nodes script.queues) script.clients client at.steps valid.clients at.of_client in
    steps_timeout script [] at.steps number step (both_second _ _ steps) at.of_steps

pub timeouts_so : (script : Script) (client number : ℕ) → IsScript script → is_if_some is_positive_time (task_timeout_of (step_at script client number)) ≡ true
timeouts_so script client number valid = timeout_found script client number (step_at script client number) valid refl

-- what is built says of each step
pub steps_built : (script : Script) → IsBuilt script → list_all (list_all is_built_step) script.clients ≡ true
steps_built script built = both_first _ _ built

-- and it says that no node fails
none_there : (faults : List Fault) → (length faults == 0) ≡ true → faults ≡ []
none_there [] e = refl
none_there (fault ∷ faults) e = absurd (let none = (unsigned_Decides (length (fault ∷ faults)) 0).0 e in omega arith)

pub faults_built : (script : Script) → IsBuilt script → script.faults ≡ []
faults_built script built = none_there script.faults (both_second _ _ built)

pub built_at : (script : Script) (client number : ℕ) (step : Step) → IsBuilt script → step_at script client number ≡ Some step → is_built_step step ≡ true
built_at script client number step built e =
    let at = stood script client number step e in
    all_get is_built_step at.steps number step (all_get (list_all is_built_step) script.clients client at.steps (steps_built script built) at.of_client) at.of_steps

-- a queue that is named as another is of the same executor
named_same : (script : Script) (number : ℕ) (queue : QueueSpec) (other : QueueSpec) (at : ℕ) → IsScript script → slice_get script.queues number ≡ Some queue
    → slice_get script.queues at ≡ Some other → bytes_eq other.name queue.name ≡ true → other.executor ≡ queue.executor
named_same script number queue other at valid e f same =
    sym (named_kind script.queues at other valid.queues_distinct f)
    ∙ ap (kind_named script.queues) ((bytes_decides other.name queue.name).0 same)
    ∙ named_kind script.queues number queue valid.queues_distinct e

taken_by : (script : Script) (number : ℕ) (queue : QueueSpec) (task : Task) (at : ℕ) → IsScript script → slice_get script.queues number ≡ Some queue
    → (found : Option QueueSpec) → slice_get script.queues at ≡ found → is_named queue.name found ≡ true → is_queue_for script.nodes task found ≡ true
    → accepts queue.executor task ≡ true
taken_by script number queue task at valid e None f named for = absurd (true≢false (sym named))
taken_by script number queue task at valid e (Some other) f named for =
    ap (λ k. accepts k task) (sym (named_same script number queue other at valid e f named)) ∙ accepts_task_for script.nodes other.executor task for

step_taken : (script : Script) (number : ℕ) (queue : QueueSpec) → IsScript script → slice_get script.queues number ≡ Some queue
    → (step : Step) → is_own_step script queue.name (Some step) ≡ true → is_queued script step ≡ true
    → (rest : List Task) → list_all (accepts queue.executor) rest ≡ true → list_all (accepts queue.executor) (cons_option (submitted step) rest) ≡ true
step_taken script number queue valid e (Submit at task timeout ack) own for rest all =
    λ i. taken_by script number queue task at valid e (slice_get script.queues at) refl own for i && all i
step_taken script number queue valid e (Await _ _) own for rest all = all
step_taken script number queue valid e (Watch _ _ _ _) own for rest all = all
step_taken script number queue valid e (Next _ _ _ _) own for rest all = all
step_taken script number queue valid e (Read _ _) own for rest all = all
step_taken script number queue valid e (Sleep _) own for rest all = all
step_taken script number queue valid e Close own for rest all = all

entry_taken : (script : Script) (number : ℕ) (queue : QueueSpec) (entry : Entry) → IsScript script → slice_get script.queues number ≡ Some queue
    → Stands script queue.name entry.client entry.step
    → (rest : List Task) → list_all (accepts queue.executor) rest ≡ true → list_all (accepts queue.executor) (cons_option (task_at script entry) rest) ≡ true
entry_taken script number queue entry valid e at rest all =
    let here : step_at script entry.client entry.step ≡ Some at.step =
    ap (option_and_then (λ steps. slice_get steps entry.step)) at.of_client ∙ at.of_steps in
    subst (λ (o : Option Step). list_all (accepts queue.executor) (cons_option (option_and_then submitted o) rest) ≡ true) (sym here)
    (step_taken script number queue valid e at.step at.own (queued script entry.client entry.step at.step valid here) rest all)

entries_taken : (script : Script) (number : ℕ) (queue : QueueSpec) (entries : List Entry) → IsScript script → slice_get script.queues number ≡ Some queue
    → AllByRecursion (IsOwn script) (placed_in queue.name entries) → list_all (accepts queue.executor) (tasks_at script entries) ≡ true
entries_taken script number queue [] valid e own = refl
entries_taken script number queue (entry ∷ entries) valid e own =
    entry_taken script number queue entry valid e (stands script (record { queue = queue.name; entry = entry }) own.0) (tasks_at script entries)
    (entries_taken script number queue entries valid e own.1)

pub each_task : (script : Script) (book : Chronicle) (queue : QueueSpec) (entries : List Entry) → CanJoin script book queue entries → length (tasks_at script entries) ≡ length entries
each_task script book queue entries joins = entries_count script queue.name entries joins.own

pub tasks_taken : (script : Script) (book : Chronicle) (number : ℕ) (queue : QueueSpec) (entries : List Entry) → IsScript script → slice_get script.queues number ≡ Some queue
    → CanJoin script book queue entries → list_all (accepts queue.executor) (tasks_at script entries) ≡ true
tasks_taken script book number queue entries valid e joins = entries_taken script number queue entries valid e joins.own
