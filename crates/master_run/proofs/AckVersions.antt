-- The versions of what is acknowledged: those of the commits that a node is handed rise, none is above that of the current
-- state, and a task that ended with a version ended in a batch that published it.
use Rattle.std.specs.Prelude.{◌≡◌, ℕ, zero, suc, ◌+◌, ◌<◌, ◌≤◌, ◌^◌, ◌==◌, Bool, true, false, not, cond, ◌&&◌, ◌||◌, List, [], ◌∷◌, ◌++◌, filter, find, fold, map, length, Option, Some, None, slice_get, refl, if◌then◌else◌}
use Rattle.std.proofs.Common.{sym, ◌∙◌, ap, subst, arith, replicate}
use Rattle.std.proofs.Math.Bool.{true≢false}
use Rattle.std.specs.Cmp.{unsigned_Decides}
use Rattle.std.specs.List.{AllByRecursion, list_any, zip}
use Rattle.std.specs.Option.{option_map}
use Rattle.meta_state.specs.declared.cluster_state.ClusterState.{ClusterState}
use Rattle.meta_state.specs.declared.versions.Next.{Next}
use Rattle.meta_state.specs.declared.versions.Next.TheVariants.{Same, Changed}
use Rattle.meta_state.specs.Versions.{next_of}
use Rattle.executors.specs.declared.contexts.Mark.{Mark}
use Rattle.executors.specs.declared.contexts.Verdict.{Verdict}
use Rattle.executors.specs.declared.contexts.Verdict.TheVariants.{Success, Refused}
use Rattle.executors.specs.declared.executions.Executed.{Executed}
use Rattle.executors.specs.declared.executions.Executed.TheVariants.{Made, Failed}
use Rattle.executors.specs.Contexts.{numbered}
use Rattle.executors.specs.Executions.{executed}
use Rattle.executors.specs.Kinds.{needs_master}
use Rattle.scripts.specs.declared.whole_script.Script.{Script}
use Rattle.scripts.specs.declared.whole_script.ScriptNode.{ScriptNode}
use Rattle.scripts.specs.declared.steps.Ack.{Ack}
use Rattle.scripts.specs.Scripts.{IsScript}
use Rattle.session_law.specs.declared.batches.Batch.{Batch}
use Rattle.session_law.specs.declared.batches.BatchResult.{BatchResult}
use Rattle.session_law.specs.declared.batches.BatchResult.TheVariants as result
use Rattle.session_law.specs.declared.batches.Entry.{Entry}
use Rattle.session_law.specs.declared.task_ends.TaskEnd.{TaskEnd}
use Rattle.session_law.specs.declared.task_ends.TaskEnd.TheVariants as end
use Rattle.session_law.specs.declared.worlds.Stepped.{Stepped}
use Rattle.session_law.specs.declared.worlds.World.{World}
use Rattle.session_law.specs.Acknowledgements.{asked_ack}
use Rattle.session_law.specs.BatchSteps.{BatchInput, batch_step, commit_step, drop_step, end_by, end_of, executed_step, next_step, refused_step}
use Rattle.session_law.specs.Committed.{is_published}
use Rattle.session_law.specs.Histories.{IsKept, SteppedBatch, after, history_of, history_on, input_of, step_at, stepped, world_after}
use Rattle.session_law.specs.Laws.{KeepsState}
use Rattle.session_law.specs.NodeRecords.{Commit, commit_to, commits_to, is_handed}
use Rattle.session_law.specs.Outcomes.{end_in, holds, is_task, stepped_with}
use Rattle.session_law.specs.Publications.{does_commit, reach_of}
use Rattle.session_law.specs.Worlds.{first_world}
use Rattle.session_law.proofs.Counts.{world_counted}
use Rattle.session_law.proofs.History.{others_keep_the_state}
use Rattle.master_run.specs.AckCourses.{Acked, acked_in, acked_of, acked_ok, acked_with, has_left}
use Rattle.master_run.specs.Nodes.{NodeCourse}
use Rattle.master_run.specs.SoFar.{IsRecordedAt, IsRecordedSoFar}
use Rattle.master_run.proofs.Alls.{all_by, either}
use Rattle.master_run.proofs.Bounds.{batches_fewer}
use Rattle.master_run.proofs.Keeping.{both_first, false_from, no_some, some_same}
use Rattle.master_run.proofs.Places.{zip_at}

-- ---- one batch: a published one makes the next version, and no other makes a lower one

pub published_next : (r : BatchResult) (old new : World) → KeepsState old r new → is_published r ≡ true → new.state.version ≡ old.state.version + 1
published_next (result.Published version id commit diffs fulls accepted) old new keeps e = keeps.1 ∙ keeps.0
published_next (result.Unchanged version) old new keeps e = absurd (true≢false (sym e))
published_next (result.Failed position refusal) old new keeps e = absurd (true≢false (sym e))
published_next result.NotMaster old new keeps e = absurd (true≢false (sym e))
published_next (result.PublishFailed id diffs fulls accepted) old new keeps e = absurd (true≢false (sym e))

le_by : (v w : ℕ) → w ≡ v → v ≤ w
le_by v w e = omega (arith, e)

le_next : (v w : ℕ) → w ≡ v + 1 → v ≤ w
le_next v w e = omega (arith, e)

never_lower : (r : BatchResult) (old new : World) → KeepsState old r new → old.state.version ≤ new.state.version
never_lower (result.Published version id commit diffs fulls accepted) old new keeps = le_next _ _ (keeps.1 ∙ keeps.0)
never_lower (result.Unchanged version) old new keeps = le_by _ _ (ap (λ (w : World). w.state.version) keeps.1)
never_lower (result.Failed position refusal) old new keeps = le_by _ _ (ap (λ (w : World). w.state.version) keeps)
never_lower result.NotMaster old new keeps = le_by _ _ (ap (λ (w : World). w.state.version) keeps)
never_lower (result.PublishFailed id diffs fulls accepted) old new keeps = le_by _ _ (ap (λ (s : ClusterState). s.version) keeps.0)

pub step_rises : (script : Script) (world : World) (batch : Batch) → is_published (stepped script world batch).0.result ≡ true
    → (after script world batch).state.version ≡ world.state.version + 1
step_rises script world batch e = published_next (stepped script world batch).0.result world (after script world batch) (others_keep_the_state script world batch) e

pub step_lasts : (script : Script) (world : World) (batch : Batch) → world.state.version ≤ (after script world batch).state.version
step_lasts script world batch = never_lower (stepped script world batch).0.result world (after script world batch) (others_keep_the_state script world batch)

history_lasts : (script : Script) (world : World) (batches : List Batch) → world.state.version ≤ (fold (after script) world batches).state.version
history_lasts script world [] = omega arith
history_lasts script world (batch ∷ batches) =
    let one = step_lasts script world batch in
    let rest = history_lasts script (after script world batch) batches in
    omega (arith, one, rest)

-- ---- the commits that a node is handed

-- each is of a higher version than all before it
abbrev pub AreRising : List Commit → Type 0
AreRising [] = Unit {0}
AreRising (c ∷ more) = AllByRecursion (λ d. c.state.version < d.state.version) more × AreRising more

-- they rise, from above one version up to another one
record IsBetween (low high : ℕ) (commits : List Commit) : Type 0 where
  above : AllByRecursion (λ c. low < c.state.version) commits
  most : AllByRecursion (λ c. c.state.version ≤ high) commits
  rise : AreRising commits

lower : (low next high : ℕ) (commits : List Commit) → low ≤ next → IsBetween next high commits → IsBetween low high commits
lower low next high commits l h = record {
  above = all_by (λ c. next < c.state.version) (λ c. low < c.state.version) (λ c e. omega (arith, l, e)) commits h.above;
  most = h.most;
  rise = h.rise;
}

one_between : (script : Script) (name : List ℕ) (low high : ℕ) (s : SteppedBatch) (more : List SteppedBatch) (b : Bool) → (b ≡ true → s.world.state.version ≡ low + 1) → low ≤ s.world.state.version
    → s.world.state.version ≤ high → IsBetween s.world.state.version high (map (commit_to script name) more)
    → IsBetween low high (map (commit_to script name) (cond b (s ∷ more) more))
one_between script name low high s more true next l m rest = record {
  above = ((let e = next refl in omega (arith, e)), (lower low s.world.state.version high (map (commit_to script name) more) l rest).above);
  most = (m, rest.most);
  rise = (rest.above, rest.rise);
}
one_between script name low high s more false next l m rest = lower low s.world.state.version high (map (commit_to script name) more) l rest

handed_between : (script : Script) (name : List ℕ) (world : World) (batches : List Batch)
    → IsBetween world.state.version (fold (after script) world batches).state.version (map (commit_to script name) (filter (is_handed script name) (history_on script world batches)))
handed_between script name world [] = record { above = tt; most = tt; rise = tt }
handed_between script name world (batch ∷ batches) =
    let step = stepped script world batch in
    let s : SteppedBatch = record { batch = batch; stepped = step.0; world = step.1 } in
    one_between script name world.state.version (fold (after script) step.1 batches).state.version s (filter (is_handed script name) (history_on script step.1 batches)) (is_handed script name s)
    (λ e. step_rises script world batch (both_first (is_published step.0.result) _ e)) (step_lasts script world batch) (history_lasts script step.1 batches)
    (handed_between script name step.1 batches)

-- ---- what a node has left

rest_rises : (taken more : List Commit) → AreRising (taken ++ more) → AreRising more
rest_rises [] more h = h
rest_rises (c ∷ taken) more h = rest_rises taken more h.1

all_rest : {A : Type 0} (P : A → Type 0) (xs ys : List A) → AllByRecursion P (xs ++ ys) → AllByRecursion P ys
all_rest P [] ys a = a
all_rest P (x ∷ xs) ys a = all_rest P xs ys a.1

left_rising : (script : Script) (batches : List Batch) (node : ScriptNode) (has : NodeCourse) → IsRecordedAt script batches node has → AreRising has.left
left_rising script batches node has h =
    rest_rises h.taken has.left (subst AreRising (sym h.handed) (handed_between script node.name (first_world script) batches).rise)

-- after the first of them each is of a higher version
pub left_rises : (script : Script) (batches : List Batch) (have : List NodeCourse) (number : ℕ) (node : ScriptNode) (has : NodeCourse) (commit : Commit) (more : List Commit)
    → IsRecordedSoFar script batches have → slice_get have number ≡ Some has → slice_get script.nodes number ≡ Some node → has.left ≡ commit ∷ more
    → AllByRecursion (λ c. commit.state.version < c.state.version) more
left_rises script batches have number node has commit more h e f left =
    let at = zip_at (IsRecordedAt script batches) script.nodes have number node has h f e in
    (subst AreRising left (left_rising script batches node has at)).0

none_of_version : (commits : List Commit) (high version : ℕ) → AllByRecursion (λ c. c.state.version ≤ high) commits → high < version
    → list_any (λ c. c.state.version == version) commits ≡ false
none_of_version [] high version most l = refl
none_of_version (c ∷ commits) high version most l =
    let one : (c.state.version == version) ≡ false = false_from (c.state.version == version) (λ e.
    let same = (unsigned_Decides c.state.version version).0 e in let m = most.0 in omega (arith, same, m, l)) in
    λ i. one i || none_of_version commits high version most.1 l i

-- nothing is left of a version that isn't there yet
pub left_most : (script : Script) (batches : List Batch) (world : World) (node : ScriptNode) (has : NodeCourse) (version : ℕ) → IsKept script batches world → IsRecordedAt script batches node has
    → world.state.version < version → has_left version has ≡ false
left_most script batches world node has version kept h l =
    let most = (handed_between script node.name (first_world script) batches).most in
    let all = all_rest (λ (c : Commit). c.state.version ≤ (world_after script batches).state.version) h.taken has.left
    (subst (AllByRecursion (λ (c : Commit). c.state.version ≤ (world_after script batches).state.version)) (sym h.handed) most) in
    none_of_version has.left (world_after script batches).state.version version all (subst (λ (w : World). w.state.version < version) kept.world l)

-- each commit that a node is handed is of a version that is there
pub commits_most_version : (script : Script) (batches : List Batch) (world : World) (name : List ℕ) → IsKept script batches world
    → AllByRecursion (λ c. c.state.version ≤ world.state.version) (commits_to script batches name)
commits_most_version script batches world name kept =
    subst (λ (w : World). AllByRecursion (λ (c : Commit). c.state.version ≤ w.state.version) (commits_to script batches name)) (sym kept.world)
    (handed_between script name (first_world script) batches).most

-- ---- how the tasks of a batch end: with a version only where it was published

abbrev pub IsEndSo : Stepped × World → TaskEnd → Type 0
IsEndSo step (end.Ok version) = (is_published step.0.result ≡ true) × (version ≡ step.1.state.version)
IsEndSo step _ = Unit {0}

abbrev pub AreEndsSo : Stepped × World → Type 0
AreEndsSo step = AllByRecursion (IsEndSo step) step.0.ends

same_ends : (P : TaskEnd → Type 0) (e : TaskEnd) (count : ℕ) → P e → AllByRecursion P (replicate count e)
same_ends P e zero h = tt
same_ends P e (suc count) h = (h, same_ends P e count h)

one_end : (step : Stepped × World) (success : TaskEnd) (verdict : Verdict) → IsEndSo step success → IsEndSo step (end_by success verdict)
one_end step success Success h = h
one_end step success (Refused refusal) h = tt

marked_ends : (step : Stepped × World) (success : TaskEnd) (marks : List Mark) → IsEndSo step success → AllByRecursion (IsEndSo step) (map (end_of success) marks)
marked_ends step success [] h = tt
marked_ends step success (mark ∷ marks) h = (one_end step success mark.verdict h, marked_ends step success marks h)

next_so : (input : BatchInput) (world : World) (marks : List Mark) (next : Next) → AreEndsSo (next_step input world marks next)
next_so input world marks Same = marked_ends (next_step input world marks Same) (end.Unchanged world.state.version) marks tt
next_so input world marks (Changed new) =
    let reach = reach_of input.cut world.state new input.nodes world.nodes in
    either AreEndsSo (does_commit new reach) (commit_step input world new marks reach) (drop_step input world new reach)
    (marked_ends (commit_step input world new marks reach) (end.Ok new.version) marks (refl, refl))
    (same_ends (IsEndSo (drop_step input world new reach)) end.PublishFailed (length input.tasks) tt)

executed_so : (input : BatchInput) (world : World) (made : Executed) → AreEndsSo (executed_step input world made)
executed_so input world (Failed position refusal) = same_ends (IsEndSo (executed_step input world (Failed position refusal))) (end.BatchFailed position refusal) (length input.tasks) tt
executed_so input world (Made state marks) = next_so input world marks (next_of world.state state (world.proposals + 2))

pub ends_so : (input : BatchInput) (world : World) → AreEndsSo (batch_step input world)
unfolding batch_step
ends_so input world =
    let made = executed input.kind world.state (numbered 0 input.tasks) in
    either AreEndsSo (needs_master input.kind && not world.in_office) (refused_step input world) (executed_step input world made)
    (same_ends (IsEndSo (refused_step input world)) end.NotMaster (length input.tasks) tt) (executed_so input world made)

-- ---- what is found in a list

found_has_by : {A : Type 0} (P : A → Type 0) (b : Bool) (first x : A) (rest : Option A) → P first → (rest ≡ Some x → P x) → cond b (Some first) rest ≡ Some x → P x
found_has_by P true first x rest h more e = subst P (some_same first x e) h
found_has_by P false first x rest h more e = more e

pub found_has : {A : Type 0} (P : A → Type 0) (p : A → Bool) (xs : List A) (x : A) → AllByRecursion P xs → find p xs ≡ Some x → P x
found_has P p [] x all e = absurd (no_some x e)
found_has P p (first ∷ xs) x all e = found_has_by P (p first) first x (find p xs) all.0 (found_has P p xs x all.1) e

found_passes_by : {A : Type 0} (p : A → Bool) (b : Bool) (first x : A) (rest : Option A) → p first ≡ b → (rest ≡ Some x → p x ≡ true) → cond b (Some first) rest ≡ Some x → p x ≡ true
found_passes_by p true first x rest h more e = ap p (sym (some_same first x e)) ∙ h
found_passes_by p false first x rest h more e = more e

pub found_passes : {A : Type 0} (p : A → Bool) (xs : List A) (x : A) → find p xs ≡ Some x → p x ≡ true
found_passes p [] x e = absurd (no_some x e)
found_passes p (first ∷ xs) x e = found_passes_by p (p first) first x (find p xs) refl (found_passes p xs x) e

ends_zip : (P : TaskEnd → Type 0) (entries : List Entry) (ends : List TaskEnd) → AllByRecursion P ends → AllByRecursion (λ (p : Entry × TaskEnd). P p.1) (zip entries ends)
ends_zip P [] ends all = tt
ends_zip P (entry ∷ entries) [] all = tt
ends_zip P (entry ∷ entries) (e ∷ ends) all = (all.0, ends_zip P entries ends all.1)

end_of_found : (P : TaskEnd → Type 0) (entries : List Entry) (ends : List TaskEnd) (client step : ℕ) (e : TaskEnd) (found : Option (Entry × TaskEnd)) → AllByRecursion P ends
    → find (λ p. is_task client step p.0) (zip entries ends) ≡ found → option_map (λ p. p.1) found ≡ Some e → P e
end_of_found P entries ends client step e None all f g = absurd (no_some e g)
end_of_found P entries ends client step e (Some p) all f g =
    subst P (some_same p.1 e g) (found_has (λ (p : Entry × TaskEnd). P p.1) (λ p. is_task client step p.0) (zip entries ends) p (ends_zip P entries ends all) f)

-- what holds of each end holds of that of a task
pub end_has : (P : TaskEnd → Type 0) (entries : List Entry) (ends : List TaskEnd) (client step : ℕ) (e : TaskEnd) → AllByRecursion P ends
    → option_map (λ p. p.1) (find (λ p. is_task client step p.0) (zip entries ends)) ≡ Some e → P e
end_has P entries ends client step e all f = end_of_found P entries ends client step e (find (λ p. is_task client step p.0) (zip entries ends)) all refl f

-- ---- the batches of a history

-- what a batch of a history that ends with a version has
pub record IsSteppedSo (high : ℕ) (s : SteppedBatch) : Type 0 where
  pub ends : AreEndsSo (s.stepped, s.world)
  pub most : s.world.state.version ≤ high
  pub next : is_published s.stepped.result ≡ true → 2 ≤ s.world.state.version

pub history_so : (script : Script) (world : World) (batches : List Batch) → 1 ≤ world.state.version
    → AllByRecursion (IsSteppedSo (fold (after script) world batches).state.version) (history_on script world batches)
history_so script world [] some = tt
history_so script world (batch ∷ batches) some = (
  record {
    ends = ends_so (input_of script batch) world;
    most = history_lasts script (after script world batch) batches;
    next = λ e. let up = step_rises script world batch e in omega (arith, up, some);
  },
  history_so script (after script world batch) batches (let lasts = step_lasts script world batch in omega (arith, lasts, some)),
)

pub first_version : (script : Script) → 1 ≤ (first_world script).state.version
unfolding first_world
first_version script = omega arith

-- ---- what counts

-- the batch of what counts published the version, which is that of the state after it, and at most the current one
pub record IsAckPublished (high : ℕ) (a : Acked) : Type 0 where
  pub published : is_published a.stepped.stepped.result ≡ true
  pub version : a.version ≡ a.stepped.world.state.version
  pub most : a.version ≤ high
  pub next : 2 ≤ a.version

so_by : (high : ℕ) (asked : Ack) (s : SteppedBatch) (a : Acked) (e : TaskEnd) → IsEndSo (s.stepped, s.world) e → IsSteppedSo high s → acked_ok asked s (Some e) ≡ Some a → IsAckPublished high a
so_by high asked s a (end.Ok version) so h e =
    let made : Acked = record { asked = asked; version = version; stepped = s } in
    let same = so.1 in
    let most = h.most in
    let next = h.next so.0 in
    subst (IsAckPublished high) (some_same made a e)
    (record { published = so.0; version = so.1; most = omega (arith, same, most); next = omega (arith, same, next) })
so_by high asked s a (end.Unchanged version) so h e = absurd (no_some a e)
so_by high asked s a (end.Refused refusal) so h e = absurd (no_some a e)
so_by high asked s a (end.BatchFailed position refusal) so h e = absurd (no_some a e)
so_by high asked s a end.NotMaster so h e = absurd (no_some a e)
so_by high asked s a end.PublishFailed so h e = absurd (no_some a e)
so_by high asked s a (end.Timeout deadline reading) so h e = absurd (no_some a e)
so_by high asked s a (end.Closed client step) so h e = absurd (no_some a e)

so_in : (high : ℕ) (client step : ℕ) (asked : Ack) (s : SteppedBatch) (a : Acked) (found : Option TaskEnd) → end_in client step s ≡ found → IsSteppedSo high s → acked_ok asked s found ≡ Some a → IsAckPublished high a
so_in high client step asked s a None f h e = absurd (no_some a e)
so_in high client step asked s a (Some end) f h e =
    so_by high asked s a end (end_has (IsEndSo (s.stepped, s.world)) s.batch.entries s.stepped.ends client step end h.ends f) h e

so_with : (script : Script) (batches : List Batch) (client step : ℕ) (asked : Ack) (a : Acked) (found : Option SteppedBatch) → stepped_with script batches client step ≡ found
    → acked_with client step asked found ≡ Some a → IsAckPublished (world_after script batches).state.version a
so_with script batches client step asked a None f e = absurd (no_some a e)
so_with script batches client step asked a (Some s) f e =
    let high = (world_after script batches).state.version in
    let so = found_has (IsSteppedSo high) (λ s. holds client step s.batch) (history_of script batches) s (history_so script (first_world script) batches (first_version script)) f in
    so_in high client step asked s a (end_in client step s) refl so e

so_of : (script : Script) (batches : List Batch) (client step : ℕ) (asked : Option Ack) (a : Acked) → acked_of script batches client step asked ≡ Some a
    → IsAckPublished (world_after script batches).state.version a
so_of script batches client step None a e = absurd (no_some a e)
so_of script batches client step (Some asked) a e = so_with script batches client step asked a (stepped_with script batches client step) refl e

pub acked_version : (script : Script) (batches : List Batch) (world : World) (client step : ℕ) (a : Acked) → IsKept script batches world → acked_in script batches client step ≡ Some a
    → IsAckPublished world.state.version a
acked_version script batches world client step a kept e =
    subst (λ (w : World). IsAckPublished w.state.version a) (sym kept.world) (so_of script batches client step (asked_ack (step_at script client step)) a e)

-- ---- versions are small

pub version_small : (script : Script) (batches : List Batch) (world : World) → IsScript script → IsKept script batches world → world.state.version < 2 ^ 32
version_small script batches world valid kept =
    let few = batches_fewer script batches valid kept.serial.order in
    let counted = (world_counted script batches).version in
    let same = ap (λ (w : World). w.state.version) kept.world in
    omega (arith, few, counted, same)
