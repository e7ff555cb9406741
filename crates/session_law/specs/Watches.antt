-- The watch rule: a part of a watch is shown its node's states from its place on, one after the other without a gap, and
-- is answered by the first that hits it (Elasticsearch's `ClusterStateObserver`; parts, places and the close step are
-- this project's own).
use Rattle.std.specs.Prelude.{◌≡◌, ℕ, zero, suc, ◌+◌, ◌-◌, ◌==◌, ◌≤◌, ◌&&◌, Bool, true, false, not, List, ◌∷◌, Option, Some, None, count_by, drop, find, is_some, length, option_map, slice_get, take, IsTrue}
use Rattle.std.specs.List.{AllByRecursion, list_all, list_any}
use Rattle.meta_state.specs.declared.predicates.Pred.{Pred}
use Rattle.meta_state.specs.declared.cluster_state.ClusterState.{ClusterState}
use Rattle.meta_state.specs.Hits.{is_hit_by}
use Rattle.scripts.specs.declared.whole_script.Script.{Script}
use Rattle.scripts.specs.declared.steps.Goal.TheVariants as goal
use Rattle.scripts.specs.declared.steps.Step.{Step}
use Rattle.scripts.specs.declared.steps.Step.TheVariants as step
use Rattle.session_law.specs.declared.batches.Batch.{Batch}
use Rattle.session_law.specs.declared.watches.Watch.{Watch}
use Rattle.session_law.specs.declared.watches.WatchEnd.{WatchEnd}
use Rattle.session_law.specs.declared.watches.WatchEnd.TheVariants as end
use Rattle.session_law.specs.DueTimes.{due}
use Rattle.session_law.specs.Histories.{step_at}
use Rattle.session_law.specs.NodeRecords.{applied_states}
use Rattle.session_law.specs.ScriptSteps.{before_close, is_after_close, is_at, is_close_at, is_some_so, node_at, numbered_steps}

-- ---- what a watch or next step asks

-- the predicate of a part
abbrev pub pred_of_part : Step → ℕ → Option Pred
pred_of_part (step.Watch node pred thens timeout) part = slice_get (pred ∷ thens) part
pred_of_part (step.Next watch pred thens timeout) part = slice_get (pred ∷ thens) part
pred_of_part _ part = None

abbrev pub watch_timeout_of : Step → ℕ
watch_timeout_of (step.Watch node pred thens timeout) = timeout
watch_timeout_of (step.Next watch pred thens timeout) = timeout
watch_timeout_of _ = 0

abbrev pub is_watching : Step → Bool
is_watching (step.Watch node pred thens timeout) = true
is_watching (step.Next watch pred thens timeout) = true
is_watching _ = false

-- whether a step awaits or continues the watch of a number
abbrev pub does_name_watch : ℕ → Step → Bool
does_name_watch watch (step.Await earlier goal.Watch) = earlier == watch
does_name_watch watch (step.Next earlier pred thens timeout) = earlier == watch
does_name_watch watch _ = false

-- whether the closing client had awaited or continued a watch before it closed
abbrev pub is_named_before_close : Script → ℕ → ℕ → Bool
is_named_before_close script client step = list_any (λ s. (s.client == client) && does_name_watch step s.step) (before_close script)

-- ---- parts

abbrev pub is_of_step : ℕ → ℕ → Watch → Bool
is_of_step client step watch = is_at client step watch.client watch.step

abbrev pub is_part : ℕ → ℕ → ℕ → Watch → Bool
is_part client step part watch = is_of_step client step watch && (watch.part == part)

abbrev pub part_at : List Watch → ℕ → ℕ → ℕ → Option Watch
part_at watches client step part = find (is_part client step part) watches

-- the last part of a step: parts count from 0
abbrev pub last_part : List Watch → ℕ → ℕ → Option Watch
last_part watches client step = part_at watches client step (count_by (is_of_step client step) watches - 1)

-- the version that answered a part
abbrev pub answered_version : WatchEnd → Option ℕ
answered_version (end.Answered version) = Some version
answered_version _ = None

abbrev pub has_timed_out : WatchEnd → Bool
has_timed_out (end.Timeout deadline reading) = true
has_timed_out _ = false

-- the place of the final state that a part is shown
abbrev pub final_place : Watch → ℕ
final_place watch = watch.place + watch.shown - 1

-- ---- how a part begins

-- a later part begins where the one before it was answered, and waits on from there
abbrev pub IsBegunBy : Option Watch → Watch → Type 0
IsBegunBy None watch = ⊥
IsBegunBy (Some prev) watch =
    IsTrue (is_some (answered_version prev.end)) × ((watch.last ≡ answered_version prev.end) × ((watch.place ≡ final_place prev) × (watch.at ≡ prev.at)))

-- a next step begins at or past the final state shown to the last part of the step that it names
abbrev pub IsBegunPast : List ClusterState → Option Watch → Watch → Type 0
IsBegunPast states None watch = ⊥
IsBegunPast states (Some prev) watch =
    (watch.last ≡ option_map (λ s. s.version) (slice_get states (final_place prev))) × (final_place prev ≤ watch.place)

abbrev pub IsBegunFirst : List Watch → List ClusterState → Step → Watch → Type 0
IsBegunFirst watches states (step.Next named pred thens timeout) watch = IsBegunPast states (last_part watches watch.client named) watch
IsBegunFirst watches states _ watch = watch.last ≡ None

abbrev pub IsBegun : List Watch → List ClusterState → Step → Watch → ℕ → Type 0
IsBegun watches states step watch zero = IsBegunFirst watches states step watch
IsBegun watches states step watch (suc part) = IsBegunBy (part_at watches watch.client watch.step part) watch

-- ---- how a part ends

abbrev pub IsAnsweredBy : Option ℕ → Pred → ℕ → Option ClusterState → Type 0
IsAnsweredBy last pred version None = ⊥
IsAnsweredBy last pred version (Some state) = IsTrue (is_hit_by last pred state) × (state.version ≡ version)

-- answered by the final state; at its deadline; or by the close step, unless the closing client waited for it before
abbrev pub IsPartEnd : Script → List ClusterState → Step → Pred → Watch → WatchEnd → Type 0
IsPartEnd script states step pred watch (end.Answered version) =
    IsAnsweredBy watch.last pred version (slice_get states (final_place watch))
IsPartEnd script states step pred watch (end.Timeout deadline reading) =
    (deadline ≡ due watch.at (watch_timeout_of step)) × (deadline ≤ reading)
IsPartEnd script states step pred watch (end.Closed client number) =
    IsTrue (is_close_at script client number) × (is_named_before_close script watch.client watch.step ≡ false)

-- ---- one part

-- the states that a part is shown before its final one
abbrev pub passed_by : List ClusterState → Watch → List ClusterState
passed_by states watch = take (watch.shown - 1) (drop watch.place states)

-- a part with its predicate, on a node that has these states one after the other
pub record IsPart (script : Script) (watches : List Watch) (states : List ClusterState) (step : Step) (pred : Pred) (watch : Watch) : Type 0 where
  pub begins : IsBegun watches states step watch watch.part
  pub shown : 1 ≤ watch.shown
  pub within : watch.place + watch.shown ≤ length states
  pub passed : IsTrue (list_all (λ s. not (is_hit_by watch.last pred s)) (passed_by states watch))
  pub ends : IsPartEnd script states step pred watch watch.end
  pub after_close : is_after_close script watch.client watch.step ≡ true → (watch.shown ≡ 1) × (has_timed_out watch.end ≡ false)

abbrev pub IsPartWith : Script → List Watch → List ClusterState → Step → Watch → Option Pred → Type 0
IsPartWith script watches states step watch None = ⊥
IsPartWith script watches states step watch (Some pred) = IsPart script watches states step pred watch

abbrev pub IsPartOfStep : Script → List Watch → List ClusterState → Watch → Option Step → Type 0
IsPartOfStep script watches states watch None = ⊥
IsPartOfStep script watches states watch (Some step) = IsPartWith script watches states step watch (pred_of_part step watch.part)

-- the states that the node of a step has, one after the other
abbrev pub states_at : Script → List Batch → ℕ → ℕ → List ClusterState
states_at script batches client step = applied_states script batches (node_at script client step)

abbrev pub IsWatchPart : Script → List Batch → List Watch → Watch → Type 0
IsWatchPart script batches watches watch =
    IsPartOfStep script watches (states_at script batches watch.client watch.step) watch (step_at script watch.client watch.step)

-- ---- all parts

abbrev pub has_part : List Watch → ℕ → ℕ → ℕ → Bool
has_part watches client step part = is_some (part_at watches client step part)

-- whether a step has a predicate for a part
abbrev pub has_pred : ℕ → Step → Bool
has_pred part step = is_some (pred_of_part step part)

-- whether a part is answered and a predicate is left behind it
abbrev pub goes_on : Script → Watch → Bool
goes_on script watch = is_some (answered_version watch.end) && is_some_so (has_pred (watch.part + 1)) (step_at script watch.client watch.step)

-- the parts of all watch and next steps: each step has part 0, and after an answered part the next one, while predicates
-- are left; there are no others, and none stands twice
pub record IsWatched (script : Script) (batches : List Batch) (watches : List Watch) : Type 0 where
  pub parts : AllByRecursion (IsWatchPart script batches watches) watches
  pub once : AllByRecursion (λ w. count_by (is_part w.client w.step w.part) watches ≡ 1) watches
  pub begun : AllByRecursion (λ s. is_watching s.step ≡ true → IsTrue (has_part watches s.client s.number 0)) (numbered_steps script)
  pub continued : AllByRecursion (λ w. goes_on script w ≡ true → IsTrue (has_part watches w.client w.step (w.part + 1))) watches
