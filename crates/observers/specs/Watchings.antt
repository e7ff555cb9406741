-- A watch that was registered at a node: it is shown the node's states one after the other without a gap, from its place
-- on, and its part is answered by the first that is newer than what it has to be past and meets its predicate. Where a
-- predicate is left then, the next part begins at once, and that state counts as shown to it (Elasticsearch's
-- `ClusterStateObserver`; parts and places are this project's own).
use Rattle.std.specs.Prelude.{◌≡◌, ◌≤◌, ◌^◌, ℕ, ◌+◌, ◌-◌, ◌++◌, ◌∷◌, Bool, true, false, List, [], Option, Some, None, length, slice_get, nat_lt, if◌then◌else◌}
use Rattle.meta_state.specs.declared.cluster_state.ClusterState.{ClusterState}
use Rattle.meta_state.specs.declared.predicates.Pred.{Pred}
use Rattle.meta_state.specs.Hits.{is_hit_by}
use Rattle.observers.specs.declared.watch_words.WatchWord.{WatchWord}
use Rattle.observers.specs.declared.watchings.FinalShown.{FinalShown}
use Rattle.observers.specs.declared.watchings.WatchPart.{WatchPart}
use Rattle.observers.specs.declared.watchings.WatchSpec.{WatchSpec}

-- a watch that was registered at a node
pub record Watching : Type 0 where
  pub spec : WatchSpec
  -- its parts before the last one: each was answered
  pub before : List WatchPart
  -- the last part that began
  pub part : WatchPart
  -- the version of the final state shown to that part
  pub version : ℕ
  -- whether it is shown no more states: its last predicate was answered, or it was retired
  pub over : Bool

-- ---- parts

-- the place of the final state that a part was shown
abbrev pub final_place : WatchPart → ℕ
final_place part = part.place + part.shown - 1

abbrev pub final_of : Watching → FinalShown
final_of w = record { place = final_place w.part; version = w.version }

-- all parts of a watch, in order
abbrev pub parts_of : Watching → List WatchPart
parts_of w = w.before ++ (w.part ∷ [])

-- the predicate of its last part
abbrev pub pred_of : Watching → Option Pred
pred_of w = slice_get w.spec.preds w.part.part

-- whether a predicate is left for a part behind the last one
abbrev pub has_more : Watching → Bool
has_more w = nat_lt (w.part.part + 1) (length w.spec.preds)

-- ---- a state that it is shown

-- a part was answered by the final state that it was shown
abbrev pub answered_part : ℕ → WatchPart → WatchPart
answered_part version part = record part { answered = Some version }

-- the part behind it: it begins where that one was answered
abbrev pub next_part : ℕ → WatchPart → WatchPart
next_part version part = record part {
  part = part.part + 1;
  last = Some version;
  place = final_place part;
  shown = 1;
  answered = None;
}

-- the watch, whose last part was answered by the final state that it was shown
abbrev pub answered_by_final : Watching → Watching
answered_by_final w =
    if has_more w
    then record w { before = w.before ++ (answered_part w.version w.part ∷ []); part = next_part w.version w.part }
    else record w { part = answered_part w.version w.part; over = true }

-- whether a state hits a part of this predicate
abbrev pub does_hit : Option ℕ → Option Pred → ClusterState → Bool
does_hit last None state = false
does_hit last (Some pred) state = is_hit_by last pred state

-- the final state that it was shown is tested
abbrev pub tested_with : ClusterState → Watching → Watching
tested_with state w = if does_hit w.part.last (pred_of w) state then answered_by_final w else w

-- its last part counts one more state as shown
abbrev pub counted_with : ClusterState → Watching → Watching
counted_with state w = record w { part = record w.part { shown = w.part.shown + 1 }; version = state.version }

-- it is shown the state behind the final one, and that is tested
abbrev pub shown_to : ClusterState → Watching → Watching
shown_to state w = tested_with state (counted_with state w)

-- ---- how it begins

abbrev pub first_part : WatchSpec → ℕ → WatchPart
first_part spec place = record { watch = spec.watch; part = 0; last = spec.last; place = place; shown = 1; answered = None }

-- a watch that was shown its first state, which wasn't tested yet
abbrev pub begun_by : WatchSpec → ClusterState → ℕ → Watching
begun_by spec state place = record { spec = spec; before = []; part = first_part spec place; version = state.version; over = false }

-- the word of a watch that waits on a node, after a state was tested
abbrev pub word_after : ℕ → Watching → WatchWord → WatchWord
word_after node w word = if w.over then WatchWord.Answered node w.version else word

-- ---- what is always so of one

-- its parts are numbered, there is a predicate for each of them, few of these and room for the parts of all, and the
-- places of what it was shown are small
pub record IsWatching (preds : List Pred) (before : List WatchPart) (part : WatchPart) (room : ℕ) : Type 0 where
  pub number : length before ≡ part.part
  pub within : part.part + 1 ≤ length preds
  pub few : length preds ≤ 9
  pub fits : length preds ≤ room
  pub shown : 1 ≤ part.shown
  pub place : part.place + part.shown ≤ 2 ^ 32
