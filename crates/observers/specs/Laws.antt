-- Laws of a node's watches, in terms of the states that the node had one after the other, and of the words of its watches.
-- Each is the contract of a function of its own.
use Rattle.std.specs.Prelude.{◌≡◌, ℕ, ◌+◌, ◌<◌, ◌==◌, ◌++◌, false, List, [], ◌∷◌, Option, Some, None, length, slice_get, if◌then◌else◌}
use Rattle.std.specs.List.{AllByRecursion, list_any}
use Rattle.meta_state.specs.declared.cluster_state.ClusterState.{ClusterState}
use Rattle.meta_state.specs.declared.watch_id.WatchId.{WatchId}
use Rattle.observers.specs.declared.watch_words.WatchWord.{WatchWord}
use Rattle.observers.specs.declared.watchings.WatchSpec.{WatchSpec}
use Rattle.observers.specs.Listings.{is_watch}
use Rattle.observers.specs.Registries.{Board, IsKeptWell, Registry, registered, retired, shown}
use Rattle.observers.specs.Showings.{AreShown}
use Rattle.observers.specs.Watchings.{Watching}
use Rattle.observers.specs.Words.{IsWithin, word_at}

-- ---- shown without a gap

-- a state is the last one of these, at this place
pub record IsCurrent (states : List ClusterState) (state : ClusterState) (place : ℕ) : Type 0 where
  pub is : slice_get states place ≡ Some state
  pub last : place + 1 ≡ length states

-- a watch that is registered is shown the node's state of that moment, and tested on it
abbrev pub RegisteredIsShown : Type 0
RegisteredIsShown =
    (states : List ClusterState) (node : ℕ) (spec : WatchSpec) (state : ClusterState) (place : ℕ) (b : Board) → AreShown states b.registry →
    IsCurrent states state place → 0 < length spec.preds → AreShown states (registered node spec state place b).registry

-- the state that the node applies next is shown once to each kept watch that waits
abbrev pub NextIsShown : Type 0
NextIsShown =
    (states : List ClusterState) (node : ℕ) (state : ClusterState) (b : Board) → AreShown states b.registry → IsKeptWell b.registry →
    AreShown (states ++ (state ∷ [])) (shown node state b).registry

-- a watch that is retired keeps what it was shown
abbrev pub RetiredWasShown : Type 0
RetiredWasShown = (states : List ClusterState) (id : WatchId) (r : Registry) → AreShown states r → AreShown states (retired id r)

-- ---- answered once

-- the version that answered the last predicate of a watch, where the registry holds it as answered
abbrev pub answer_in : WatchId → List Watching → Option ℕ
answer_in id [] = None
answer_in id (w ∷ more) = if is_watch id w then w.part.answered else answer_in id more

-- the version that answered a watch on a node, by its word
abbrev pub answer_told : ℕ → WatchWord → Option ℕ
answer_told node WatchWord.Vacant = None
answer_told node (WatchWord.Waiting here deadline) = None
answer_told node (WatchWord.Answered here version) = if here == node then Some version else None
answer_told node (WatchWord.Timed reading) = None
answer_told node WatchWord.Closed = None

-- each watch that is kept has a word; and the watches that the words tell as answered by the node are those that the
-- registry holds as answered, each with that version
pub record AreAgreed (node : ℕ) (b : Board) : Type 0 where
  pub words : AllByRecursion (λ w. IsWithin b.words w.spec.watch) b.registry.watchings
  pub answers : (id : WatchId) → answer_told node (word_at b.words id) ≡ answer_in id b.registry.watchings

abbrev pub RegisteredAgrees : Type 0
RegisteredAgrees =
    (node : ℕ) (spec : WatchSpec) (state : ClusterState) (place : ℕ) (b : Board) → AreAgreed node b →
    IsWithin b.words spec.watch → list_any (is_watch spec.watch) b.registry.watchings ≡ false → AreAgreed node (registered node spec state place b)

abbrev pub NextAgrees : Type 0
NextAgrees = (node : ℕ) (state : ClusterState) (b : Board) → AreAgreed node b → IsKeptWell b.registry → AreAgreed node (shown node state b)
