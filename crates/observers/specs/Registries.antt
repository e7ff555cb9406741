-- The watches that were registered at a node, in the order of registration, and which of them are still shown each state
-- that the node applies. Their words stand apart, in a table of all watches. This form is the project's own.
use Rattle.std.specs.Prelude.{◌≡◌, ◌<◌, ◌≤◌, ℕ, ◌+◌, ◌*◌, ◌^◌, ◌++◌, ◌∷◌, ◌&&◌, Bool, true, false, not, List, [], Option, Some, None, flat_map, length, map, set, sum_by, slice_get, IsTrue, if◌then◌else◌}
use Rattle.std.specs.List.{AllByRecursion, list_any}
use Rattle.meta_state.specs.declared.cluster_state.ClusterState.{ClusterState}
use Rattle.meta_state.specs.declared.watch_id.WatchId.{WatchId}
use Rattle.observers.specs.declared.watchings.WatchPart.{WatchPart}
use Rattle.observers.specs.declared.watchings.WatchSpec.{WatchSpec}
use Rattle.observers.specs.Listings.{is_watch}
use Rattle.observers.specs.Watchings.{Watching, begun_by, parts_of, shown_to, tested_with, word_after}
use Rattle.observers.specs.Words.{IsWithin, WatchTable, waits_on, with_word, word_at}

pub record Registry : Type 0 where
  -- all watches that were registered, in order
  pub watchings : List Watching
  -- the numbers of those that are kept, in order: the others are shown no more states
  pub kept : List ℕ

-- a registry, and the words of all watches
pub record Board : Type 0 where
  pub registry : Registry
  pub words : WatchTable

abbrev pub board_of : List Watching → List ℕ → WatchTable → Board
board_of watchings kept words = record { registry = record { watchings = watchings; kept = kept }; words = words }

abbrev pub empty_registry : Registry
empty_registry = record { watchings = []; kept = [] }

-- ---- words

-- the words after a watch on a node, which waited, was shown a state
abbrev pub told : ℕ → Watching → WatchTable → WatchTable
told node w words = with_word w.spec.watch (word_after node w (word_at words w.spec.watch)) words

-- ---- registration

-- the numbers that are kept, with that of a watch if it isn't over
abbrev pub kept_with : ℕ → Watching → List ℕ → List ℕ
kept_with number w kept = if w.over then kept else kept ++ (number ∷ [])

-- a watch that waits is registered after its first state was tested
abbrev pub placed : ℕ → Watching → Board → Board
placed node w b = record {
  registry = record {
    watchings = b.registry.watchings ++ (w ∷ []);
    kept = kept_with (length b.registry.watchings) w b.registry.kept;
  };
  words = told node w b.words;
}

-- one that doesn't wait was shown its first state and nothing more
abbrev pub placed_over : Watching → Board → Board
placed_over w b = record b { registry = record b.registry { watchings = b.registry.watchings ++ (w ∷ []) } }

-- a watch is registered at a node whose state is this, at its place
abbrev pub registered : ℕ → WatchSpec → ClusterState → ℕ → Board → Board
registered node spec state place b =
    if waits_on node (word_at b.words spec.watch)
    then placed node (tested_with state (begun_by spec state place)) b
    else placed_over (begun_by spec state place) b

-- ---- a state that is shown

-- whether a watch is shown a state: it isn't over, and waits on the node
abbrev pub is_shown : ℕ → Watching → WatchTable → Bool
is_shown node w words = not w.over && waits_on node (word_at words w.spec.watch)

abbrev pub is_shown_if : ℕ → Option Watching → WatchTable → Bool
is_shown_if node None words = false
is_shown_if node (Some w) words = is_shown node w words

-- a kept watch has been shown a state
abbrev pub after_shown : ℕ → ℕ → Watching → Board → Board
after_shown node number w b = record {
  registry = record { watchings = set b.registry.watchings number w; kept = kept_with number w b.registry.kept };
  words = told node w b.words;
}

abbrev pub shown_so : ℕ → ClusterState → ℕ → Option Watching → Board → Board
shown_so node state number None b = b
shown_so node state number (Some w) b = if is_shown node w b.words then after_shown node number (shown_to state w) b else b

-- each of these is shown a state, and kept if it goes on waiting
abbrev pub shown_each : ℕ → ClusterState → List ℕ → Board → Board
shown_each node state [] b = b
shown_each node state (number ∷ more) b = shown_each node state more (shown_so node state number (slice_get b.registry.watchings number) b)

abbrev pub none_kept : Board → Board
none_kept b = record b { registry = record b.registry { kept = [] } }

-- each kept watch is shown the state that a node has applied
abbrev pub shown : ℕ → ClusterState → Board → Board
shown node state b = shown_each node state b.registry.kept (none_kept b)

-- ---- the end

-- a watch is shown no more states
abbrev pub ended_if : WatchId → Watching → Watching
ended_if id w = if is_watch id w then record w { over = true } else w

abbrev pub retired : WatchId → Registry → Registry
retired id r = record r { watchings = map (ended_if id) r.watchings }

-- all parts, by watch in order of registration
abbrev pub all_parts : Registry → List WatchPart
all_parts r = flat_map parts_of r.watchings

-- ---- what the code of this asks and keeps

-- a watch is there and, where it goes on, was shown all states before this place from its own on
abbrev pub IsNextAt : ℕ → Option Watching → Type 0
IsNextAt place None = ⊥
IsNextAt place (Some w) = w.over ≡ false → w.part.place + w.part.shown ≡ place

abbrev pub AreNextAt : ℕ → Registry → Type 0
AreNextAt place r = AllByRecursion (λ number. IsNextAt place (slice_get r.watchings number)) r.kept

-- a watch is there, and is shown more states
abbrev pub IsGoingOn : Option Watching → Type 0
IsGoingOn None = ⊥
IsGoingOn (Some w) = w.over ≡ false

-- each kept watch has a word
abbrev pub IsWordOf : WatchTable → Option Watching → Type 0
IsWordOf words None = ⊥
IsWordOf words (Some w) = IsWithin words w.spec.watch

abbrev pub HaveWords : Board → Type 0
HaveWords b = AllByRecursion (λ number. IsWordOf b.words (slice_get b.registry.watchings number)) b.registry.kept

-- whether a watch was registered
abbrev pub IsRegistered : WatchId → Registry → Type 0
IsRegistered id r = IsTrue (list_any (is_watch id) r.watchings)

-- numbers rise strictly from a first one on, and are below a bound
abbrev pub AreRising : ℕ → ℕ → List ℕ → Type 0
AreRising least bound [] = Unit {0}
AreRising least bound (number ∷ more) = (least ≤ number) × ((number < bound) × AreRising (number + 1) bound more)

-- whether any of these watches has an identifier that one of others has
abbrev pub AreApart : List Watching → Type 0
AreApart [] = Unit {0}
AreApart (w ∷ more) = (list_any (is_watch w.spec.watch) more ≡ false) × AreApart more

-- what is always so of a registry: a kept watch is kept once, and no watch was registered twice
pub record IsKeptWell (r : Registry) : Type 0 where
  pub kept : AreRising 0 (length r.watchings) r.kept
  pub apart : AreApart r.watchings

-- how many parts may come of these watches: one for each predicate
abbrev pub part_count : List Watching → ℕ
part_count watchings = sum_by (λ w. length w.spec.preds) watchings

-- what is kept beside a registry, so that only a registration takes memory: an empty list with room for those that are
-- kept after the next state, how many parts may come, and an empty list with room for these
pub record IsRoomy (r : Registry) (next : List ℕ) (parts : List WatchPart) (coming kept_room next_room part_room : ℕ) : Type 0 where
  pub well : IsKeptWell r
  pub few : length r.watchings < 2 ^ 18
  pub none_next : next ≡ []
  pub none_parts : parts ≡ []
  pub counted : coming ≡ part_count r.watchings
  pub few_parts : coming ≤ 9 * length r.watchings
  pub fits_kept : length r.watchings ≤ kept_room
  pub fits_next : length r.watchings ≤ next_room
  pub fits_parts : coming ≤ part_room
