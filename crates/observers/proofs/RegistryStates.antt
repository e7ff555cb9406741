-- The watches of a node and the states that it had one after the other: what they were shown stays so where a watch is
-- registered, where the next state is shown to those that are kept, and where one is retired.
use Rattle.std.specs.Prelude.{◌≡◌, ℕ, ◌+◌, ◌<◌, ◌≤◌, ◌++◌, Bool, true, false, not, List, [], ◌∷◌, Option, Some, None, length, map, set, slice_get, option_map, refl, if◌then◌else◌}
use Rattle.std.proofs.Common.{sym, subst, arith, inl, inr, ◌⊎◌, ◌≢◌}
use Rattle.std.specs.List.{AllByRecursion}
use Rattle.std.proofs.lemmas.Bool.{true≢false, and_parts, not-true}
use Rattle.std.proofs.lemmas.List.{length-set}
use Rattle.std.proofs.lemmas.Option.{slice_get-map}
use Rattle.meta_state.specs.declared.cluster_state.ClusterState.{ClusterState}
use Rattle.meta_state.specs.declared.watch_id.WatchId.{WatchId}
use Rattle.plain_data.proofs.Cells.{same_or_not}
use Rattle.observers.specs.declared.watchings.WatchSpec.{WatchSpec}
use Rattle.observers.specs.Laws.{IsCurrent, NextIsShown, RegisteredIsShown, RetiredWasShown}
use Rattle.observers.specs.Listings.{is_watch}
use Rattle.observers.specs.Registries.{AreRising, Board, after_shown, ended_if, is_shown, kept_with, none_kept, placed, placed_over, shown_each, shown_so}
use Rattle.observers.specs.Showings.{AreShown, IsKeptUp, IsShown, IsUpToDate}
use Rattle.observers.specs.Watchings.{Watching, begun_by, shown_to, tested_with}
use Rattle.observers.specs.Words.{waits_on, word_at}
use Rattle.observers.proofs.Places.{all_behind, all_by, all_map, all_set, at_before, at_behind, at_set_other, at_set_same, so_at}
use Rattle.observers.proofs.WatchStates.{begun_by_is_shown, begun_is_shown, begun_up, shown_grows, shown_to_keeps, shown_to_up}

-- ---- numbers that are kept

kept_by : (P : ℕ → Type 0) (number : ℕ) (over : Bool) (kept : List ℕ) → AllByRecursion P kept → (over ≡ false → P number)
    → AllByRecursion P (if over then kept else kept ++ (number ∷ []))
kept_by P number true kept h on = h
kept_by P number false kept h on = all_behind P kept number h (on refl)

-- what is so of each kept number and, unless it is over, of a watch's is so of them with that
all_kept_with : (P : ℕ → Type 0) (number : ℕ) (w : Watching) (kept : List ℕ) → AllByRecursion P kept → (w.over ≡ false → P number) → AllByRecursion P (kept_with number w kept)
all_kept_with P number w kept h on = kept_by P number w.over kept h on

-- what is at numbers from one on stays where the item below them is set
pub rising_set : {A : Type 0} (P : Option A → Type 0) (xs : List A) (number : ℕ) (x : A) (least bound : ℕ) (numbers : List ℕ) → number < least
    → AreRising least bound numbers → AllByRecursion (λ n. P (slice_get xs n)) numbers → AllByRecursion (λ n. P (slice_get (set xs number x) n)) numbers
rising_set P xs number x least bound [] below rising h = tt
rising_set P xs number x least bound (next ∷ numbers) below rising h =
    let above : least ≤ next = rising.0 in
    let apart : next ≢ number = omega arith in
    (subst P (sym (at_set_other xs number next x apart)) h.0, rising_set P xs number x (next + 1) bound numbers (omega arith) rising.1.1 h.1)

-- ---- a watch is registered

kept_up_before : (states : List ClusterState) (watchings more : List Watching) (number : ℕ) (found : Option Watching) → slice_get watchings number ≡ found → IsKeptUp states found
    → IsKeptUp states (slice_get (watchings ++ more) number)
kept_up_before states watchings more number None e h = absurd h
kept_up_before states watchings more number (Some w) e h = subst (IsKeptUp states) (sym (at_before watchings more number w e)) h

kept_up_with : (states : List ClusterState) (watchings : List Watching) (w : Watching) (kept : List ℕ)
    → AllByRecursion (λ number. IsKeptUp states (slice_get watchings number)) kept
    → AllByRecursion (λ number. IsKeptUp states (slice_get (watchings ++ (w ∷ [])) number)) kept
kept_up_with states watchings w kept h =
    all_by (λ number. IsKeptUp states (slice_get watchings number)) (λ number. IsKeptUp states (slice_get (watchings ++ (w ∷ [])) number))
    (λ number up. kept_up_before states watchings (w ∷ []) number (slice_get watchings number) refl up) kept h

pub placed_is_shown : (states : List ClusterState) (node : ℕ) (w : Watching) (b : Board) → AreShown states b.registry → IsShown states w → (w.over ≡ false → IsUpToDate states w)
    → AreShown states (placed node w b).registry
placed_is_shown states node w b h is up =
    let watchings = b.registry.watchings in
    record {
      shown = all_behind (IsShown states) watchings w h.shown is;
      kept = all_kept_with (λ number. IsKeptUp states (slice_get (watchings ++ (w ∷ [])) number)) (length watchings) w b.registry.kept
          (kept_up_with states watchings w b.registry.kept h.kept) (λ on. subst (IsKeptUp states) (sym (at_behind watchings w)) up);
    }

pub placed_over_is_shown : (states : List ClusterState) (w : Watching) (b : Board) → AreShown states b.registry → IsShown states w → AreShown states (placed_over w b).registry
placed_over_is_shown states w b h is = record {
  shown = all_behind (IsShown states) b.registry.watchings w h.shown is;
  kept = kept_up_with states b.registry.watchings w b.registry.kept h.kept;
}

registered_so : (states : List ClusterState) (node : ℕ) (spec : WatchSpec) (state : ClusterState) (place : ℕ) (b : Board) (waits : Bool) → AreShown states b.registry
    → IsCurrent states state place → 0 < length spec.preds
    → AreShown states (if waits then placed node (tested_with state (begun_by spec state place)) b else placed_over (begun_by spec state place) b).registry
registered_so states node spec state place b true h at some =
    placed_is_shown states node (tested_with state (begun_by spec state place)) b h (begun_is_shown states spec state place at.is at.last some)
    (begun_up states spec state place at.is at.last some)
registered_so states node spec state place b false h at some =
    placed_over_is_shown states (begun_by spec state place) b h (begun_by_is_shown states spec state place at.is at.last some)

pub registered_is_shown : RegisteredIsShown
registered_is_shown states node spec state place b h at some = registered_so states node spec state place b (waits_on node (word_at b.words spec.watch)) h at some

-- ---- the next state is shown

-- a watch that is yet to be shown the next state
abbrev IsDue : List ClusterState → Option Watching → Type 0
IsDue states None = ⊥
IsDue states (Some w) = IsShown states w × (w.over ≡ false → IsUpToDate states w)

-- some kept watches were shown the next state, and these are yet to be
record IsUnderWay (states : List ClusterState) (state : ClusterState) (numbers : List ℕ) (least : ℕ) (b : Board) : Type 0 where
  shown : AllByRecursion (IsShown (states ++ (state ∷ []))) b.registry.watchings
  kept : AllByRecursion (λ number. IsKeptUp (states ++ (state ∷ [])) (slice_get b.registry.watchings number)) b.registry.kept
  rising : AreRising least (length b.registry.watchings) numbers
  due : AllByRecursion (λ number. IsDue states (slice_get b.registry.watchings number)) numbers

kept_set : (states : List ClusterState) (watchings : List Watching) (number : ℕ) (before w : Watching) → slice_get watchings number ≡ Some before → (w.over ≡ false → IsUpToDate states w)
    → (other : ℕ) → IsKeptUp states (slice_get watchings other) → (other ≡ number) ⊎ (other ≢ number) → IsKeptUp states (slice_get (set watchings number w) other)
kept_set states watchings number before w at up other h (inl same) =
    subst (λ (n : ℕ). IsKeptUp states (slice_get (set watchings number w) n)) (sym same)
    (subst (IsKeptUp states) (sym (at_set_same watchings number before w at)) up)
kept_set states watchings number before w at up other h (inr apart) = subst (IsKeptUp states) (sym (at_set_other watchings number other w apart)) h

after_under_way : (states : List ClusterState) (node : ℕ) (state : ClusterState) (number : ℕ) (numbers : List ℕ) (least : ℕ) (b : Board) (before : Watching)
    → IsUnderWay states state (number ∷ numbers) least b → slice_get b.registry.watchings number ≡ Some before → before.over ≡ false
    → IsUnderWay states state numbers (number + 1) (after_shown node number (shown_to state before) b)
after_under_way states node state number numbers least b before h at on =
    let new = states ++ (state ∷ []) in
    let watchings = b.registry.watchings in
    let w = shown_to state before in
    let due = subst (IsDue states) at h.due.0 in
    let up : w.over ≡ false → IsUpToDate new w = shown_to_up states state before due.0 (due.1 on) in
    let P : ℕ → Type 0 = λ (n : ℕ). IsKeptUp new (slice_get watchings n) in
    let Q : ℕ → Type 0 = λ (n : ℕ). IsKeptUp new (slice_get (set watchings number w) n) in
    record {
      shown = all_set (IsShown new) watchings number w h.shown (shown_to_keeps states state before due.0 (due.1 on));
      kept = all_kept_with Q number w b.registry.kept
          (all_by P Q (λ n kept. kept_set new watchings number before w at up n kept (same_or_not n number)) b.registry.kept h.kept)
          (λ over. subst (IsKeptUp new) (sym (at_set_same watchings number before w at)) up);
      rising = subst (λ (bound : ℕ). AreRising (number + 1) bound numbers) (sym (length-set watchings number w)) h.rising.1.1;
      due = rising_set (IsDue states) watchings number w (number + 1) (length watchings) numbers (omega arith) h.rising.1.1 h.due.1;
    }

left_under_way : (states : List ClusterState) (state : ClusterState) (number : ℕ) (numbers : List ℕ) (least : ℕ) (b : Board) → IsUnderWay states state (number ∷ numbers) least b
    → IsUnderWay states state numbers (number + 1) b
left_under_way states state number numbers least b h = record { shown = h.shown; kept = h.kept; rising = h.rising.1.1; due = h.due.1 }

one_under_way : (states : List ClusterState) (node : ℕ) (state : ClusterState) (number : ℕ) (numbers : List ℕ) (least : ℕ) (b : Board) (w : Watching)
    → IsUnderWay states state (number ∷ numbers) least b → slice_get b.registry.watchings number ≡ Some w → (showing : Bool) → is_shown node w b.words ≡ showing
    → IsUnderWay states state numbers (number + 1) (if showing then after_shown node number (shown_to state w) b else b)
one_under_way states node state number numbers least b w h at true e =
    after_under_way states node state number numbers least b w h at (not-true w.over (and_parts (not w.over) (waits_on node (word_at b.words w.spec.watch)) e).0)
one_under_way states node state number numbers least b w h at false e = left_under_way states state number numbers least b h

so_under_way : (states : List ClusterState) (node : ℕ) (state : ClusterState) (number : ℕ) (numbers : List ℕ) (least : ℕ) (b : Board)
    → IsUnderWay states state (number ∷ numbers) least b → (found : Option Watching) → slice_get b.registry.watchings number ≡ found
    → IsUnderWay states state numbers (number + 1) (shown_so node state number found b)
so_under_way states node state number numbers least b h None at = left_under_way states state number numbers least b h
so_under_way states node state number numbers least b h (Some w) at = one_under_way states node state number numbers least b w h at (is_shown node w b.words) refl

each_under_way : (states : List ClusterState) (node : ℕ) (state : ClusterState) (numbers : List ℕ) (least : ℕ) (b : Board) → IsUnderWay states state numbers least b
    → AreShown (states ++ (state ∷ [])) (shown_each node state numbers b).registry
each_under_way states node state [] least b h = record { shown = h.shown; kept = h.kept }
each_under_way states node state (number ∷ numbers) least b h =
    each_under_way states node state numbers (number + 1) (shown_so node state number (slice_get b.registry.watchings number) b)
    (so_under_way states node state number numbers least b h (slice_get b.registry.watchings number) refl)

kept_is_due : (states : List ClusterState) (watchings : List Watching) (number : ℕ) (found : Option Watching) → AllByRecursion (IsShown states) watchings
    → slice_get watchings number ≡ found → IsKeptUp states found → IsDue states found
kept_is_due states watchings number None all e h = h
kept_is_due states watchings number (Some w) all e h = (so_at (IsShown states) watchings number w all e, h)

pub next_is_shown : NextIsShown
next_is_shown states node state b h well =
    let watchings = b.registry.watchings in
    each_under_way states node state b.registry.kept 0 (none_kept b) (record {
      shown = all_by (IsShown states) (IsShown (states ++ (state ∷ []))) (shown_grows states (state ∷ [])) watchings h.shown;
      kept = tt;
      rising = well.kept;
      due = all_by (λ number. IsKeptUp states (slice_get watchings number)) (λ number. IsDue states (slice_get watchings number))
          (λ number up. kept_is_due states watchings number (slice_get watchings number) h.shown refl up) b.registry.kept h.kept;
    })

-- ---- a watch is retired

over_is_shown : (states : List ClusterState) (w : Watching) → IsShown states w → IsShown states (record w { over = true })
over_is_shown states w h = record { begun = h.begun; parts = h.parts; few = h.few; final = h.final; whole = h.whole; ended = λ version e. refl }

ended_so_is_shown : (states : List ClusterState) (w : Watching) (ends : Bool) → IsShown states w → IsShown states (if ends then record w { over = true } else w)
ended_so_is_shown states w true h = over_is_shown states w h
ended_so_is_shown states w false h = h

pub ended_is_shown : (states : List ClusterState) (id : WatchId) (w : Watching) → IsShown states w → IsShown states (ended_if id w)
ended_is_shown states id w h = ended_so_is_shown states w (is_watch id w) h

ended_so_up : (states : List ClusterState) (w : Watching) (ends : Bool) → (w.over ≡ false → IsUpToDate states w) → (if ends then record w { over = true } else w).over ≡ false
    → IsUpToDate states (if ends then record w { over = true } else w)
ended_so_up states w true h on = absurd (true≢false on)
ended_so_up states w false h on = h on

retired_up : (states : List ClusterState) (id : WatchId) (found : Option Watching) → IsKeptUp states found → IsKeptUp states (option_map (ended_if id) found)
retired_up states id None h = h
retired_up states id (Some w) h = λ on. ended_so_up states w (is_watch id w) h on

pub retired_was_shown : RetiredWasShown
retired_was_shown states id r h = record {
  shown = all_map (IsShown states) (ended_if id) r.watchings (all_by (IsShown states) (λ w. IsShown states (ended_if id w)) (ended_is_shown states id) r.watchings h.shown);
  kept = all_by (λ number. IsKeptUp states (slice_get r.watchings number)) (λ number. IsKeptUp states (slice_get (map (ended_if id) r.watchings) number))
      (λ number up. subst (IsKeptUp states) (sym (slice_get-map (ended_if id) r.watchings number)) (retired_up states id (slice_get r.watchings number) up)) r.kept h.kept;
}
