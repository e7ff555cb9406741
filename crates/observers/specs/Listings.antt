-- The watches that were registered at a node as a list: how one is found by its identifier, and changed by its number.
-- This form is the project's own.
use Rattle.std.specs.Prelude.{◌≡◌, ℕ, Bool, ◌&&◌, List, Option, Some, None, nat_eq, set, slice_get}
use Rattle.std.specs.List.{AllByRecursion, find}
use Rattle.meta_state.specs.declared.watch_id.WatchId.{WatchId}
use Rattle.observers.specs.declared.watchings.FinalShown.{FinalShown}
use Rattle.observers.specs.Watchings.{Watching, final_of}

abbrev pub is_watch : WatchId → Watching → Bool
is_watch id w = nat_eq id.client w.spec.watch.client && nat_eq id.step w.spec.watch.step

-- the watch of an identifier
abbrev pub found_watch : WatchId → List Watching → Option Watching
found_watch id watchings = find (is_watch id) watchings

abbrev pub final_if : Option Watching → FinalShown
final_if None = record { place = 0; version = 0 }
final_if (Some w) = final_of w

-- the final state that the watch of an identifier was shown
abbrev pub final_in : WatchId → List Watching → FinalShown
final_in id watchings = final_if (found_watch id watchings)

abbrev pub changed_if : (Watching → Watching) → ℕ → List Watching → Option Watching → List Watching
changed_if change number watchings None = watchings
changed_if change number watchings (Some w) = set watchings number (change w)

-- the list with the watch of a number changed
abbrev pub changed_at : (Watching → Watching) → ℕ → List Watching → List Watching
changed_at change number watchings = changed_if change number watchings (slice_get watchings number)

-- each watch stands at its own identifier
abbrev pub AreKeyed : List (WatchId × Watching) → Type 0
AreKeyed entries = AllByRecursion (λ e. e.0 ≡ e.1.spec.watch) entries
