-- What is kept beside a registry, as a watch is registered and as the watches change while what they ask stays.
use Rattle.std.proofs.Common.{◌≡◌, ◌<◌, ◌≤◌, ◌+◌, ◌*◌, ◌^◌, ◌∙◌, ◌||◌, ℕ, Bool, true, false, List, [], ◌∷◌, ◌++◌, Some, arith, length, length-append, map, slice_get, refl, sym, ap, subst, sum_by, if◌then◌else◌}
use Rattle.std.specs.List.{fold, list_any}
use Rattle.std.proofs.lemmas.Bool.{or_parts}
use Rattle.std.proofs.lemmas.List.{length-map}
use Rattle.std.proofs.lemmas.List.Folds.{list_any-append}
use Rattle.std.proofs.lemmas.List.Sums.{sum_by-append}
use Rattle.std.proofs.lemmas.Option.{same_Some}
use Rattle.meta_state.specs.declared.watch_id.WatchId.{WatchId}
use Rattle.observers.specs.declared.watchings.WatchPart.{WatchPart}
use Rattle.observers.specs.declared.watchings.WatchSpec.{WatchSpec}
use Rattle.observers.specs.Listings.{is_watch}
use Rattle.observers.specs.Registries.{AreApart, AreRising, ended_if, IsRoomy, kept_with, part_count}
use Rattle.observers.specs.Watchings.{Watching}
use Rattle.observers.proofs.Entries.{same_watch, same_watch_equiv}
use Rattle.observers.proofs.Places.{at_behind}
use Rattle.observers.proofs.Rising.{rising_below, rising_count, rising_kept_with}
use Rattle.observers.proofs.Showing.{specs_of}

-- ---- what follows from what the watches ask

abbrev AreApartSpecs : List WatchSpec → Type 0
AreApartSpecs [] = Unit {0}
AreApartSpecs (s ∷ more) = (list_any (λ t. same_watch s.watch t.watch) more ≡ false) × AreApartSpecs more

any-specs : (id : WatchId) (watchings : List Watching) → list_any (λ s. same_watch id s.watch) (specs_of watchings) ≡ list_any (is_watch id) watchings
any-specs id [] = refl
any-specs id (w ∷ more) = ap (λ b. is_watch id w || b) (any-specs id more)

to_specs : (watchings : List Watching) → AreApart watchings → AreApartSpecs (specs_of watchings)
to_specs [] h = tt
to_specs (w ∷ more) h = (any-specs w.spec.watch more ∙ h.0, to_specs more h.1)

from_specs : (watchings : List Watching) → AreApartSpecs (specs_of watchings) → AreApart watchings
from_specs [] h = tt
from_specs (w ∷ more) h = (sym (any-specs w.spec.watch more) ∙ h.0, from_specs more h.1)

length_by_specs : (before after : List Watching) → specs_of after ≡ specs_of before → length after ≡ length before
length_by_specs before after same = sym (length-map after (λ w. w.spec)) ∙ ap (λ (l : List WatchSpec). length l) same ∙ length-map before (λ w. w.spec)

fold-specs : (n : ℕ) (watchings : List Watching) → fold (λ (a : ℕ) (s : WatchSpec). a + length s.preds) n (specs_of watchings) ≡ fold (λ (a : ℕ) (w : Watching). a + length w.spec.preds) n watchings
fold-specs n [] = refl
fold-specs n (w ∷ more) = fold-specs (n + length w.spec.preds) more

parts-specs : (watchings : List Watching) → sum_by (λ s. length s.preds) (specs_of watchings) ≡ part_count watchings
parts-specs watchings = fold-specs 0 watchings

pub roomy_after : (before after : List Watching) (kept left next none : List ℕ) (parts : List WatchPart) (coming kept_room next_room part_room kept_after next_after : ℕ)
    → IsRoomy (record { watchings = before; kept = kept }) next parts coming kept_room next_room part_room
    → specs_of after ≡ specs_of before → AreRising 0 (length before) left → none ≡ [] → length before ≤ kept_after → length before ≤ next_after
    → IsRoomy (record { watchings = after; kept = left }) none parts coming kept_after next_after part_room
roomy_after before after kept left next none parts coming kept_room next_room part_room kept_after next_after r same rising is_none fits_kept fits_next =
    let count : length after ≡ length before = length_by_specs before after same in
    record {
      well = record {
        kept = subst (λ n. AreRising 0 n left) (sym count) rising;
        apart = from_specs after (subst AreApartSpecs (sym same) (to_specs before r.well.apart));
      };
      few = subst (λ n. n < 2 ^ 18) (sym count) r.few;
      none_next = is_none;
      none_parts = r.none_parts;
      counted = r.counted ∙ sym (parts-specs before) ∙ ap (λ (l : List WatchSpec). sum_by (λ s. length s.preds) l) (sym same) ∙ parts-specs after;
      few_parts = subst (λ n. coming ≤ 9 * n) (sym count) r.few_parts;
      fits_kept = subst (λ n. n ≤ kept_after) (sym count) fits_kept;
      fits_next = subst (λ n. n ≤ next_after) (sym count) fits_next;
      fits_parts = r.fits_parts;
    }

-- ---- a watch is ended

spec-ended : (id : WatchId) (w : Watching) → (ended_if id w).spec ≡ w.spec
spec-ended id w = by (is_watch id w) where
  by : (b : Bool) → (if b then record w { over = true } else w).spec ≡ w.spec
  by true = refl
  by false = refl

pub specs-ended : (id : WatchId) (watchings : List Watching) → specs_of (map (ended_if id) watchings) ≡ specs_of watchings
specs-ended id [] = refl
specs-ended id (w ∷ more) = λ i. spec-ended id w i ∷ specs-ended id more i

-- ---- one more watch

apart_added : (watchings : List Watching) (w : Watching) → AreApart watchings → list_any (is_watch w.spec.watch) watchings ≡ false → AreApart (watchings ++ w ∷ [])
apart_added [] w h fresh = (refl, tt)
apart_added (v ∷ more) w h fresh =
    let parts = or_parts (is_watch w.spec.watch v) (list_any (is_watch w.spec.watch) more) fresh in (
      list_any-append (is_watch v.spec.watch) more (w ∷ [])
          ∙ (λ i. h.0 i || ((same_watch_equiv.symm v.spec.watch w.spec.watch ∙ parts.0) i || false)),
      apart_added more w h.1 parts.1,
    )

zero_before : (n : ℕ) → 0 + n ≡ n
zero_before n = omega arith

part_count-added : (before : List Watching) (w : Watching) → part_count (before ++ w ∷ []) ≡ part_count before + length w.spec.preds
part_count-added before w = sum_by-append (λ (v : Watching). length v.spec.preds) before (w ∷ []) ∙ ap (λ n. sum_by (λ (v : Watching). length v.spec.preds) before + n) (zero_before (length w.spec.preds))

pub roomy_added : (before after : List Watching) (w : Watching) (kept same_kept next same_next : List ℕ) (parts same_parts : List WatchPart) (coming more_coming kept_room next_room part_room kept_after next_after part_after : ℕ)
    → IsRoomy (record { watchings = before; kept = kept }) next parts coming kept_room next_room part_room
    → after ≡ before ++ w ∷ [] → same_kept ≡ kept → same_next ≡ next → same_parts ≡ parts → more_coming ≡ coming + length w.spec.preds
    → list_any (is_watch w.spec.watch) before ≡ false → length w.spec.preds ≤ 9 → length before + 1 < 2 ^ 18
    → length before + 1 ≤ kept_after → length before + 1 ≤ next_after → more_coming ≤ part_after
    → IsRoomy (record { watchings = after; kept = same_kept }) same_next same_parts more_coming kept_after next_after part_after
roomy_added before after w kept same_kept next same_next parts same_parts coming more_coming kept_room next_room part_room kept_after next_after part_after r grown is_kept is_next is_parts coming_is fresh few room fits_kept fits_next fits_parts =
    let count : length after ≡ length before + 1 = ap (λ (l : List Watching). length l) grown ∙ length-append before (w ∷ []) in
    record {
      well = record {
        kept = subst (λ n. AreRising 0 n same_kept) (sym count) (rising_below 0 (length before) (length before + 1) same_kept (omega arith) (subst (AreRising 0 (length before)) (sym is_kept) r.well.kept));
        apart = subst AreApart (sym grown) (apart_added before w r.well.apart fresh);
      };
      few = subst (λ n. n < 2 ^ 18) (sym count) room;
      none_next = is_next ∙ r.none_next;
      none_parts = is_parts ∙ r.none_parts;
      counted = coming_is ∙ ap (λ n. n + length w.spec.preds) r.counted ∙ sym (ap part_count grown ∙ part_count-added before w);
      few_parts = (let before_few : coming ≤ 9 * length before = r.few_parts in omega arith);
      fits_kept = subst (λ n. n ≤ kept_after) (sym count) fits_kept;
      fits_next = subst (λ n. n ≤ next_after) (sym count) fits_next;
      fits_parts = fits_parts;
    }

-- there is room for its number
pub room_for_kept : (before after : List Watching) (w : Watching) (kept same_kept next same_next : List ℕ) (parts same_parts : List WatchPart) (coming more_coming kept_room next_room part_room kept_after next_after part_after : ℕ)
    → IsRoomy (record { watchings = before; kept = kept }) next parts coming kept_room next_room part_room
    → IsRoomy (record { watchings = after; kept = same_kept }) same_next same_parts more_coming kept_after next_after part_after
    → after ≡ before ++ w ∷ [] → same_kept ≡ kept → length same_kept < kept_after
room_for_kept before after w kept same_kept next same_next parts same_parts coming more_coming kept_room next_room part_room kept_after next_after part_after old new grown is_kept =
    let count : length after ≡ length before + 1 = ap (λ (l : List Watching). length l) grown ∙ length-append before (w ∷ []) in
    let short : length kept ≤ length before = rising_count (length before) kept old.well.kept in
    let same : length same_kept ≡ length kept = ap (λ (l : List ℕ). length l) is_kept in
    let fits : length after ≤ kept_after = new.fits_kept in
    omega arith

-- and it is kept or not
pub roomy_told : (before after : List Watching) (w : Watching) (kept same_kept left next : List ℕ) (parts : List WatchPart) (coming kept_room next_room part_room : ℕ)
    → AreRising 0 (length before) kept
    → IsRoomy (record { watchings = after; kept = same_kept }) next parts coming kept_room next_room part_room
    → after ≡ before ++ w ∷ [] → same_kept ≡ kept → left ≡ kept_with (length before) w same_kept
    → IsRoomy (record { watchings = after; kept = left }) next parts coming kept_room next_room part_room
roomy_told before after w kept same_kept left next parts coming kept_room next_room part_room rising r grown is_kept is_left =
    let count : length after ≡ length before + 1 = ap (λ (l : List Watching). length l) grown ∙ length-append before (w ∷ []) in
    roomy_after after after same_kept left next next parts coming kept_room next_room part_room kept_room next_room r refl
    (subst (λ n. AreRising 0 n left) (sym count)
    (subst (AreRising 0 (length before + 1)) (sym (is_left ∙ ap (kept_with (length before) w) is_kept)) (rising_kept_with (length before) w kept rising)))
    r.none_next r.fits_kept r.fits_next

-- the watch that came last is found at its number
pub last_is : (before after : List Watching) (w found : Watching) (number : ℕ) → after ≡ before ++ w ∷ [] → number ≡ length before → Some found ≡ slice_get after number → found ≡ w
last_is before after w found number grown is_number is =
    same_Some found w (is ∙ (λ i. slice_get (grown i) (is_number i)) ∙ at_behind before w)
