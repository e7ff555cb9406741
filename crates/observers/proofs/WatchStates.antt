-- One watch and the states that its node had one after the other: what it was shown stays so while states are added, and
-- stays so where it is shown the next one.
use Rattle.std.specs.Prelude.{◌≡◌, ℕ, ◌+◌, ◌-◌, ◌≤◌, ◌<◌, ◌++◌, Bool, true, false, not, List, [], ◌∷◌, Option, Some, None, drop, get_or, length, nat_lt, slice_get, take, refl, if◌then◌else◌}
use Rattle.std.proofs.Common.{sym, subst, ap, ◌∙◌, arith}
use Rattle.std.specs.List.{list_all}
use Rattle.std.proofs.lemmas.Bool.{true≢false, and_from, and_left, le-ltb, ltb-true}
use Rattle.std.proofs.lemmas.List.{drop-append-le, get_or-drop, length-append, length-drop, take-append-le}
use Rattle.std.proofs.lemmas.List.Folds.{list_all_more}
use Rattle.std.proofs.lemmas.Option.{get_or_from_slice_get, none-some, same_Some}
use Rattle.meta_state.specs.declared.cluster_state.ClusterState.{ClusterState}
use Rattle.meta_state.specs.declared.predicates.Pred.{Pred}
use Rattle.meta_state.specs.Predicates.{is_met}
use Rattle.observers.specs.declared.watchings.WatchPart.{WatchPart}
use Rattle.observers.specs.declared.watchings.WatchSpec.{WatchSpec}
use Rattle.observers.specs.Showings.{AreBegun, AreFollowing, Follows, HasVersion, IsAnsweredSo, IsHitting, IsShown, IsShownPart, IsUpToDate, passed_by}
use Rattle.observers.specs.Watchings.{Watching, answered_by_final, answered_part, begun_by, counted_with, does_hit, final_place, has_more, next_part, parts_of, pred_of, shown_to, tested_with}
use Rattle.observers.proofs.Places.{all_before, all_behind, all_by, at_before, at_behind, so_of_last}

-- ---- the order of parts

-- a part that was shown more states, or was answered
abbrev ending_so : ℕ → Option ℕ → WatchPart → WatchPart
ending_so shown answered part = record part { shown = shown; answered = answered }

follows_so : (shown : ℕ) (answered : Option ℕ) (before part : WatchPart) → Follows before part → Follows before (ending_so shown answered part)
follows_so shown answered before part h = record { watch = h.watch; number = h.number; some = h.some; last = h.last; place = h.place }

following_so : (shown : ℕ) (answered : Option ℕ) (first : WatchPart) (before : List WatchPart) (part : WatchPart) → AreFollowing first (before ++ (part ∷ []))
    → AreFollowing first (before ++ (ending_so shown answered part ∷ []))
following_so shown answered first [] part h = (follows_so shown answered first part h.0, tt)
following_so shown answered first (next ∷ before) part h = (h.0, following_so shown answered next before part h.1)

-- how the last part ends doesn't matter to how the parts begin
begun_so : (shown : ℕ) (answered : Option ℕ) (spec : WatchSpec) (before : List WatchPart) (part : WatchPart) → AreBegun spec (before ++ (part ∷ []))
    → AreBegun spec (before ++ (ending_so shown answered part ∷ []))
begun_so shown answered spec [] part h = (record { watch = h.0.watch; number = h.0.number; last = h.0.last }, tt)
begun_so shown answered spec (first ∷ before) part h = (h.0, following_so shown answered first before part h.1)

following_more : (first : WatchPart) (before : List WatchPart) (part next : WatchPart) → AreFollowing first (before ++ (part ∷ [])) → Follows part next
    → AreFollowing first ((before ++ (part ∷ [])) ++ (next ∷ []))
following_more first [] part next h follows = (h.0, (follows, tt))
following_more first (second ∷ before) part next h follows = (h.0, following_more second before part next h.1 follows)

begun_more : (spec : WatchSpec) (before : List WatchPart) (part next : WatchPart) → AreBegun spec (before ++ (part ∷ [])) → Follows part next
    → AreBegun spec ((before ++ (part ∷ [])) ++ (next ∷ []))
begun_more spec [] part next h follows = (h.0, (follows, tt))
begun_more spec (first ∷ before) part next h follows = (h.0, following_more first before part next h.1 follows)

-- ---- more states behind

passed_before : (states more : List ClusterState) (part : WatchPart) → 1 ≤ part.shown → part.place + part.shown ≤ length states
    → passed_by (states ++ more) part ≡ passed_by states part
passed_before states more part some within =
    let short : part.place ≤ length states = omega arith in
    let few : part.shown - 1 ≤ length (drop part.place states) = omega (arith, length-drop part.place states) in
    ap (take (part.shown - 1)) (drop-append-le part.place states more short) ∙ take-append-le (part.shown - 1) (drop part.place states) more few

hitting_grows : (states more : List ClusterState) (last : Option ℕ) (pred : Option Pred) (told place : ℕ) → IsHitting last pred told (slice_get states place)
    → IsHitting last pred told (slice_get (states ++ more) place)
hitting_grows states more last pred told place h = record { state = h.state; is = at_before states more place h.state h.is; hits = h.hits; version = h.version }

answered_grows : (states more : List ClusterState) (pred : Option Pred) (part : WatchPart) (answered : Option ℕ) → IsAnsweredSo states pred part answered
    → IsAnsweredSo (states ++ more) pred part answered
answered_grows states more pred part None h = tt
answered_grows states more pred part (Some version) h = hitting_grows states more part.last pred version (final_place part) h

part_grows : (states more : List ClusterState) (preds : List Pred) (part : WatchPart) → IsShownPart states preds part → IsShownPart (states ++ more) preds part
part_grows states more preds part h = record {
  shown = h.shown;
  within = omega (arith, h.within, length-append states more);
  passed = ap (list_all (λ s. not (does_hit part.last (slice_get preds part.part) s))) (passed_before states more part h.shown h.within) ∙ h.passed;
  answered = answered_grows states more (slice_get preds part.part) part part.answered h.answered;
}

version_grows : (states more : List ClusterState) (version place : ℕ) (found : Option ClusterState) → slice_get states place ≡ found → HasVersion version found
    → HasVersion version (slice_get (states ++ more) place)
version_grows states more version place None e h = absurd h
version_grows states more version place (Some state) e h = subst (HasVersion version) (sym (at_before states more place state e)) h

-- what a watch was shown stays so
pub shown_grows : (states more : List ClusterState) (w : Watching) → IsShown states w → IsShown (states ++ more) w
shown_grows states more w h = record {
  begun = h.begun;
  parts = all_by (IsShownPart states w.spec.preds) (IsShownPart (states ++ more) w.spec.preds) (part_grows states more w.spec.preds) (parts_of w) h.parts;
  few = h.few;
  final = version_grows states more w.version (final_place w.part) (slice_get states (final_place w.part)) refl h.final;
  whole = h.whole;
  ended = h.ended;
}

-- ---- the final state is tested

-- the final state that a watch was shown is this one, the last of its node's, and has not answered its last part
record IsJustShown (states : List ClusterState) (state : ClusterState) (w : Watching) : Type 0 where
  at : slice_get states (final_place w.part) ≡ Some state
  place : w.part.place + w.part.shown ≡ length states
  waits : w.part.answered ≡ None

version_of : (version : ℕ) (found : Option ClusterState) (state : ClusterState) → found ≡ Some state → HasVersion version found → state.version ≡ version
version_of version found state e h = subst (HasVersion version) e h

answer_part : (states : List ClusterState) (state : ClusterState) (w : Watching) → IsJustShown states state w → IsShown states w
    → does_hit w.part.last (pred_of w) state ≡ true → IsShownPart states w.spec.preds w.part → IsShownPart states w.spec.preds (answered_part w.version w.part)
answer_part states state w just h hits part = record {
  shown = part.shown;
  within = part.within;
  passed = part.passed;
  answered = record { state = state; is = just.at; hits = hits; version = version_of w.version (slice_get states (final_place w.part)) state just.at h.final };
}

-- a part that begins was shown the state that answered the one before it
next_shown : (states : List ClusterState) (preds : List Pred) (version : ℕ) (part : WatchPart) → 1 ≤ part.shown → part.place + part.shown ≡ length states
    → IsShownPart states preds (next_part version part)
next_shown states preds version part some at = record {
  shown = omega arith;
  within = omega arith;
  passed = refl;
  answered = tt;
}

-- a part is answered, and the next one begins
more_shown : (states : List ClusterState) (state : ClusterState) (w : Watching) → IsJustShown states state w → IsShown states w
    → does_hit w.part.last (pred_of w) state ≡ true → has_more w ≡ true
    → IsShown states (record w { before = w.before ++ (answered_part w.version w.part ∷ []); part = next_part w.version w.part })
more_shown states state w just h hits more =
    let P : WatchPart → Type 0 = IsShownPart states w.spec.preds in
    let last : P w.part = so_of_last P w.before w.part h.parts in
    let answered : P (answered_part w.version w.part) = answer_part states state w just h hits last in
    let same : final_place (next_part w.version w.part) ≡ final_place w.part = omega (arith, last.shown) in
    record {
      begun = begun_more w.spec w.before (answered_part w.version w.part) (next_part w.version w.part)
          (begun_so w.part.shown (Some w.version) w.spec w.before w.part h.begun) (record { watch = refl; number = refl; some = refl; last = refl; place = refl });
      parts = all_behind P (w.before ++ (answered_part w.version w.part ∷ [])) (next_part w.version w.part)
          (all_behind P w.before (answered_part w.version w.part) (all_before P w.before w.part h.parts) answered)
          (next_shown states w.spec.preds w.version w.part last.shown just.place);
      few = omega (arith, ltb-true (w.part.part + 1) (length w.spec.preds) more);
      final = subst (λ (place : ℕ). HasVersion w.version (slice_get states place)) (sym same) h.final;
      whole = λ version e. absurd (none-some version e);
      ended = λ version e. absurd (none-some version e);
    }

-- the last part is answered, and none is left
last_shown : (states : List ClusterState) (state : ClusterState) (w : Watching) → IsJustShown states state w → IsShown states w
    → does_hit w.part.last (pred_of w) state ≡ true → has_more w ≡ false → IsShown states (record w { part = answered_part w.version w.part; over = true })
last_shown states state w just h hits more =
    let P : WatchPart → Type 0 = IsShownPart states w.spec.preds in
    record {
      begun = begun_so w.part.shown (Some w.version) w.spec w.before w.part h.begun;
      parts = all_behind P w.before (answered_part w.version w.part) (all_before P w.before w.part h.parts)
          (answer_part states state w just h hits (so_of_last P w.before w.part h.parts));
      few = h.few;
      final = h.final;
      whole = λ version e. more;
      ended = λ version e. refl;
    }

answered_shown : (states : List ClusterState) (state : ClusterState) (w : Watching) → IsJustShown states state w → IsShown states w
    → does_hit w.part.last (pred_of w) state ≡ true → (more : Bool) → has_more w ≡ more
    → IsShown states (if more then record w { before = w.before ++ (answered_part w.version w.part ∷ []); part = next_part w.version w.part }
    else record w { part = answered_part w.version w.part; over = true })
answered_shown states state w just h hits true e = more_shown states state w just h hits e
answered_shown states state w just h hits false e = last_shown states state w just h hits e

tested_so : (states : List ClusterState) (state : ClusterState) (w : Watching) → IsJustShown states state w → IsShown states w
    → (hits : Bool) → does_hit w.part.last (pred_of w) state ≡ hits → IsShown states (if hits then answered_by_final w else w)
tested_so states state w just h true e = answered_shown states state w just h e (has_more w) refl
tested_so states state w just h false e = h

tested_keeps : (states : List ClusterState) (state : ClusterState) (w : Watching) → IsJustShown states state w → IsShown states w → IsShown states (tested_with state w)
tested_keeps states state w just h = tested_so states state w just h (does_hit w.part.last (pred_of w) state) refl

-- ---- and the watch waits on

-- no state is newer than itself
no_newer : (version : ℕ) (pred : Option Pred) (state : ClusterState) → state.version ≡ version → does_hit (Some version) pred state ≡ false
no_newer version None state e = refl
no_newer version (Some pred) state e = and_left (nat_lt version state.version) (is_met state pred) (le-ltb version state.version (omega arith))

misses_at : (states : List ClusterState) (place : ℕ) (last : Option ℕ) (pred : Option Pred) (state : ClusterState) → slice_get states place ≡ Some state
    → does_hit last pred state ≡ false → (found : ClusterState) → slice_get states place ≡ Some found → does_hit last pred found ≡ false
misses_at states place last pred state at e found is = subst (λ (s : ClusterState). does_hit last pred s ≡ false) (same_Some state found (sym at ∙ is)) e

more_up : (states : List ClusterState) (state : ClusterState) (w : Watching) → IsJustShown states state w → IsShown states w
    → IsUpToDate states (record w { before = w.before ++ (answered_part w.version w.part ∷ []); part = next_part w.version w.part })
more_up states state w just h =
    let last = so_of_last (IsShownPart states w.spec.preds) w.before w.part h.parts in
    let same : final_place w.part ≡ final_place (next_part w.version w.part) = omega (arith, last.shown) in
    record {
      place = omega (arith, last.shown, just.place);
      waits = refl;
      misses = misses_at states (final_place (next_part w.version w.part)) (Some w.version) (slice_get w.spec.preds (w.part.part + 1)) state
          (subst (λ (place : ℕ). slice_get states place ≡ Some state) same just.at)
          (no_newer w.version (slice_get w.spec.preds (w.part.part + 1)) state (version_of w.version (slice_get states (final_place w.part)) state just.at h.final));
    }

answered_up : (states : List ClusterState) (state : ClusterState) (w : Watching) → IsJustShown states state w → IsShown states w → (more : Bool)
    → (if more then record w { before = w.before ++ (answered_part w.version w.part ∷ []); part = next_part w.version w.part }
    else record w { part = answered_part w.version w.part; over = true }).over ≡ false
    → IsUpToDate states (if more then record w { before = w.before ++ (answered_part w.version w.part ∷ []); part = next_part w.version w.part }
    else record w { part = answered_part w.version w.part; over = true })
answered_up states state w just h true on = more_up states state w just h
answered_up states state w just h false on = absurd (true≢false on)

tested_up_so : (states : List ClusterState) (state : ClusterState) (w : Watching) → IsJustShown states state w → IsShown states w
    → (hits : Bool) → does_hit w.part.last (pred_of w) state ≡ hits → (if hits then answered_by_final w else w).over ≡ false
    → IsUpToDate states (if hits then answered_by_final w else w)
tested_up_so states state w just h true e on = answered_up states state w just h (has_more w) on
tested_up_so states state w just h false e on = record { place = just.place; waits = just.waits; misses = misses_at states (final_place w.part) w.part.last (pred_of w) state just.at e }

tested_up : (states : List ClusterState) (state : ClusterState) (w : Watching) → IsJustShown states state w → IsShown states w → (tested_with state w).over ≡ false
    → IsUpToDate states (tested_with state w)
tested_up states state w just h on = tested_up_so states state w just h (does_hit w.part.last (pred_of w) state) refl on

-- ---- the next state

-- the final state that a part was shown doesn't hit it, so that is passed by where one more is counted
passed_more : (states : List ClusterState) (state final : ClusterState) (test : ClusterState → Bool) (place shown : ℕ) → 1 ≤ shown → place + shown ≡ length states
    → slice_get states (place + shown - 1) ≡ Some final → test final ≡ true → list_all test (take (shown - 1) (drop place states)) ≡ true
    → list_all test (take (shown + 1 - 1) (drop place (states ++ (state ∷ [])))) ≡ true
passed_more states state final test place shown some full at passes all =
    let left : List ClusterState = drop place states in
    let long : length left ≡ shown = omega (arith, length-drop place states) in
    let short : place ≤ length states = omega arith in
    let few : shown + 1 - 1 ≤ length left = omega arith in
    let within : shown - 1 < length left = omega arith in
    let is_last : get_or left (shown - 1) final ≡ final =
    get_or-drop place states (shown - 1) final ∙ (ap (λ (j : ℕ). get_or states j final) (let j : place + (shown - 1) ≡ place + shown - 1 = omega arith in j)
    ∙ get_or_from_slice_get states (place + shown - 1) final final at) in
    let count : shown + 1 - 1 ≡ (shown - 1) + 1 = omega arith in
    ap (λ (xs : List ClusterState). list_all test (take (shown + 1 - 1) xs)) (drop-append-le place states (state ∷ []) short)
    ∙ (ap (list_all test) (take-append-le (shown + 1 - 1) left (state ∷ []) few)
    ∙ (ap (λ (n : ℕ). list_all test (take n left)) count
    ∙ (list_all_more test left (shown - 1) final within
    ∙ and_from (list_all test (take (shown - 1) left)) (test (get_or left (shown - 1) final)) all (ap test is_last ∙ passes))))

final_of_part : (states : List ClusterState) (version place : ℕ) (found : Option ClusterState) → slice_get states place ≡ found → HasVersion version found
    → (state : ClusterState) × (slice_get states place ≡ Some state)
final_of_part states version place None e h = absurd h
final_of_part states version place (Some state) e h = (state, e)

unanswered : (states : List ClusterState) (pred : Option Pred) (part : WatchPart) (answered : Option ℕ) → answered ≡ None → IsAnsweredSo states pred part answered
unanswered states pred part None e = tt
unanswered states pred part (Some version) e = absurd (none-some version (sym e))

counted_part : (states : List ClusterState) (state : ClusterState) (w : Watching) → IsShown states w → IsUpToDate states w
    → IsShownPart (states ++ (state ∷ [])) w.spec.preds (counted_with state w).part
counted_part states state w h up =
    let part = so_of_last (IsShownPart states w.spec.preds) w.before w.part h.parts in
    let final = final_of_part states w.version (final_place w.part) (slice_get states (final_place w.part)) refl h.final in
    record {
      shown = omega arith;
      within = omega (arith, up.place, length-append states (state ∷ []));
      passed = passed_more states state final.0 (λ s. not (does_hit w.part.last (pred_of w) s)) w.part.place w.part.shown part.shown up.place final.1
          (ap not (up.misses final.0 final.1)) part.passed;
      answered = unanswered (states ++ (state ∷ [])) (pred_of w) (counted_with state w).part w.part.answered up.waits;
    }

counted_just : (states : List ClusterState) (state : ClusterState) (w : Watching) → IsUpToDate states w → IsJustShown (states ++ (state ∷ [])) state (counted_with state w)
counted_just states state w up =
    let same : length states ≡ w.part.place + (w.part.shown + 1) - 1 = omega (arith, up.place) in
    record {
      at = subst (λ (place : ℕ). slice_get (states ++ (state ∷ [])) place ≡ Some state) same (at_behind states state);
      place = omega (arith, up.place, length-append states (state ∷ []));
      waits = up.waits;
    }

counted_keeps : (states : List ClusterState) (state : ClusterState) (w : Watching) → IsShown states w → IsUpToDate states w → IsShown (states ++ (state ∷ [])) (counted_with state w)
counted_keeps states state w h up =
    let P : WatchPart → Type 0 = IsShownPart (states ++ (state ∷ [])) w.spec.preds in
    let just = counted_just states state w up in
    record {
      begun = begun_so (w.part.shown + 1) w.part.answered w.spec w.before w.part h.begun;
      parts = all_behind P w.before (counted_with state w).part
          (all_by (IsShownPart states w.spec.preds) P (part_grows states (state ∷ []) w.spec.preds) w.before (all_before (IsShownPart states w.spec.preds) w.before w.part h.parts))
          (counted_part states state w h up);
      few = h.few;
      final = subst (HasVersion state.version) (sym just.at) refl;
      whole = h.whole;
      ended = h.ended;
    }

-- a watch that is up to date is shown the next state
pub shown_to_keeps : (states : List ClusterState) (state : ClusterState) (w : Watching) → IsShown states w → IsUpToDate states w
    → IsShown (states ++ (state ∷ [])) (shown_to state w)
shown_to_keeps states state w h up = tested_keeps (states ++ (state ∷ [])) state (counted_with state w) (counted_just states state w up) (counted_keeps states state w h up)

-- and is up to date again, unless that ended it
pub shown_to_up : (states : List ClusterState) (state : ClusterState) (w : Watching) → IsShown states w → IsUpToDate states w
    → (shown_to state w).over ≡ false → IsUpToDate (states ++ (state ∷ [])) (shown_to state w)
shown_to_up states state w h up on =
    tested_up (states ++ (state ∷ [])) state (counted_with state w) (counted_just states state w up) (counted_keeps states state w h up) on

-- ---- the first state

begun_just : (states : List ClusterState) (spec : WatchSpec) (state : ClusterState) (place : ℕ) → slice_get states place ≡ Some state → place + 1 ≡ length states
    → IsJustShown states state (begun_by spec state place)
begun_just states spec state place at last =
    let same : place ≡ place + 1 - 1 = omega arith in
    record { at = subst (λ (n : ℕ). slice_get states n ≡ Some state) same at; place = last; waits = refl }

-- a watch that begins was shown its first state
pub begun_by_is_shown : (states : List ClusterState) (spec : WatchSpec) (state : ClusterState) (place : ℕ) → slice_get states place ≡ Some state → place + 1 ≡ length states
    → 0 < length spec.preds → IsShown states (begun_by spec state place)
begun_by_is_shown states spec state place at last some =
    let just = begun_just states spec state place at last in
    record {
      begun = (record { watch = refl; number = refl; last = refl }, tt);
      parts = (record { shown = omega arith; within = omega (arith, last); passed = refl; answered = tt }, tt);
      few = omega (arith, some);
      final = subst (HasVersion state.version) (sym just.at) refl;
      whole = λ version e. absurd (none-some version e);
      ended = λ version e. absurd (none-some version e);
    }

-- also after that state was tested
pub begun_is_shown : (states : List ClusterState) (spec : WatchSpec) (state : ClusterState) (place : ℕ) → slice_get states place ≡ Some state → place + 1 ≡ length states
    → 0 < length spec.preds → IsShown states (tested_with state (begun_by spec state place))
begun_is_shown states spec state place at last some =
    tested_keeps states state (begun_by spec state place) (begun_just states spec state place at last) (begun_by_is_shown states spec state place at last some)

-- and is up to date, unless that ended it
pub begun_up : (states : List ClusterState) (spec : WatchSpec) (state : ClusterState) (place : ℕ) → slice_get states place ≡ Some state → place + 1 ≡ length states
    → 0 < length spec.preds → (tested_with state (begun_by spec state place)).over ≡ false → IsUpToDate states (tested_with state (begun_by spec state place))
begun_up states spec state place at last some on =
    tested_up states state (begun_by spec state place) (begun_just states spec state place at last) (begun_by_is_shown states spec state place at last some) on
