-- Words and registry agree on which watches a node answered, and with which version: they do so after a watch is
-- registered, after the next state is shown, after a watch is retired, and after a change of words that tell the same.
use Rattle.std.specs.Prelude.{◌≡◌, ℕ, zero, suc, ◌++◌, ◌&&◌, ◌||◌, Bool, true, false, not, List, [], ◌∷◌, Option, Some, None, map, nat_eq, set, slice_get, refl, if◌then◌else◌}
use Rattle.std.proofs.Common.{sym, subst, ap, ◌∙◌, ◌≢◌}
use Rattle.std.specs.List.{AllByRecursion, list_any}
use Rattle.std.proofs.lemmas.Bool.{true≢false, and_from, and_parts, eq-eqb, eqb-true, not-true, or_parts}
use Rattle.std.proofs.lemmas.Map.Keys.{any_passes_from_place}
use Rattle.std.proofs.lemmas.Option.{none-some, same_Some}
use Rattle.meta_state.specs.declared.cluster_state.ClusterState.{ClusterState}
use Rattle.meta_state.specs.declared.watch_id.WatchId.{WatchId}
use Rattle.plain_data.proofs.Cells.{IsInside-with_cell, cell_at-with_cell_other, cell_at-with_cell_same}
use Rattle.observers.specs.declared.watch_words.WatchWord.{WatchWord}
use Rattle.observers.specs.declared.watch_words.WatchWord.TheVariants as word
use Rattle.observers.specs.declared.watchings.WatchSpec.{WatchSpec}
use Rattle.observers.specs.Laws.{AreAgreed, NextAgrees, RegisteredAgrees, answer_in, answer_told}
use Rattle.observers.specs.Listings.{is_watch}
use Rattle.observers.specs.Registries.{AreApart, Board, after_shown, ended_if, is_shown, none_kept, placed, placed_over, retired, shown_each, shown_so, told}
use Rattle.observers.specs.Watchings.{Watching, answered_by_final, answered_part, begun_by, counted_with, does_hit, has_more, next_part, pred_of, shown_to, tested_with, word_after}
use Rattle.observers.specs.Words.{IsWithin, WatchTable, waits_on, word_at}
use Rattle.observers.proofs.Places.{all_behind, all_by, all_map, all_set, at_set_same, so_at}

-- ---- identifiers

same_id : (a b : WatchId) → a.client ≡ b.client → a.step ≡ b.step → a ≡ b
same_id a b client step =
    ap (λ (c : ℕ). let id : WatchId = record { client = c; step = a.step } in id) client
    ∙ ap (λ (s : ℕ). let id : WatchId = record { client = b.client; step = s } in id) step

-- a watch of an identifier has it
pub id_of_watch : (id : WatchId) (w : Watching) → is_watch id w ≡ true → w.spec.watch ≡ id
id_of_watch id w e =
    let parts = and_parts (nat_eq id.client w.spec.watch.client) (nat_eq id.step w.spec.watch.step) e in
    same_id w.spec.watch id (sym (eqb-true id.client w.spec.watch.client parts.0)) (sym (eqb-true id.step w.spec.watch.step parts.1))

-- and a watch has its own
pub watch_of_id : (w : Watching) → is_watch w.spec.watch w ≡ true
watch_of_id w = and_from (nat_eq w.spec.watch.client w.spec.watch.client) (nat_eq w.spec.watch.step w.spec.watch.step)
    (eq-eqb w.spec.watch.client w.spec.watch.client refl) (eq-eqb w.spec.watch.step w.spec.watch.step refl)

other_steps : (id : WatchId) (w : Watching) → is_watch id w ≡ false → id.client ≡ w.spec.watch.client → id.step ≢ w.spec.watch.step
other_steps id w e client step =
    true≢false (sym (and_from (nat_eq id.client w.spec.watch.client) (nat_eq id.step w.spec.watch.step)
    (eq-eqb id.client w.spec.watch.client client) (eq-eqb id.step w.spec.watch.step step)) ∙ e)

-- ---- watches that are apart

any_set : {A : Type 0} (test : A → Bool) (xs : List A) (place : ℕ) (x y : A) → slice_get xs place ≡ Some x → test y ≡ test x → list_any test (set xs place y) ≡ list_any test xs
any_set test [] place x y at e = refl
any_set test (first ∷ xs) zero x y at e = ap (λ (b : Bool). b || list_any test xs) (e ∙ ap test (sym (same_Some first x at)))
any_set test (first ∷ xs) (suc place) x y at e = ap (λ (b : Bool). test first || b) (any_set test xs place x y at e)

-- another watch of the same identifier keeps them apart
pub apart_set : (watchings : List Watching) (number : ℕ) (before w : Watching) → slice_get watchings number ≡ Some before → w.spec.watch ≡ before.spec.watch → AreApart watchings
    → AreApart (set watchings number w)
apart_set [] number before w at e h = tt
apart_set (first ∷ watchings) zero before w at e h =
    let same : first.spec.watch ≡ w.spec.watch = ap (λ (v : Watching). v.spec.watch) (same_Some first before at) ∙ sym e in
    (subst (λ (id : WatchId). list_any (is_watch id) watchings ≡ false) same h.0, h.1)
apart_set (first ∷ watchings) (suc number) before w at e h =
    let same : is_watch first.spec.watch w ≡ is_watch first.spec.watch before =
    ap (λ (id : WatchId). nat_eq first.spec.watch.client id.client && nat_eq first.spec.watch.step id.step) e in
    (any_set (is_watch first.spec.watch) watchings number before w at same ∙ h.0, apart_set watchings number before w at e h.1)

-- ---- answers that a registry holds

answer_first : (id : WatchId) (first : Watching) (watchings : List Watching) (number : ℕ) (w : Watching) → list_any (is_watch first.spec.watch) watchings ≡ false
    → slice_get watchings number ≡ Some w → is_watch id w ≡ true → (b : Bool) → is_watch id first ≡ b → b ≡ false
answer_first id first watchings number w apart at e true is =
    let same : is_watch first.spec.watch w ≡ true = subst (λ (i : WatchId). is_watch i w ≡ true) (sym (id_of_watch id first is)) e in
    absurd (true≢false (sym (any_passes_from_place (is_watch first.spec.watch) watchings number w at same) ∙ apart))
answer_first id first watchings number w apart at e false is = refl

-- the answer of an identifier is that of its watch
pub answer_at : (id : WatchId) (watchings : List Watching) (number : ℕ) (w : Watching) → AreApart watchings → slice_get watchings number ≡ Some w → is_watch id w ≡ true
    → answer_in id watchings ≡ w.part.answered
answer_at id [] number w apart at e = absurd (none-some w at)
answer_at id (first ∷ watchings) zero w apart at e =
    let same : first ≡ w = same_Some first w at in
    let is : is_watch id first ≡ true = subst (λ (v : Watching). is_watch id v ≡ true) (sym same) e in
    ap (λ (b : Bool). if b then first.part.answered else answer_in id watchings) is ∙ ap (λ (v : Watching). v.part.answered) same
answer_at id (first ∷ watchings) (suc number) w apart at e =
    ap (λ (b : Bool). if b then first.part.answered else answer_in id watchings)
    (answer_first id first watchings number w apart.0 at e (is_watch id first) refl)
    ∙ answer_at id watchings number w apart.1 at e

answer_set_other : (id : WatchId) (watchings : List Watching) (number : ℕ) (before w : Watching) → slice_get watchings number ≡ Some before → is_watch id before ≡ false
    → is_watch id w ≡ false → answer_in id (set watchings number w) ≡ answer_in id watchings
answer_set_other id [] number before w at e f = refl
answer_set_other id (first ∷ watchings) zero before w at e f =
    let is : is_watch id first ≡ false = subst (λ (v : Watching). is_watch id v ≡ false) (sym (same_Some first before at)) e in
    ap (λ (b : Bool). if b then w.part.answered else answer_in id watchings) f
    ∙ sym (ap (λ (b : Bool). if b then first.part.answered else answer_in id watchings) is)
answer_set_other id (first ∷ watchings) (suc number) before w at e f =
    ap (λ (o : Option ℕ). if is_watch id first then first.part.answered else o) (answer_set_other id watchings number before w at e f)

answer_behind_other : (id : WatchId) (watchings : List Watching) (w : Watching) → is_watch id w ≡ false → answer_in id (watchings ++ (w ∷ [])) ≡ answer_in id watchings
answer_behind_other id [] w e = ap (λ (b : Bool). if b then w.part.answered else None) e
answer_behind_other id (first ∷ watchings) w e =
    ap (λ (o : Option ℕ). if is_watch id first then first.part.answered else o) (answer_behind_other id watchings w e)

answer_behind : (id : WatchId) (watchings : List Watching) (w : Watching) → list_any (is_watch id) watchings ≡ false → is_watch id w ≡ true
    → answer_in id (watchings ++ (w ∷ [])) ≡ w.part.answered
answer_behind id [] w none e = ap (λ (b : Bool). if b then w.part.answered else None) e
answer_behind id (first ∷ watchings) w none e =
    let parts = or_parts (is_watch id first) (list_any (is_watch id) watchings) none in
    ap (λ (b : Bool). if b then first.part.answered else answer_in id (watchings ++ (w ∷ []))) parts.0 ∙ answer_behind id watchings w parts.1 e

no_answer : (id : WatchId) (watchings : List Watching) → list_any (is_watch id) watchings ≡ false → answer_in id watchings ≡ None
no_answer id [] none = refl
no_answer id (first ∷ watchings) none =
    let parts = or_parts (is_watch id first) (list_any (is_watch id) watchings) none in
    ap (λ (b : Bool). if b then first.part.answered else answer_in id watchings) parts.0 ∙ no_answer id watchings parts.1

-- ---- words

pub within_told : (node : ℕ) (w : Watching) (words : WatchTable) (id : WatchId) → IsWithin words w.spec.watch → IsWithin words id → IsWithin (told node w words) id
within_told node w words id within at =
    IsInside-with_cell w.spec.watch.client w.spec.watch.step (word_after node w (word_at words w.spec.watch)) words id.client id.step within at

pub word_told : (node : ℕ) (w : Watching) (words : WatchTable) → IsWithin words w.spec.watch
    → word_at (told node w words) w.spec.watch ≡ word_after node w (word_at words w.spec.watch)
word_told node w words within =
    cell_at-with_cell_same word.Vacant w.spec.watch.client w.spec.watch.step (word_after node w (word_at words w.spec.watch)) words within

pub word_told_other : (node : ℕ) (w : Watching) (words : WatchTable) (id : WatchId) → IsWithin words w.spec.watch → is_watch id w ≡ false
    → word_at (told node w words) id ≡ word_at words id
word_told_other node w words id within other =
    cell_at-with_cell_other word.Vacant w.spec.watch.client w.spec.watch.step (word_after node w (word_at words w.spec.watch)) words id.client id.step within
    (other_steps id w other)

-- a watch that waits wasn't answered
pub waits_told : (node here : ℕ) (was : WatchWord) → waits_on node was ≡ true → answer_told here was ≡ None
waits_told node here word.Vacant e = refl
waits_told node here (word.Waiting there deadline) e = refl
waits_told node here (word.Answered there version) e = absurd (true≢false (sym e))
waits_told node here (word.Timed reading) e = refl
waits_told node here word.Closed e = refl

-- ---- one watch

-- a watch was answered exactly where it is over, with the version that it was shown last
pub record IsOverAnswered (w : Watching) : Type 0 where
  pub answered : w.part.answered ≡ (if w.over then Some w.version else None)

answered_so : (w : Watching) (more : Bool) → w.over ≡ false
    → IsOverAnswered (if more then record w { before = w.before ++ (answered_part w.version w.part ∷ []); part = next_part w.version w.part }
    else record w { part = answered_part w.version w.part; over = true })
answered_so w true on = record { answered = sym (ap (λ (b : Bool). if b then Some w.version else None) on) }
answered_so w false on = record { answered = refl }

tested_answered_so : (w : Watching) (hits : Bool) → w.over ≡ false → w.part.answered ≡ None → IsOverAnswered (if hits then answered_by_final w else w)
tested_answered_so w true on none = answered_so w (has_more w) on
tested_answered_so w false on none = record { answered = none ∙ sym (ap (λ (b : Bool). if b then Some w.version else None) on) }

pub tested_is_over_answered : (state : ClusterState) (w : Watching) → w.over ≡ false → w.part.answered ≡ None → IsOverAnswered (tested_with state w)
tested_is_over_answered state w on none = tested_answered_so w (does_hit w.part.last (pred_of w) state) on none

pub shown_to_is_over_answered : (state : ClusterState) (w : Watching) → w.over ≡ false → w.part.answered ≡ None → IsOverAnswered (shown_to state w)
shown_to_is_over_answered state w on none = tested_is_over_answered state (counted_with state w) on none

spec_answered_so : (w : Watching) (more : Bool)
    → (if more then record w { before = w.before ++ (answered_part w.version w.part ∷ []); part = next_part w.version w.part }
    else record w { part = answered_part w.version w.part; over = true }).spec ≡ w.spec
spec_answered_so w true = refl
spec_answered_so w false = refl

spec_tested_so : (w : Watching) (hits : Bool) → (if hits then answered_by_final w else w).spec ≡ w.spec
spec_tested_so w true = spec_answered_so w (has_more w)
spec_tested_so w false = refl

pub spec-tested_with : (state : ClusterState) (w : Watching) → (tested_with state w).spec ≡ w.spec
spec-tested_with state w = spec_tested_so w (does_hit w.part.last (pred_of w) state)

pub spec-shown_to : (state : ClusterState) (w : Watching) → (shown_to state w).spec ≡ w.spec
spec-shown_to state w = spec-tested_with state (counted_with state w)

told_so : (node version : ℕ) (over : Bool) (was : WatchWord) → answer_told node was ≡ None
    → answer_told node (if over then word.Answered node version else was) ≡ (if over then Some version else None)
told_so node version true was none = ap (λ (b : Bool). if b then Some version else None) (eq-eqb node node refl)
told_so node version false was none = none

-- its word tells of it what it holds itself
pub told_answered : (node : ℕ) (w : Watching) (was : WatchWord) → IsOverAnswered w → answer_told node was ≡ None
    → answer_told node (word_after node w was) ≡ w.part.answered
told_answered node w was h none = told_so node w.version w.over was none ∙ sym h.answered

-- ---- a watch is registered

-- a watch behind the others has a word, as they have
words_behind : (words : WatchTable) (watchings : List Watching) (w : Watching) → AllByRecursion (λ v. IsWithin words v.spec.watch) watchings → IsWithin words w.spec.watch
    → AllByRecursion (λ v. IsWithin words v.spec.watch) (watchings ++ (w ∷ []))
words_behind words watchings w h within = all_behind (λ v. IsWithin words v.spec.watch) watchings w h within

words_told : (node : ℕ) (w : Watching) (words : WatchTable) (watchings : List Watching) → IsWithin words w.spec.watch
    → AllByRecursion (λ v. IsWithin words v.spec.watch) watchings → AllByRecursion (λ v. IsWithin (told node w words) v.spec.watch) watchings
words_told node w words watchings within h =
    all_by (λ v. IsWithin words v.spec.watch) (λ v. IsWithin (told node w words) v.spec.watch) (λ v at. within_told node w words v.spec.watch within at) watchings h

-- what a word tells after its watch was tested, where the registry holds that watch's answer
answers_so : (node : ℕ) (w : Watching) (words : WatchTable) (watchings : List Watching) (id : WatchId) → IsWithin words w.spec.watch → IsOverAnswered w
    → answer_told node (word_at words w.spec.watch) ≡ None → answer_in w.spec.watch watchings ≡ w.part.answered → is_watch id w ≡ true
    → answer_told node (word_at (told node w words) id) ≡ answer_in id watchings
answers_so node w words watchings id within h none holds is =
    subst (λ (i : WatchId). answer_told node (word_at (told node w words) i) ≡ answer_in i watchings) (id_of_watch id w is)
    (ap (answer_told node) (word_told node w words within) ∙ (told_answered node w (word_at words w.spec.watch) h none ∙ sym holds))

answers_placed : (node : ℕ) (w : Watching) (b : Board) (id : WatchId) → AreAgreed node b → IsWithin b.words w.spec.watch → IsOverAnswered w
    → waits_on node (word_at b.words w.spec.watch) ≡ true → list_any (is_watch w.spec.watch) b.registry.watchings ≡ false → (is : Bool) → is_watch id w ≡ is
    → answer_told node (word_at (told node w b.words) id) ≡ answer_in id (b.registry.watchings ++ (w ∷ []))
answers_placed node w b id h within over waits none true is =
    answers_so node w b.words (b.registry.watchings ++ (w ∷ [])) id within over (waits_told node node (word_at b.words w.spec.watch) waits)
    (answer_behind w.spec.watch b.registry.watchings w none (watch_of_id w)) is
answers_placed node w b id h within over waits none false is =
    ap (answer_told node) (word_told_other node w b.words id within is) ∙ (h.answers id ∙ sym (answer_behind_other id b.registry.watchings w is))

pub placed_agrees : (node : ℕ) (w : Watching) (b : Board) → AreAgreed node b → IsWithin b.words w.spec.watch → IsOverAnswered w
    → waits_on node (word_at b.words w.spec.watch) ≡ true → list_any (is_watch w.spec.watch) b.registry.watchings ≡ false → AreAgreed node (placed node w b)
placed_agrees node w b h within over waits none = record {
  words = words_behind (told node w b.words) b.registry.watchings w (words_told node w b.words b.registry.watchings within h.words)
      (within_told node w b.words w.spec.watch within within);
  answers = λ id. answers_placed node w b id h within over waits none (is_watch id w) refl;
}

answers_placed_over : (node : ℕ) (w : Watching) (b : Board) (id : WatchId) → AreAgreed node b → w.part.answered ≡ None
    → list_any (is_watch w.spec.watch) b.registry.watchings ≡ false → (is : Bool) → is_watch id w ≡ is
    → answer_in id b.registry.watchings ≡ answer_in id (b.registry.watchings ++ (w ∷ []))
answers_placed_over node w b id h unanswered none true is =
    subst (λ (i : WatchId). answer_in i b.registry.watchings ≡ answer_in i (b.registry.watchings ++ (w ∷ []))) (id_of_watch id w is)
    (no_answer w.spec.watch b.registry.watchings none ∙ sym (answer_behind w.spec.watch b.registry.watchings w none (watch_of_id w) ∙ unanswered))
answers_placed_over node w b id h unanswered none false is = sym (answer_behind_other id b.registry.watchings w is)

pub placed_over_agrees : (node : ℕ) (w : Watching) (b : Board) → AreAgreed node b → IsWithin b.words w.spec.watch → w.part.answered ≡ None
    → list_any (is_watch w.spec.watch) b.registry.watchings ≡ false → AreAgreed node (placed_over w b)
placed_over_agrees node w b h within unanswered none = record {
  words = words_behind b.words b.registry.watchings w h.words within;
  answers = λ id. h.answers id ∙ answers_placed_over node w b id h unanswered none (is_watch id w) refl;
}

registered_so : (node : ℕ) (spec : WatchSpec) (state : ClusterState) (place : ℕ) (b : Board) (w : Watching) → w.spec ≡ spec → IsOverAnswered w → AreAgreed node b
    → IsWithin b.words spec.watch → list_any (is_watch spec.watch) b.registry.watchings ≡ false → (waits : Bool) → waits_on node (word_at b.words spec.watch) ≡ waits
    → AreAgreed node (if waits then placed node w b else placed_over (begun_by spec state place) b)
registered_so node spec state place b w same over h within none true waits =
    let id : spec.watch ≡ w.spec.watch = ap (λ (s : WatchSpec). s.watch) (sym same) in
    placed_agrees node w b h (subst (IsWithin b.words) id within) over (subst (λ (i : WatchId). waits_on node (word_at b.words i) ≡ true) id waits)
    (subst (λ (i : WatchId). list_any (is_watch i) b.registry.watchings ≡ false) id none)
registered_so node spec state place b w same over h within none false waits = placed_over_agrees node (begun_by spec state place) b h within refl none

pub registered_agrees : RegisteredAgrees
registered_agrees node spec state place b h within none =
    let begun = begun_by spec state place in
    registered_so node spec state place b (tested_with state begun) (spec-tested_with state begun) (tested_is_over_answered state begun refl refl) h within none
    (waits_on node (word_at b.words spec.watch)) refl

-- ---- the next state is shown

answers_after : (node number : ℕ) (before w : Watching) (b : Board) (id : WatchId) → AreAgreed node b → AreApart b.registry.watchings
    → slice_get b.registry.watchings number ≡ Some before → w.spec.watch ≡ before.spec.watch → IsOverAnswered w → waits_on node (word_at b.words w.spec.watch) ≡ true
    → IsWithin b.words w.spec.watch → (is : Bool) → is_watch id w ≡ is
    → answer_told node (word_at (told node w b.words) id) ≡ answer_in id (set b.registry.watchings number w)
answers_after node number before w b id h apart at same over waits within true is =
    answers_so node w b.words (set b.registry.watchings number w) id within over (waits_told node node (word_at b.words w.spec.watch) waits)
    (answer_at w.spec.watch (set b.registry.watchings number w) number w (apart_set b.registry.watchings number before w at same apart)
    (at_set_same b.registry.watchings number before w at) (watch_of_id w)) is
answers_after node number before w b id h apart at same over waits within false is =
    let was : is_watch id before ≡ false = ap (λ (i : WatchId). nat_eq id.client i.client && nat_eq id.step i.step) (sym same) ∙ is in
    ap (answer_told node) (word_told_other node w b.words id within is) ∙ (h.answers id ∙ sym (answer_set_other id b.registry.watchings number before w at was is))

-- a watch that waits is set to what it is after a state was shown, and its word tells so
pub after_agrees : (node number : ℕ) (before w : Watching) (b : Board) → AreAgreed node b → AreApart b.registry.watchings
    → slice_get b.registry.watchings number ≡ Some before → w.spec.watch ≡ before.spec.watch → IsOverAnswered w → waits_on node (word_at b.words w.spec.watch) ≡ true
    → AreAgreed node (after_shown node number w b)
after_agrees node number before w b h apart at same over waits =
    let within : IsWithin b.words w.spec.watch =
    subst (IsWithin b.words) (sym same) (so_at (λ v. IsWithin b.words v.spec.watch) b.registry.watchings number before h.words at) in
    record {
      words = all_set (λ v. IsWithin (told node w b.words) v.spec.watch) b.registry.watchings number w
          (words_told node w b.words b.registry.watchings within h.words) (within_told node w b.words w.spec.watch within within);
      answers = λ id. answers_after node number before w b id h apart at same over waits within (is_watch id w) refl;
    }

-- words and registry agree, and no watch was registered twice
record IsAgreedApart (node : ℕ) (b : Board) : Type 0 where
  agreed : AreAgreed node b
  apart : AreApart b.registry.watchings

one_agrees : (node : ℕ) (state : ClusterState) (number : ℕ) (b : Board) (w : Watching) → IsAgreedApart node b → slice_get b.registry.watchings number ≡ Some w
    → (showing : Bool) → is_shown node w b.words ≡ showing → IsAgreedApart node (if showing then after_shown node number (shown_to state w) b else b)
one_agrees node state number b w h at true e =
    let parts = and_parts (not w.over) (waits_on node (word_at b.words w.spec.watch)) e in
    let same : (shown_to state w).spec.watch ≡ w.spec.watch = ap (λ (s : WatchSpec). s.watch) (spec-shown_to state w) in
    let unanswered : w.part.answered ≡ None =
    sym (answer_at w.spec.watch b.registry.watchings number w h.apart at (watch_of_id w))
    ∙ (sym (h.agreed.answers w.spec.watch) ∙ waits_told node node (word_at b.words w.spec.watch) parts.1) in
    record {
      agreed = after_agrees node number w (shown_to state w) b h.agreed h.apart at same (shown_to_is_over_answered state w (not-true w.over parts.0) unanswered)
          (subst (λ (i : WatchId). waits_on node (word_at b.words i) ≡ true) (sym same) parts.1);
      apart = apart_set b.registry.watchings number w (shown_to state w) at same h.apart;
    }
one_agrees node state number b w h at false e = h

so_agrees : (node : ℕ) (state : ClusterState) (number : ℕ) (b : Board) → IsAgreedApart node b → (found : Option Watching) → slice_get b.registry.watchings number ≡ found
    → IsAgreedApart node (shown_so node state number found b)
so_agrees node state number b h None at = h
so_agrees node state number b h (Some w) at = one_agrees node state number b w h at (is_shown node w b.words) refl

each_agrees : (node : ℕ) (state : ClusterState) (numbers : List ℕ) (b : Board) → IsAgreedApart node b → AreAgreed node (shown_each node state numbers b)
each_agrees node state [] b h = h.agreed
each_agrees node state (number ∷ numbers) b h =
    each_agrees node state numbers (shown_so node state number (slice_get b.registry.watchings number) b)
    (so_agrees node state number b h (slice_get b.registry.watchings number) refl)

pub next_agrees : NextAgrees
next_agrees node state b h well =
    each_agrees node state b.registry.kept (none_kept b) (record { agreed = record { words = h.words; answers = h.answers }; apart = well.apart })

-- ---- a watch is retired

answer_ended : (id : WatchId) (first : Watching) (rest : Option ℕ) (ends : Bool)
    → (if is_watch id (if ends then record first { over = true } else first) then (if ends then record first { over = true } else first).part.answered else rest)
    ≡ (if is_watch id first then first.part.answered else rest)
answer_ended id first rest true = refl
answer_ended id first rest false = refl

answer_retired : (id ended : WatchId) (watchings : List Watching) → answer_in id (map (ended_if ended) watchings) ≡ answer_in id watchings
answer_retired id ended [] = refl
answer_retired id ended (first ∷ watchings) =
    answer_ended id first (answer_in id (map (ended_if ended) watchings)) (is_watch ended first)
    ∙ ap (λ (o : Option ℕ). if is_watch id first then first.part.answered else o) (answer_retired id ended watchings)

within_ended : (words : WatchTable) (w : Watching) (ends : Bool) → IsWithin words w.spec.watch → IsWithin words (if ends then record w { over = true } else w).spec.watch
within_ended words w true h = h
within_ended words w false h = h

-- a watch that is retired keeps its answer
pub retired_agrees : (node : ℕ) (id : WatchId) (b : Board) → AreAgreed node b → AreAgreed node (record b { registry = retired id b.registry })
retired_agrees node id b h = record {
  words = all_map (λ w. IsWithin b.words w.spec.watch) (ended_if id) b.registry.watchings
      (all_by (λ w. IsWithin b.words w.spec.watch) (λ w. IsWithin b.words (ended_if id w).spec.watch) (λ w at. within_ended b.words w (is_watch id w) at) b.registry.watchings h.words);
  answers = λ other. h.answers other ∙ sym (answer_retired other id b.registry.watchings);
}

-- ---- another word

-- words that tell the same of each watch agree with the registry, too
pub words_agree : (node : ℕ) (words : WatchTable) (b : Board) → ((id : WatchId) → IsWithin b.words id → IsWithin words id)
    → ((id : WatchId) → answer_told node (word_at words id) ≡ answer_told node (word_at b.words id)) → AreAgreed node b → AreAgreed node (record b { words = words })
words_agree node words b within same h = record {
  words = all_by (λ w. IsWithin b.words w.spec.watch) (λ w. IsWithin words w.spec.watch) (λ w at. within w.spec.watch at) b.registry.watchings h.words;
  answers = λ id. same id ∙ h.answers id;
}
