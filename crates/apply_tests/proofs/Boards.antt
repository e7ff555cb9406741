-- A node with its watches stays what the laws of watches say.
use Rattle.std.specs.Prelude.{◌≡◌, ◌≢◌, ◌⊎◌, ℕ, ◌<◌, ◌+◌, ◌-◌, ◌||◌, zero, suc, Bool, true, false, List, [], ◌∷◌, ◌++◌, Option, Some, None, length, map, slice_get, refl, if◌then◌else◌}
use Rattle.std.proofs.Common.{inl, inr, sym, ◌∙◌, ap, subst, arith}
use Rattle.std.proofs.lemmas.List.{length-set}
use Rattle.std.specs.List.{find, list_any}
use Rattle.plain_data.specs.Cells.{IsInside, cell_at, row_of, with_cell}
use Rattle.plain_data.proofs.Cells.{IsInside-with_cell, cell_at-with_cell_other, cell_at-with_cell_same, same_or_not}
use Rattle.meta_state.specs.declared.cluster_state.ClusterState.{ClusterState}
use Rattle.meta_state.specs.declared.watch_id.WatchId.{WatchId}
use Rattle.observers.specs.declared.watch_words.WatchWord.{WatchWord}
use Rattle.observers.specs.declared.watchings.WatchSpec.{WatchSpec}
use Rattle.observers.specs.Laws.{AreAgreed, IsCurrent, answer_told}
use Rattle.observers.specs.Listings.{found_watch, is_watch}
use Rattle.observers.specs.Registries.{AreNextAt, Board, HaveWords, IsKeptWell, Registry, after_shown, empty_registry, is_shown, none_kept, placed, placed_over, registered, shown, shown_each, shown_so, told}
use Rattle.observers.specs.Showings.{AreShown}
use Rattle.observers.specs.Watchings.{Watching, begun_by, shown_to, tested_with, word_after}
use Rattle.observers.specs.Words.{IsWithin, WatchTable, vacant_table, waits_on, with_word, word_at}
use Rattle.apply_tests.specs.Boards.{AreFour, IsBoard}
use Rattle.observers.proofs.AnswersTold.{next_agrees, registered_agrees, words_agree}
use Rattle.observers.proofs.Ready.{next_where_shown, words_where_agreed}
use Rattle.observers.proofs.RegistryStates.{next_is_shown, registered_is_shown}

-- ---- the words of one client with four steps

abbrev pub four_words : WatchTable
four_words = vacant_table (4 ∷ [])

abbrev pub step_of : ℕ → WatchId
step_of step = record { client = 0; step = step }

row_is : (words : WatchTable) → AreFour words → length (row_of words 0) ≡ 4
row_is [] e = cc
row_is (row ∷ more) e = cc

row_there : (words : WatchTable) → AreFour words → 0 < length words
row_there [] e = cc
row_there (row ∷ more) e = omega arith

pub four_within : (words : WatchTable) (step : ℕ) → AreFour words → step < 4 → IsWithin words (step_of step)
four_within words step four few = record { row = row_there words four; cell = subst (λ n. step < n) (sym (row_is words four)) few }

lengths_with : (words : WatchTable) (client step : ℕ) (w : WatchWord) → map length (with_cell client step w words) ≡ map length words
lengths_with [] zero step w = refl
lengths_with [] (suc client) step w = refl
lengths_with (row ∷ more) zero step w = ap (λ n. n ∷ map length more) (length-set row step w)
lengths_with (row ∷ more) (suc client) step w = ap (λ ns. length row ∷ ns) (lengths_with more client step w)

lengths_told : (node : ℕ) (w : Watching) (words : WatchTable) → map length (told node w words) ≡ map length words
lengths_told node w words = lengths_with words w.spec.watch.client w.spec.watch.step (word_after node w (word_at words w.spec.watch))

lengths_registered : (node : ℕ) (spec : WatchSpec) (state : ClusterState) (place : ℕ) (b : Board) (waits : Bool)
    → map length (if waits then placed node (tested_with state (begun_by spec state place)) b else placed_over (begun_by spec state place) b).words ≡ map length b.words
lengths_registered node spec state place b true = lengths_told node (tested_with state (begun_by spec state place)) b.words
lengths_registered node spec state place b false = refl

lengths_if : (node number : ℕ) (w : Watching) (b : Board) (is : Bool) → map length (if is then after_shown node number w b else b).words ≡ map length b.words
lengths_if node number w b true = lengths_told node w b.words
lengths_if node number w b false = refl

lengths_so : (node : ℕ) (state : ClusterState) (number : ℕ) (found : Option Watching) (b : Board) → map length (shown_so node state number found b).words ≡ map length b.words
lengths_so node state number None b = refl
lengths_so node state number (Some w) b = lengths_if node number (shown_to state w) b (is_shown node w b.words)

lengths_each : (node : ℕ) (state : ClusterState) (numbers : List ℕ) (b : Board) → map length (shown_each node state numbers b).words ≡ map length b.words
lengths_each node state [] b = refl
lengths_each node state (number ∷ more) b =
    lengths_each node state more (shown_so node state number (slice_get b.registry.watchings number) b) ∙ lengths_so node state number (slice_get b.registry.watchings number) b

-- ---- a board

vacant_at : (client step : ℕ) → cell_at WatchWord.Vacant four_words client step ≡ WatchWord.Vacant
vacant_at zero zero = refl
vacant_at zero (suc zero) = refl
vacant_at zero (suc (suc zero)) = refl
vacant_at zero (suc (suc (suc zero))) = refl
vacant_at zero (suc (suc (suc (suc step)))) = refl
vacant_at (suc client) step = refl

told_so : (w : WatchWord) → w ≡ WatchWord.Vacant → answer_told 0 w ≡ None
told_so WatchWord.Vacant e = refl
told_so (WatchWord.Waiting node deadline) e = refl
told_so (WatchWord.Answered node version) e = cc
told_so (WatchWord.Timed reading) e = refl
told_so WatchWord.Closed e = refl

pub first_board : (states : List ClusterState) → IsBoard states (record { registry = empty_registry; words = four_words })
first_board states = record {
  shown = record { shown = tt; kept = tt };
  agreed = record { words = tt; answers = λ id. told_so (cell_at WatchWord.Vacant four_words id.client id.step) (vacant_at id.client id.step) };
  four = refl;
}

-- ---- a watch is armed

other_told : (w : WatchWord) (node deadline : ℕ) → w ≡ WatchWord.Vacant → answer_told 0 (WatchWord.Waiting node deadline) ≡ answer_told 0 w
other_told w node deadline e = sym (told_so w e)

armed_at : (words : WatchTable) (id asked : WatchId) (deadline : ℕ) → IsWithin words id → word_at words id ≡ WatchWord.Vacant → (id.client ≡ asked.client) ⊎ (id.client ≢ asked.client) → (id.step ≡ asked.step) ⊎ (id.step ≢ asked.step)
    → answer_told 0 (word_at (with_word id (WatchWord.Waiting 0 deadline) words) asked) ≡ answer_told 0 (word_at words asked)
armed_at words id asked deadline within e (inl c) (inl s) =
    let same = cell_at-with_cell_same WatchWord.Vacant id.client id.step (WatchWord.Waiting 0 deadline) words within in
    let here = subst (λ c. cell_at WatchWord.Vacant (with_word id (WatchWord.Waiting 0 deadline) words) c asked.step ≡ WatchWord.Waiting 0 deadline) c
    (subst (λ s. cell_at WatchWord.Vacant (with_word id (WatchWord.Waiting 0 deadline) words) id.client s ≡ WatchWord.Waiting 0 deadline) s same) in
    let before = subst (λ c. cell_at WatchWord.Vacant words c asked.step ≡ WatchWord.Vacant) c (subst (λ s. cell_at WatchWord.Vacant words id.client s ≡ WatchWord.Vacant) s e) in
    ap (answer_told 0) here ∙ sym (told_so (word_at words asked) before)
armed_at words id asked deadline within e (inl c) (inr s) =
    ap (answer_told 0) (cell_at-with_cell_other WatchWord.Vacant id.client id.step (WatchWord.Waiting 0 deadline) words asked.client asked.step within (λ same is. s (sym is)))
armed_at words id asked deadline within e (inr c) s =
    ap (answer_told 0) (cell_at-with_cell_other WatchWord.Vacant id.client id.step (WatchWord.Waiting 0 deadline) words asked.client asked.step within (λ same. absurd (c (sym same))))

-- a word that was vacant waits now, and nothing was answered by that
pub armed_board : (states : List ClusterState) (id : WatchId) (deadline : ℕ) (b : Board) → IsBoard states b → IsWithin b.words id → word_at b.words id ≡ WatchWord.Vacant
    → IsBoard states (record b { words = with_word id (WatchWord.Waiting 0 deadline) b.words })
armed_board states id deadline b h within e =
    let words = with_word id (WatchWord.Waiting 0 deadline) b.words in
    record {
      shown = h.shown;
      agreed = words_agree 0 words b (λ asked at. IsInside-with_cell id.client id.step (WatchWord.Waiting 0 deadline) b.words asked.client asked.step within at)
          (λ asked. armed_at b.words id asked deadline within e (same_or_not id.client asked.client) (same_or_not id.step asked.step)) h.agreed;
      four = lengths_with b.words id.client id.step (WatchWord.Waiting 0 deadline) ∙ h.four;
    }

-- ---- a watch is registered, and a state is shown

pub registered_board : (states : List ClusterState) (spec : WatchSpec) (state : ClusterState) (place : ℕ) (b : Board) → IsBoard states b → IsCurrent states state place → 0 < length spec.preds
    → IsWithin b.words spec.watch → list_any (is_watch spec.watch) b.registry.watchings ≡ false → IsBoard states (registered 0 spec state place b)
registered_board states spec state place b h at some within fresh = record {
  shown = registered_is_shown states 0 spec state place b h.shown at some;
  agreed = registered_agrees 0 spec state place b h.agreed within fresh;
  four = lengths_registered 0 spec state place b (waits_on 0 (word_at b.words spec.watch)) ∙ h.four;
}

pub shown_board : (states : List ClusterState) (state : ClusterState) (b : Board) → IsBoard states b → IsKeptWell b.registry → IsBoard (states ++ (state ∷ [])) (shown 0 state b)
shown_board states state b h well = record {
  shown = next_is_shown states 0 state b h.shown well;
  agreed = next_agrees 0 state b h.agreed well;
  four = lengths_each 0 state b.registry.kept (none_kept b) ∙ h.four;
}

-- ---- what the calls ask

pub current_at : (states : List ClusterState) (state : ClusterState) (count : ℕ) → length states ≡ count → 0 < count → slice_get states (count - 1) ≡ Some state → IsCurrent states state (count - 1)
current_at states state count e some found = record { is = found; last = omega arith ∙ sym e }

none_in : (id : WatchId) (w : Watching) (more : List Watching) (b : Bool) → (if b then Some w else find (is_watch id) more) ≡ None → (find (is_watch id) more ≡ None → list_any (is_watch id) more ≡ false)
    → (b || list_any (is_watch id) more) ≡ false
none_in id w more true e later = cc
none_in id w more false e later = later e

pub fresh_where_none : (id : WatchId) (watchings : List Watching) → found_watch id watchings ≡ None → list_any (is_watch id) watchings ≡ false
fresh_where_none id [] e = refl
fresh_where_none id (w ∷ more) e = none_in id w more (is_watch id w) e (fresh_where_none id more)

pub ready_for_next : (states : List ClusterState) (place : ℕ) (b : Board) → IsBoard states b → place ≡ length states → AreNextAt place b.registry
ready_for_next states place b h at = next_where_shown states place b.registry at h.shown

pub words_for_next : (states : List ClusterState) (b : Board) → IsBoard states b → IsKeptWell b.registry → HaveWords b
words_for_next states b h well = words_where_agreed 0 b h.agreed well

-- ---- as the calls leave it

pub armed_by : (states : List ClusterState) (registry : Registry) (before now : WatchTable) (id : WatchId) (deadline : ℕ) → IsBoard states (record { registry = registry; words = before }) → IsWithin before id
    → word_at before id ≡ WatchWord.Vacant → now ≡ with_word id (WatchWord.Waiting 0 deadline) before → IsBoard states (record { registry = registry; words = now })
armed_by states registry before now id deadline h within vacant e =
    subst (λ words. IsBoard states (record { registry = registry; words = words })) (sym e) (armed_board states id deadline (record { registry = registry; words = before }) h within vacant)

pub shown_by : (states more : List ClusterState) (state : ClusterState) (b made : Board) → IsBoard states b → IsKeptWell b.registry → more ≡ states ++ (state ∷ []) → made ≡ shown 0 state b → IsBoard more made
shown_by states more state b made h well e is = subst (λ x. IsBoard more x) (sym is) (subst (λ x. IsBoard x (shown 0 state b)) (sym e) (shown_board states state b h well))
