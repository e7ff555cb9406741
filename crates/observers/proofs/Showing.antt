-- What is kept as each of these watches is shown a state: what they ask, that their numbers rise, and what is so of those
-- that come after.
use Rattle.std.proofs.Common.{◌≡◌, ◌<◌, ◌+◌, ◌∙◌, ◌&&◌, not, true≢false, ℕ, zero, suc, Bool, true, false, List, [], ◌∷◌, ◌++◌, Option, Some, None, append_assoc, append-nil, arith, drop, drop-cons, get_or, length, map, set, slice_get, refl, sym, ap, subst, if◌then◌else◌}
use Rattle.std.specs.List.{AllByRecursion}
use Rattle.std.proofs.lemmas.Option.{same_Some}
use Rattle.meta_state.specs.declared.cluster_state.ClusterState.{ClusterState}
use Rattle.observers.specs.declared.watchings.WatchSpec.{WatchSpec}
use Rattle.observers.specs.Registries.{after_shown, AreRising, Board, is_shown, is_shown_if, IsGoingOn, IsNextAt, IsWordOf, shown_each, shown_so, told}
use Rattle.observers.specs.Watchings.{Watching, shown_to}
use Rattle.observers.specs.Words.{WatchTable, waits_on, word_at}
use Rattle.observers.proofs.AnswersTold.{spec-shown_to, within_told}
use Rattle.observers.proofs.Places.{all_by}
use Rattle.observers.proofs.RegistryStates.{rising_set}
use Rattle.observers.proofs.Rising.{rising_from, rising_without}

-- ---- what the watches ask

abbrev pub specs_of : List Watching → List WatchSpec
specs_of watchings = map (λ w. w.spec) watchings

pub specs-set : (watchings : List Watching) (number : ℕ) (before after : Watching) → slice_get watchings number ≡ Some before → after.spec ≡ before.spec → specs_of (set watchings number after) ≡ specs_of watchings
specs-set [] number before after is same = refl
specs-set (w ∷ watchings) zero before after is same = λ i. (same ∙ ap (λ v. v.spec) (sym (same_Some w before is))) i ∷ specs_of watchings
specs-set (w ∷ watchings) (suc number) before after is same = ap (λ more. w.spec ∷ more) (specs-set watchings number before after is same)

module _ (node : ℕ) (state : ClusterState) where
  specs-shown_so : (number : ℕ) (found : Option Watching) (b : Board) → slice_get b.registry.watchings number ≡ found → specs_of (shown_so node state number found b).registry.watchings ≡ specs_of b.registry.watchings
  specs-shown_so number None b is = refl
  specs-shown_so number (Some w) b is = by (is_shown node w b.words) where
    by : (t : Bool) → specs_of (if t then after_shown node number (shown_to state w) b else b).registry.watchings ≡ specs_of b.registry.watchings
    by true = specs-set b.registry.watchings number w (shown_to state w) is (spec-shown_to state w)
    by false = refl

  pub specs-shown_each : (numbers : List ℕ) (b : Board) → specs_of (shown_each node state numbers b).registry.watchings ≡ specs_of b.registry.watchings
  specs-shown_each [] b = refl
  specs-shown_each (n ∷ more) b =
      specs-shown_each more (shown_so node state n (slice_get b.registry.watchings n) b)
      ∙ specs-shown_so n (slice_get b.registry.watchings n) b refl

  -- ---- the numbers that are kept

  kept_so : (P : List ℕ → Type 0) (number : ℕ) (found : Option Watching) (b : Board) → P b.registry.kept → P (b.registry.kept ++ number ∷ []) → P (shown_so node state number found b).registry.kept
  kept_so P number None b was more = was
  kept_so P number (Some w) b was more = by (is_shown node w b.words) where
    with_if : (over : Bool) → P (if over then b.registry.kept else b.registry.kept ++ number ∷ [])
    with_if true = was
    with_if false = more

    by : (t : Bool) → P (if t then after_shown node number (shown_to state w) b else b).registry.kept
    by true = with_if (shown_to state w).over
    by false = was

  pub rising-shown_each : (bound : ℕ) (numbers : List ℕ) (b : Board) → AreRising 0 bound (b.registry.kept ++ numbers) → AreRising 0 bound (shown_each node state numbers b).registry.kept
  rising-shown_each bound [] b h = subst (AreRising 0 bound) (append-nil b.registry.kept) h
  rising-shown_each bound (n ∷ more) b h =
      rising-shown_each bound more (shown_so node state n (slice_get b.registry.watchings n) b)
      (kept_so (λ kept. AreRising 0 bound (kept ++ more)) n (slice_get b.registry.watchings n) b
      (rising_without 0 bound b.registry.kept n more h)
      (subst (AreRising 0 bound) (sym (append_assoc b.registry.kept (n ∷ []) more)) h))

  -- ---- those that come after

  module _ (P : WatchTable → Option Watching → Type 0)
      (keeps : (w : Watching) (words : WatchTable) (other : Option Watching) → P words (Some w) → P words other → P (told node (shown_to state w) words) other) where
    after_so : (number bound : ℕ) (more : List ℕ) (found : Option Watching) (b : Board) → P b.words found → AreRising (number + 1) bound more
        → AllByRecursion (λ n. P b.words (slice_get b.registry.watchings n)) more
        → AllByRecursion (λ n. P (shown_so node state number found b).words (slice_get (shown_so node state number found b).registry.watchings n)) more
    after_so number bound more None b here rising h = h
    after_so number bound more (Some w) b here rising h = by (is_shown node w b.words) where
      by : (t : Bool) → AllByRecursion (λ n. P (if t then after_shown node number (shown_to state w) b else b).words (slice_get (if t then after_shown node number (shown_to state w) b else b).registry.watchings n)) more
      by true = rising_set (P (told node (shown_to state w) b.words)) b.registry.watchings number (shown_to state w) (number + 1) bound more (omega arith) rising
          (all_by (λ n. P b.words (slice_get b.registry.watchings n)) (λ n. P (told node (shown_to state w) b.words) (slice_get b.registry.watchings n)) (λ n so. keeps w b.words (slice_get b.registry.watchings n) here so) more h)
      by false = h

    pub after-shown_so : (bound number : ℕ) (more : List ℕ) (b after : Board) → after ≡ shown_so node state number (slice_get b.registry.watchings number) b → AreRising 0 bound (number ∷ more)
        → AllByRecursion (λ n. P b.words (slice_get b.registry.watchings n)) (number ∷ more)
        → AllByRecursion (λ n. P after.words (slice_get after.registry.watchings n)) more
    after-shown_so bound number more b after made rising h =
        subst (λ (v : Board). AllByRecursion (λ n. P v.words (slice_get v.registry.watchings n)) more) (sym made)
        (after_so number bound more (slice_get b.registry.watchings number) b h.0 rising.1.1 h.1)

  pub word_stays : (w : Watching) (words : WatchTable) (other : Option Watching) → IsWordOf words (Some w) → IsWordOf words other → IsWordOf (told node (shown_to state w) words) other
  word_stays w words None here there = there
  word_stays w words (Some v) here there =
      within_told node (shown_to state w) words v.spec.watch (subst (λ (s : WatchSpec). IsWordOf words (Some (record w { spec = s }))) (sym (spec-shown_to state w)) here) there

-- ---- a watch that is shown a state goes on

going_if : (over waits : Bool) → not over && waits ≡ true → over ≡ false
going_if true waits e = sym e
going_if false waits e = refl

pub going_where_shown : (node : ℕ) (found : Option Watching) (words : WatchTable) → is_shown_if node found words ≡ true → IsGoingOn found
going_where_shown node None words e = absurd (true≢false (sym e))
going_where_shown node (Some w) words e = going_if w.over (waits_on node (word_at words w.spec.watch)) e

-- ---- a step of the walk

pub one_more : (numbers : List ℕ) (i : ℕ) → i < length numbers → drop i numbers ≡ get_or numbers i 0 ∷ drop (i + 1) numbers
one_more numbers i within = drop-cons numbers i 0 within ∙ ap (λ n. get_or numbers i 0 ∷ drop n numbers) (suc_one i)
  where
    suc_one : (n : ℕ) → suc n ≡ n + 1
    suc_one n = omega arith

module _ (node : ℕ) (state : ClusterState) (place bound : ℕ) (numbers : List ℕ) (i : ℕ) (within : i < length numbers) (before after : Board)
    (made : after ≡ shown_so node state (get_or numbers i 0) (slice_get before.registry.watchings (get_or numbers i 0)) before)
    (rising : AreRising 0 bound (drop i numbers)) where
  rising_here : AreRising 0 bound (get_or numbers i 0 ∷ drop (i + 1) numbers)
  rising_here = subst (AreRising 0 bound) (one_more numbers i within) rising

  pub board-step : (all : Board) → shown_each node state (drop i numbers) before ≡ all → shown_each node state (drop (i + 1) numbers) after ≡ all
  board-step all h =
      ap (shown_each node state (drop (i + 1) numbers)) made
      ∙ sym (ap (λ l. shown_each node state l before) (one_more numbers i within))
      ∙ h

  pub next-step : AllByRecursion (λ n. IsNextAt place (slice_get before.registry.watchings n)) (drop i numbers) → AllByRecursion (λ n. IsNextAt place (slice_get after.registry.watchings n)) (drop (i + 1) numbers)
  next-step h =
      after-shown_so node state (λ words found. IsNextAt place found) (λ w words other here there. there) bound (get_or numbers i 0) (drop (i + 1) numbers) before after made rising_here
      (subst (AllByRecursion (λ n. IsNextAt place (slice_get before.registry.watchings n))) (one_more numbers i within) h)

  pub words-step : AllByRecursion (λ n. IsWordOf before.words (slice_get before.registry.watchings n)) (drop i numbers) → AllByRecursion (λ n. IsWordOf after.words (slice_get after.registry.watchings n)) (drop (i + 1) numbers)
  words-step h =
      after-shown_so node state IsWordOf (word_stays node state) bound (get_or numbers i 0) (drop (i + 1) numbers) before after made rising_here
      (subst (AllByRecursion (λ n. IsWordOf before.words (slice_get before.registry.watchings n))) (one_more numbers i within) h)

  pub rising-step : AreRising 0 bound (drop (i + 1) numbers)
  rising-step = rising_from 0 (get_or numbers i 0 + 1) bound (drop (i + 1) numbers) (omega arith) rising_here.1.1
