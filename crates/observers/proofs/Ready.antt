-- That a registry whose watches were shown all states so far, and whose words agree with it, is ready for the next state.
use Rattle.std.proofs.Common.{◌≡◌, ◌<◌, ◌+◌, ◌∙◌, ℕ, zero, suc, List, [], ◌∷◌, Option, Some, None, arith, length, slice_get, sym}
use Rattle.std.specs.List.{AllByRecursion}
use Rattle.meta_state.specs.declared.cluster_state.ClusterState.{ClusterState}
use Rattle.observers.specs.Laws.{AreAgreed}
use Rattle.observers.specs.Registries.{AreNextAt, AreRising, Board, HaveWords, IsKeptWell, IsNextAt, IsWordOf, Registry}
use Rattle.observers.specs.Showings.{AreShown, IsKeptUp}
use Rattle.observers.specs.Watchings.{Watching}
use Rattle.observers.specs.Words.{IsWithin, WatchTable}
use Rattle.observers.proofs.Places.{all_by}

-- ---- places

next_if_up : (states : List ClusterState) (place : ℕ) (found : Option Watching) → place ≡ length states → IsKeptUp states found → IsNextAt place found
next_if_up states place None at up = up
next_if_up states place (Some w) at up = λ going. (up going).place ∙ sym at

-- each kept watch that goes on was shown all states but the next
pub next_where_shown : (states : List ClusterState) (place : ℕ) (r : Registry) → place ≡ length states → AreShown states r → AreNextAt place r
next_where_shown states place r at h =
    all_by (λ n. IsKeptUp states (slice_get r.watchings n)) (λ n. IsNextAt place (slice_get r.watchings n)) (λ n up. next_if_up states place (slice_get r.watchings n) at up) r.kept h.kept

-- ---- words

word_at_number : (words : WatchTable) (watchings : List Watching) (number : ℕ) → AllByRecursion (λ w. IsWithin words w.spec.watch) watchings → number < length watchings → IsWordOf words (slice_get watchings number)
word_at_number words [] number h within = absurd (omega arith)
word_at_number words (w ∷ more) zero h within = h.0
word_at_number words (w ∷ more) (suc number) h within = word_at_number words more number h.1 (omega arith)

words_at_numbers : (words : WatchTable) (watchings : List Watching) (least : ℕ) (numbers : List ℕ) → AllByRecursion (λ w. IsWithin words w.spec.watch) watchings → AreRising least (length watchings) numbers
    → AllByRecursion (λ n. IsWordOf words (slice_get watchings n)) numbers
words_at_numbers words watchings least [] h rising = tt
words_at_numbers words watchings least (n ∷ more) h rising = (word_at_number words watchings n h rising.1.0, words_at_numbers words watchings (n + 1) more h rising.1.1)

-- each kept watch has a word
pub words_where_agreed : (node : ℕ) (b : Board) → AreAgreed node b → IsKeptWell b.registry → HaveWords b
words_where_agreed node b h well = words_at_numbers b.words b.registry.watchings 0 b.registry.kept h.words well.kept
