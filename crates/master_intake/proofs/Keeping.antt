-- What is kept beside the waiting list, as that grows by an entry and as all of a queue is taken from it.
use Rattle.std.proofs.Common.{◌≡◌, ◌<◌, ◌≤◌, ◌∙◌, ◌+◌, ℕ, ◌==◌, not, cond, Bool, true, false, List, [], ◌∷◌, ◌++◌, filter, length, IfSome, sym, ap, subst, arith, length-append}
use Rattle.std.specs.List.{AllByRecursion}
use Rattle.scripts.specs.declared.queues.Priority.{Priority}
use Rattle.scripts.specs.declared.task_id.TaskId.{TaskId}
use Rattle.master_intake.specs.declared.entries.Waiting.{Waiting}
use Rattle.master_intake.specs.Turns.{IsKept, next_turn, noted, turns_of}
use Rattle.master_intake.specs.Waitings.{is_in, left_by, next_queue}
use Rattle.master_intake.proofs.Orders.{all_filter, all_noted, next_known, next_turn-turns_of, turns_on-append, turns_on-left_by}

pub IsKept-append : (priorities : List Priority) (before after : List Waiting) (turns more : List ℕ) (room roomy : List TaskId) (small large : ℕ) (last : Waiting) → IsKept priorities before turns room small → last.queue < length priorities → after ≡ before ++ last ∷ [] → more ≡ noted turns last.queue → roomy ≡ room → length before + 1 ≤ large → IsKept priorities after more roomy large
IsKept-append priorities before after turns more room roomy small large last kept is_there grown noted_more same fits = record {
  told = noted_more ∙ ap (λ t. noted t last.queue) kept.told ∙ sym (turns_on-append [] before last) ∙ ap (λ w. turns_of w) (sym grown);
  known = subst (λ (t : List ℕ). AllByRecursion (λ turn. turn < length priorities) t) (sym noted_more) (all_noted (λ turn. turn < length priorities) turns last.queue kept.known is_there);
  none = same ∙ kept.none;
  fits = let counted : length after ≡ length before + 1 = ap (λ w. length w) grown ∙ length-append before (last ∷ []) in omega arith;
}

shorter_if : (b : Bool) (x : Waiting) (few many : List Waiting) → length few ≤ length many → length (cond b (x ∷ few) few) ≤ length (x ∷ many)
shorter_if true x few many fewer = omega arith
shorter_if false x few many fewer = omega arith

shorter : (test : Waiting → Bool) (all : List Waiting) → length (filter test all) ≤ length all
shorter test [] = omega arith
shorter test (x ∷ all) = shorter_if (test x) x (filter test all) all (shorter test all)

pub IsKept-left_by : (priorities : List Priority) (before after : List Waiting) (turns fewer : List ℕ) (room : List TaskId) (capacity queue : ℕ) → IsKept priorities before turns room capacity → after ≡ left_by queue before → fewer ≡ filter (λ t. not (t == queue)) turns → IsKept priorities after fewer room capacity
IsKept-left_by priorities before after turns fewer room capacity queue kept left fewer_are = record {
  told = fewer_are ∙ ap (λ t. filter (λ x. not (x == queue)) t) kept.told ∙ sym (turns_on-left_by queue [] before) ∙ ap (λ w. turns_of w) (sym left);
  known = subst (λ (t : List ℕ). AllByRecursion (λ turn. turn < length priorities) t) (sym fewer_are) (all_filter (λ turn. turn < length priorities) (λ t. not (t == queue)) turns kept.known);
  none = kept.none;
  fits = let short = shorter (λ w. not (is_in queue w)) before in let counted : length after ≡ length (left_by queue before) = ap (λ w. length w) left in let room_for = kept.fits in omega arith;
}

pub next_queue-kept : (priorities : List Priority) (waiting : List Waiting) (turns : List ℕ) (room : List TaskId) (capacity : ℕ) → IsKept priorities waiting turns room capacity → next_turn priorities turns ≡ next_queue priorities waiting
next_queue-kept priorities waiting turns room capacity kept = ap (λ t. next_turn priorities t) kept.told ∙ next_turn-turns_of priorities waiting

pub next_known-kept : (priorities : List Priority) (waiting : List Waiting) (turns : List ℕ) (room : List TaskId) (capacity : ℕ) → IsKept priorities waiting turns room capacity → IfSome (next_turn priorities turns) (λ queue. queue < length priorities)
next_known-kept priorities waiting turns room capacity kept = next_known (λ queue. queue < length priorities) priorities turns kept.known
