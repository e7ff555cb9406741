-- The line of a batch tells the batch.
use Rattle.std.specs.Prelude.{◌≡◌, ◌+◌, ◌==◌, ℕ, List, [], ◌∷◌, ◌++◌, refl, codes, decimal, IsTrue}
use Rattle.std.proofs.Common.{sym, ap}
use Rattle.std.specs.List.{AllByRecursion, list_all}
use Rattle.std.proofs.lemmas.List.{append_cancel_left}
use Rattle.scripts.specs.Names.{is_name}
use Rattle.session_law.specs.declared.batches.Batch.{Batch}
use Rattle.session_law.specs.declared.batches.BatchResult.{BatchResult}
use Rattle.session_law.specs.declared.batches.BatchResult.TheVariants as result
use Rattle.session_law.specs.declared.batches.Entry.{Entry}
use Rattle.report_law.specs.Bounds.{IsBoundedBatch, IsBoundedEntry, IsBoundedResult, IsWord}
use Rattle.session_law.specs.Joining.{list_text}
use Rattle.session_law.specs.Lines.{batch_line, batch_lines, entry_text, line_end, result_text}
use Rattle.report_law.proofs.Joined.{list_tells}
use Rattle.report_law.proofs.LineLists.{line_told, starts, starts_no_end}
use Rattle.report_law.proofs.Runs.{all_append, decimal_inner, decimal_no_dash, decimal_tells, is_decimal, is_inner, is_lined, is_listed, is_no_dash, name_tells, no_dash_append}
use Rattle.report_law.proofs.TaskTexts.{failure_ends, number_ends}
use Rattle.report_law.proofs.Telling.{Any, Ends, Same, Tells, alone, apart, part, run_last, run_then, so, word_then}

-- ---- entries

entry_tells : Tells IsBoundedEntry entry_text Same (Ends is_decimal)
unfolding entry_text
entry_tells =
    so (run_then (codes ".") (part (λ e. e.client) decimal_tells (λ e good. good.client)) refl
    (run_then (codes "/") (part (λ e. e.step) decimal_tells (λ e good. good.step)) refl (part (λ e. e.seen) decimal_tells (λ e good. good.seen))))
    (λ a b k i. record { client = k.0 i; step = k.1.0 i; seen = k.1.1 i })

entry_bytes : (entry : Entry) → IsBoundedEntry entry → IsTrue (list_all is_inner (entry_text entry))
unfolding entry_text
entry_bytes entry good =
    all_append is_inner (decimal entry.client) _ (decimal_inner entry.client good.client)
    (all_append is_inner (decimal entry.step) _ (decimal_inner entry.step good.step) (decimal_inner entry.seen good.seen))

entry_starts : (entry : Entry) → IsBoundedEntry entry → IsTrue (is_no_dash (entry_text entry))
unfolding entry_text
entry_starts entry good = no_dash_append (decimal entry.client) _ (decimal_no_dash entry.client good.client)

pub entries_tell : Tells (AllByRecursion IsBoundedEntry) (list_text entry_text) Same (Ends is_listed)
entries_tell = list_tells (record { bytes = entry_bytes; starts = entry_starts; fixes = alone entry_tells tt })

-- ---- results

abbrev Publication : Type 0
Publication = ℕ × ℕ × ℕ × ℕ × ℕ × ℕ

abbrev IsBoundedPublication : Publication → Type 0
IsBoundedPublication p = IsWord p.0 × IsWord p.1 × IsWord p.2 × IsWord p.3 × IsWord p.4 × IsWord p.5

abbrev published_text : Publication → List ℕ
published_text p = result_text (result.Published p.0 p.1 p.2 p.3 p.4 p.5)

published_ends : Tells IsBoundedPublication published_text Same (Ends is_lined)
unfolding result_text
published_ends =
    so (word_then (codes "published ") (run_then (codes " id ") (part (λ p. p.0) decimal_tells (λ p good. good.0)) refl
    (run_then (codes " commit ") (part (λ p. p.1) decimal_tells (λ p good. good.1)) refl
    (run_then (codes " diffs ") (part (λ p. p.2) decimal_tells (λ p good. good.2)) refl
    (run_then (codes " fulls ") (part (λ p. p.3) decimal_tells (λ p good. good.3)) refl
    (run_then (codes " accepted ") (part (λ p. p.4) decimal_tells (λ p good. good.4)) refl (part (λ p. p.5) number_ends (λ p good. good.5))))))))
    (λ a b k i. (k.0 i, k.1.0 i, k.1.1.0 i, k.1.1.1.0 i, k.1.1.1.1.0 i, k.1.1.1.1.1 i))

abbrev Proposal : Type 0
Proposal = ℕ × ℕ × ℕ × ℕ

abbrev IsBoundedProposal : Proposal → Type 0
IsBoundedProposal p = IsWord p.0 × IsWord p.1 × IsWord p.2 × IsWord p.3

abbrev proposed_text : Proposal → List ℕ
proposed_text p = result_text (result.PublishFailed p.0 p.1 p.2 p.3)

proposed_ends : Tells IsBoundedProposal proposed_text Same (Ends is_lined)
unfolding result_text
proposed_ends =
    so (word_then (codes "publish_failed id ") (run_then (codes " diffs ") (part (λ p. p.0) decimal_tells (λ p good. good.0)) refl
    (run_then (codes " fulls ") (part (λ p. p.1) decimal_tells (λ p good. good.1)) refl
    (run_then (codes " accepted ") (part (λ p. p.2) decimal_tells (λ p good. good.2)) refl (part (λ p. p.3) number_ends (λ p good. good.3))))))
    (λ a b k i. (k.0 i, k.1.0 i, k.1.1.0 i, k.1.1.1 i))

results_told : (a b : BatchResult) (u v : List ℕ) → IsBoundedResult a → IsBoundedResult b → Ends is_lined u → Ends is_lined v → result_text a ++ u ≡ result_text b ++ v → (a ≡ b) × (u ≡ v)
unfolding result_text
results_told (result.Published a b c d e f) (result.Published g h i j k l) u v good fine eu ev same =
    let one = published_ends.told (a, b, c, d, e, f) (g, h, i, j, k, l) u v good fine eu ev same in
    ((λ t. result.Published (one.0 t).0 (one.0 t).1 (one.0 t).2 (one.0 t).3 (one.0 t).4 (one.0 t).5), one.1)
results_told (result.Unchanged x) (result.Unchanged y) u v good fine eu ev same =
    let one = (word_then (codes "unchanged ") number_ends).told x y u v good fine eu ev same in (ap result.Unchanged one.0, one.1)
results_told (result.Failed p x) (result.Failed q y) u v good fine eu ev same =
    let one = failure_ends.told (p, x) (q, y) u v good fine eu ev same in ((λ t. result.Failed (one.0 t).0 (one.0 t).1), one.1)
results_told result.NotMaster result.NotMaster u v good fine eu ev same = (refl, append_cancel_left (codes "not_master") u v same)
results_told (result.PublishFailed a b c d) (result.PublishFailed e f g h) u v good fine eu ev same =
    let one = proposed_ends.told (a, b, c, d) (e, f, g, h) u v good fine eu ev same in
    ((λ t. result.PublishFailed (one.0 t).0 (one.0 t).1 (one.0 t).2 (one.0 t).3), one.1)
results_told _ _ u v good fine eu ev same = absurd (apart _ _ refl same)

pub result_tells : Tells IsBoundedResult result_text Same (Ends is_lined)
result_tells = record { told = results_told }

-- ---- the line

abbrev pub IsToldBatch : Batch → Type 0
IsToldBatch batch = IsTrue (is_name batch.queue) × IsBoundedBatch batch

pub batch_tells : (number : ℕ) → Tells IsToldBatch (batch_line number) Same Any
unfolding batch_line
batch_tells number =
    so (word_then (codes "batch ") (word_then (decimal number) (word_then (codes " queue ") (run_then (codes " at ") (part (λ b. b.queue) name_tells (λ b good. good.0)) refl
    (run_then (codes " tasks ") (part (λ b. b.at) decimal_tells (λ b good. good.1.at)) refl
    (run_then (codes " ") (part (λ b. b.entries) entries_tell (λ b good. good.1.entries)) refl
    (run_last line_end (part (λ b. b.result) result_tells (λ b good. good.1.result)) refl)))))))
    (λ a b k i. record { queue = k.0 i; at = k.1.0 i; entries = k.1.1.0 i; result = k.1.1.1 i })

batch_starts : (number : ℕ) (batch : Batch) → IsTrue (starts 98 (batch_line number batch))
unfolding batch_line
batch_starts number batch = refl

batches_told : (number : ℕ) (xs ys : List Batch) (u v : List ℕ) → AllByRecursion IsToldBatch xs → AllByRecursion IsToldBatch ys → Ends (λ b. b == 98) u → Ends (λ b. b == 98) v
    → batch_lines number xs ++ u ≡ batch_lines number ys ++ v → (xs ≡ ys) × (u ≡ v)
batches_told number [] [] u v gx gy eu ev e = (refl, e)
batches_told number [] (y ∷ ys) u v gx gy eu ev e = absurd (starts_no_end 98 (batch_line number y) _ u v (batch_starts number y) eu e)
batches_told number (x ∷ xs) [] u v gx gy eu ev e = absurd (starts_no_end 98 (batch_line number x) _ v u (batch_starts number x) ev (sym e))
batches_told number (x ∷ xs) (y ∷ ys) u v gx gy eu ev e =
    let first = line_told (batch_tells number) x y _ _ u v gx.0 gy.0 e in
    let rest = batches_told (number + 1) xs ys u v gx.1 gy.1 eu ev first.1 in
    ((λ i. first.0 i ∷ rest.0 i), rest.1)

-- the lines of the batches, up to where no such line follows
pub batch_lines_tell : (number : ℕ) → Tells (AllByRecursion IsToldBatch) (batch_lines number) Same (Ends (λ b. b == 98))
batch_lines_tell number = record { told = batches_told number }
