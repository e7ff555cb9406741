-- The line of a task tells its reply: words that no other word of their place begins with, and numbers that a blank, a
-- point or the line's end ends.
use Rattle.std.specs.Prelude.{◌≡◌, ℕ, false, List, ◌++◌, refl, codes, decimal, IsTrue}
use Rattle.std.proofs.Common.{ap}
use Rattle.std.specs.List.{list_all}
use Rattle.std.proofs.lemmas.List.{append_cancel_left}
use Rattle.session_law.specs.declared.task_ends.TaskEnd.{TaskEnd}
use Rattle.session_law.specs.declared.task_ends.TaskEnd.TheVariants as end
use Rattle.executors.specs.declared.refusals.TaskRefusal.{TaskRefusal}
use Rattle.executors.specs.declared.refusals.TaskRefusal.TheVariants as refusal
use Rattle.executors.specs.Refusals.{refusal_word}
use Rattle.report_law.specs.Bounds.{IsBoundedEnd, IsBoundedReply, IsWord}
use Rattle.session_law.specs.Lines.{end_text, failure_text, line_end, reply_line}
use Rattle.report_law.proofs.Runs.{decimal_line, decimal_tells, inner_line, is_decimal, is_inner, is_lined, run_tells}
use Rattle.report_law.proofs.Telling.{Any, Ends, Same, Tells, apart, before, begins, part, run_last, run_then, so, word_then}
use Rattle.std.specs.List.{list_all}
use Rattle.std.proofs.lemmas.List.{append_cancel_left}

-- ---- refusals

refusals_differ : (a b : TaskRefusal) → refusal_word a ≡ refusal_word b → a ≡ b
refusals_differ refusal.InvalidName refusal.InvalidName e = refl
refusals_differ refusal.Exists refusal.Exists e = refl
refusals_differ refusal.AliasClash refusal.AliasClash e = refl
refusals_differ refusal.BadValue refusal.BadValue e = refl
refusals_differ refusal.NotFound refusal.NotFound e = refl
refusals_differ refusal.FinalSetting refusal.FinalSetting e = refl
refusals_differ refusal.NodeKnown refusal.NodeKnown e = refl
refusals_differ refusal.NodeUnknown refusal.NodeUnknown e = refl
refusals_differ refusal.MasterMayNotLeave refusal.MasterMayNotLeave e = refl
refusals_differ _ _ e = absurd (apart _ _ refl e)

refusal_bytes : (a : TaskRefusal) → IsTrue (list_all is_inner (refusal_word a))
refusal_bytes refusal.InvalidName = refl
refusal_bytes refusal.Exists = refl
refusal_bytes refusal.AliasClash = refl
refusal_bytes refusal.BadValue = refl
refusal_bytes refusal.NotFound = refl
refusal_bytes refusal.FinalSetting = refl
refusal_bytes refusal.NodeKnown = refl
refusal_bytes refusal.NodeUnknown = refl
refusal_bytes refusal.MasterMayNotLeave = refl

pub refusal_tells : Tells (λ (a : TaskRefusal). Unit {0}) refusal_word Same (Ends is_inner)
refusal_tells = run_tells is_inner (λ a good. refusal_bytes a) (λ a b good fine e. refusals_differ a b e)

-- ---- numbers at a line's end

-- a number at the end of a line
pub number_ends : Tells IsWord decimal Same (Ends is_lined)
number_ends = before decimal_tells decimal_line

abbrev pub AreWords : ℕ × ℕ → Type 0
AreWords p = IsWord p.0 × IsWord p.1

-- two numbers with a word between them, at the end of a line
pub pair_ends : (word : List ℕ) → begins is_decimal word ≡ false → Tells AreWords (λ p. decimal p.0 ++ (word ++ decimal p.1)) Same (Ends is_lined)
pair_ends word breaks =
    so (run_then word (part (λ p. p.0) decimal_tells (λ p good. good.0)) breaks (part (λ p. p.1) number_ends (λ p good. good.1)))
    (λ a b k i. (k.0 i, k.1 i))

-- a position and a refusal, behind their word
pub failure_ends : Tells (λ (p : ℕ × TaskRefusal). IsWord p.0) (λ p. failure_text p.0 p.1) Same (Ends is_lined)
failure_ends =
    so (word_then (codes "batch_failed ") (run_then (codes " ") (part (λ p. p.0) decimal_tells (λ p good. good)) refl (before (part (λ p. p.1) refusal_tells (λ p good. tt)) inner_line)))
    (λ a b k i. (k.0 i, k.1 i))

-- ---- how a task ended

ends_told : (a b : TaskEnd) (u v : List ℕ) → IsBoundedEnd a → IsBoundedEnd b → Ends is_lined u → Ends is_lined v → end_text a ++ u ≡ end_text b ++ v → (a ≡ b) × (u ≡ v)
unfolding end_text
ends_told (end.Ok x) (end.Ok y) u v good fine eu ev e =
    let one = (word_then (codes "ok ") number_ends).told x y u v good fine eu ev e in (ap end.Ok one.0, one.1)
ends_told (end.Unchanged x) (end.Unchanged y) u v good fine eu ev e =
    let one = (word_then (codes "unchanged ") number_ends).told x y u v good fine eu ev e in (ap end.Unchanged one.0, one.1)
ends_told (end.Refused x) (end.Refused y) u v good fine eu ev e =
    let one = (word_then (codes "refused ") (before refusal_tells inner_line)).told x y u v good fine eu ev e in (ap end.Refused one.0, one.1)
ends_told (end.BatchFailed p x) (end.BatchFailed q y) u v good fine eu ev e =
    let one = failure_ends.told (p, x) (q, y) u v good fine eu ev e in ((λ i. end.BatchFailed (one.0 i).0 (one.0 i).1), one.1)
ends_told end.NotMaster end.NotMaster u v good fine eu ev e = (refl, append_cancel_left (codes "not_master") u v e)
ends_told end.PublishFailed end.PublishFailed u v good fine eu ev e = (refl, append_cancel_left (codes "publish_failed") u v e)
ends_told (end.Timeout d r) (end.Timeout f s) u v good fine eu ev e =
    let one = (word_then (codes "timeout ") (pair_ends (codes " ") refl)).told (d, r) (f, s) u v good fine eu ev e in ((λ i. end.Timeout (one.0 i).0 (one.0 i).1), one.1)
ends_told (end.Closed c s) (end.Closed d t) u v good fine eu ev e =
    let one = (word_then (codes "closed ") (pair_ends (codes ".") refl)).told (c, s) (d, t) u v good fine eu ev e in ((λ i. end.Closed (one.0 i).0 (one.0 i).1), one.1)
ends_told _ _ u v good fine eu ev e = absurd (apart _ _ refl e)

pub end_tells : Tells IsBoundedEnd end_text Same (Ends is_lined)
end_tells = record { told = ends_told }

-- ---- the line

pub reply_tells : Tells IsBoundedReply reply_line Same Any
unfolding reply_line
reply_tells =
    so (word_then (codes "task ") (run_then (codes ".") (part (λ r. r.client) decimal_tells (λ r good. good.client)) refl
    (run_then (codes " at ") (part (λ r. r.step) decimal_tells (λ r good. good.step)) refl
    (run_then (codes " ") (part (λ r. r.at) decimal_tells (λ r good. good.at)) refl
    (run_last line_end (part (λ r. r.end) end_tells (λ r good. good.end)) refl)))))
    (λ a b k i. record { client = k.0 i; step = k.1.0 i; at = k.1.1.0 i; end = k.1.1.1 i })
