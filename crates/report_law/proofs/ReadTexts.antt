-- The line of a read tells the read.
use Rattle.std.specs.Prelude.{◌≡◌, ℕ, Bool, true, false, List, ◌++◌, refl, codes, IsTrue}
use Rattle.std.proofs.Common.{ap}
use Rattle.std.proofs.lemmas.List.{append_cancel_left}
use Rattle.meta_state.specs.declared.looks.Found.{Found}
use Rattle.meta_state.specs.declared.looks.Found.TheVariants as found
use Rattle.session_law.specs.declared.reads.Read.{Read}
use Rattle.report_law.specs.Bounds.{IsBoundedFound, IsBoundedRead, IsWord}
use Rattle.report_law.specs.GoodForm.{is_good_found}
use Rattle.session_law.specs.Lines.{line_end}
use Rattle.session_law.specs.ReplyLines.{found_text, open_word, read_line}
use Rattle.report_law.proofs.JsonStrings.{text_json_tells}
use Rattle.report_law.proofs.Joined.{index_names_tell}
use Rattle.report_law.proofs.Runs.{decimal_tells, is_inner, is_lined, listed_line}
use Rattle.report_law.proofs.TaskTexts.{number_ends}
use Rattle.report_law.proofs.Telling.{Any, Ends, Same, Tells, apart, before, part, run_last, run_then, so, word_then}
use Rattle.std.proofs.lemmas.Bool.{and_parts}

-- ---- what was found

open_words_told : (a b : Bool) (u v : List ℕ) → Unit {0} → Unit {0} → Ends is_inner u → Ends is_inner v → open_word a ++ u ≡ open_word b ++ v → (a ≡ b) × (u ≡ v)
open_words_told true true u v good fine eu ev e = (refl, append_cancel_left (codes "open") u v e)
open_words_told false false u v good fine eu ev e = (refl, append_cancel_left (codes "closed") u v e)
open_words_told _ _ u v good fine eu ev e = absurd (apart _ _ refl e)

open_word_tells : Tells (λ (opened : Bool). Unit {0}) open_word Same (Ends is_inner)
open_word_tells = record { told = open_words_told }

abbrev FoundIndex : Type 0
FoundIndex = ℕ × Bool × ℕ × ℕ

abbrev found_index_text : FoundIndex → List ℕ
found_index_text p = found_text (found.Index p.0 p.1 p.2 p.3)

found_index_ends : Tells (λ (p : FoundIndex). IsWord p.0 × IsWord p.2 × IsWord p.3) found_index_text Same (Ends is_lined)
unfolding found_text
found_index_ends =
    so (word_then (codes "index id ") (run_then (codes " ") (part (λ p. p.0) decimal_tells (λ p good. good.0)) refl
    (run_then (codes " shards ") (part (λ p. p.1) open_word_tells (λ p good. tt)) refl
    (run_then (codes " replicas ") (part (λ p. p.2) decimal_tells (λ p good. good.1)) refl (part (λ p. p.3) number_ends (λ p good. good.2))))))
    (λ a b k i. (k.0 i, k.1.0 i, k.1.1.0 i, k.1.1.1 i))

abbrev IsToldFound : Found → Type 0
IsToldFound found = IsTrue (is_good_found found) × IsBoundedFound found

founds_told : (a b : Found) (u v : List ℕ) → IsToldFound a → IsToldFound b → Ends is_lined u → Ends is_lined v → found_text a ++ u ≡ found_text b ++ v → (a ≡ b) × (u ≡ v)
unfolding found_text
founds_told found.Missing found.Missing u v good fine eu ev e = (refl, append_cancel_left (codes "missing") u v e)
founds_told (found.Index i o s r) (found.Index j p t q) u v good fine eu ev e =
    let one = found_index_ends.told (i, o, s, r) (j, p, t, q) u v good.1 fine.1 eu ev e in
    ((λ t. found.Index (one.0 t).0 (one.0 t).1 (one.0 t).2 (one.0 t).3), one.1)
founds_told (found.Names xs) (found.Names ys) u v good fine eu ev e =
    let one = (word_then (codes "names ") (before index_names_tell listed_line)).told xs ys u v
    (and_parts _ _ good.0).0 (and_parts _ _ fine.0).0 eu ev e in
    (ap found.Names one.0, one.1)
founds_told (found.Value x) (found.Value y) u v good fine eu ev e =
    let one = (word_then (codes "value ") text_json_tells).told x y u v tt tt tt tt e in (ap found.Value one.0, one.1)
founds_told _ _ u v good fine eu ev e = absurd (apart _ _ refl e)

found_tells : Tells IsToldFound found_text Same (Ends is_lined)
found_tells = record { told = founds_told }

-- ---- the line

abbrev pub IsToldRead : Read → Type 0
IsToldRead read = IsTrue (is_good_found read.found) × IsBoundedRead read

pub read_tells : Tells IsToldRead read_line Same Any
unfolding read_line
read_tells =
    so (word_then (codes "read ") (run_then (codes ".") (part (λ r. r.client) decimal_tells (λ r good. good.1.client)) refl
    (run_then (codes " version ") (part (λ r. r.step) decimal_tells (λ r good. good.1.step)) refl
    (run_then (codes " ") (part (λ r. r.version) decimal_tells (λ r good. good.1.version)) refl
    (run_last line_end (part (λ r. r.found) found_tells (λ r good. (good.0, good.1.found))) refl)))))
    (λ a b k i. record { client = k.0 i; step = k.1.0 i; version = k.1.1.0 i; found = k.1.1.1 i })
