-- The lines of acknowledgements and watches tell them.
use Rattle.std.specs.Prelude.{◌≡◌, ℕ, List, ◌++◌, refl, codes, decimal, Option, Some, None}
use Rattle.std.proofs.Common.{sym, ap}
use Rattle.std.proofs.lemmas.List.{append_cancel_left}
use Rattle.session_law.specs.declared.replies.AckEnd.{AckEnd}
use Rattle.session_law.specs.declared.replies.AckEnd.TheVariants as ack
use Rattle.session_law.specs.declared.watches.WatchEnd.{WatchEnd}
use Rattle.session_law.specs.declared.watches.WatchEnd.TheVariants as watch
use Rattle.report_law.specs.Bounds.{IsBoundedAck, IsBoundedAckEnd, IsBoundedLast, IsBoundedWatch, IsBoundedWatchEnd}
use Rattle.session_law.specs.Lines.{line_end}
use Rattle.session_law.specs.ReplyLines.{ack_end_text, ack_line, last_text, timeout_text, watch_end_text, watch_line}
use Rattle.report_law.proofs.Runs.{decimal_no_dash, decimal_tells, is_decimal, is_lined, no_dash_stays}
use Rattle.report_law.proofs.TaskTexts.{AreWords, number_ends, pair_ends}
use Rattle.report_law.proofs.Telling.{Any, Ends, Same, Tells, apart, part, run_last, run_then, so, word_then}

timeout_ends : Tells AreWords (λ p. timeout_text p.0 p.1) Same (Ends is_lined)
timeout_ends = word_then (codes "timeout ") (pair_ends (codes " ") refl)

-- ---- acknowledgements

ack_ends_told : (a b : AckEnd) (u v : List ℕ) → IsBoundedAckEnd a → IsBoundedAckEnd b → Ends is_lined u → Ends is_lined v → ack_end_text a ++ u ≡ ack_end_text b ++ v → (a ≡ b) × (u ≡ v)
unfolding ack_end_text
ack_ends_told ack.All ack.All u v good fine eu ev e = (refl, append_cancel_left (codes "all") u v e)
ack_ends_told (ack.Failed x) (ack.Failed y) u v good fine eu ev e =
    let one = (word_then (codes "failed ") number_ends).told x y u v good fine eu ev e in (ap ack.Failed one.0, one.1)
ack_ends_told (ack.Timeout d r) (ack.Timeout f s) u v good fine eu ev e =
    let one = timeout_ends.told (d, r) (f, s) u v good fine eu ev e in ((λ i. ack.Timeout (one.0 i).0 (one.0 i).1), one.1)
ack_ends_told _ _ u v good fine eu ev e = absurd (apart _ _ refl e)

ack_end_tells : Tells IsBoundedAckEnd ack_end_text Same (Ends is_lined)
ack_end_tells = record { told = ack_ends_told }

pub ack_tells : Tells IsBoundedAck ack_line Same Any
unfolding ack_line
ack_tells =
    so (word_then (codes "ack ") (run_then (codes ".") (part (λ a. a.client) decimal_tells (λ a good. good.client)) refl
    (run_then (codes " ") (part (λ a. a.step) decimal_tells (λ a good. good.step)) refl
    (run_last line_end (part (λ a. a.end) ack_end_tells (λ a good. good.end)) refl))))
    (λ a b k i. record { client = k.0 i; step = k.1.0 i; end = k.1.1 i })

-- ---- watches

watch_ends_told : (a b : WatchEnd) (u v : List ℕ) → IsBoundedWatchEnd a → IsBoundedWatchEnd b → Ends is_lined u → Ends is_lined v → watch_end_text a ++ u ≡ watch_end_text b ++ v → (a ≡ b) × (u ≡ v)
unfolding watch_end_text
watch_ends_told (watch.Answered x) (watch.Answered y) u v good fine eu ev e =
    let one = (word_then (codes "answered ") number_ends).told x y u v good fine eu ev e in (ap watch.Answered one.0, one.1)
watch_ends_told (watch.Timeout d r) (watch.Timeout f s) u v good fine eu ev e =
    let one = timeout_ends.told (d, r) (f, s) u v good fine eu ev e in ((λ i. watch.Timeout (one.0 i).0 (one.0 i).1), one.1)
watch_ends_told (watch.Closed c s) (watch.Closed d t) u v good fine eu ev e =
    let one = (word_then (codes "closed ") (pair_ends (codes ".") refl)).told (c, s) (d, t) u v good fine eu ev e in ((λ i. watch.Closed (one.0 i).0 (one.0 i).1), one.1)
watch_ends_told _ _ u v good fine eu ev e = absurd (apart _ _ refl e)

watch_end_tells : Tells IsBoundedWatchEnd watch_end_text Same (Ends is_lined)
watch_end_tells = record { told = watch_ends_told }

last_told : (a b : Option ℕ) (u v : List ℕ) → IsBoundedLast a → IsBoundedLast b → Ends is_decimal u → Ends is_decimal v → last_text a ++ u ≡ last_text b ++ v → (a ≡ b) × (u ≡ v)
last_told None None u v good fine eu ev e = (refl, append_cancel_left (codes "-") u v e)
last_told None (Some n) u v good fine eu ev e = absurd (no_dash_stays (decimal n) v u (decimal_no_dash n fine) (sym e))
last_told (Some n) None u v good fine eu ev e = absurd (no_dash_stays (decimal n) u v (decimal_no_dash n good) e)
last_told (Some n) (Some m) u v good fine eu ev e = let one = decimal_tells.told n m u v good fine eu ev e in (ap (λ k. Some k) one.0, one.1)

last_tells : Tells IsBoundedLast last_text Same (Ends is_decimal)
last_tells = record { told = last_told }

pub watch_tells : Tells IsBoundedWatch watch_line Same Any
unfolding watch_line
watch_tells =
    so (word_then (codes "watch ") (run_then (codes ".") (part (λ w. w.client) decimal_tells (λ w good. good.client)) refl
    (run_then (codes ".") (part (λ w. w.step) decimal_tells (λ w good. good.step)) refl
    (run_then (codes " at ") (part (λ w. w.part) decimal_tells (λ w good. good.part)) refl
    (run_then (codes " last ") (part (λ w. w.at) decimal_tells (λ w good. good.at)) refl
    (run_then (codes " from ") (part (λ w. w.last) last_tells (λ w good. good.last)) refl
    (run_then (codes " shown ") (part (λ w. w.place) decimal_tells (λ w good. good.place)) refl
    (run_then (codes " ") (part (λ w. w.shown) decimal_tells (λ w good. good.shown)) refl
    (run_last line_end (part (λ w. w.end) watch_end_tells (λ w good. good.end)) refl)))))))))
    (λ a b k i. record {
      client = k.0 i;
      step = k.1.0 i;
      part = k.1.1.0 i;
      at = k.1.1.1.0 i;
      last = k.1.1.1.1.0 i;
      place = k.1.1.1.1.1.0 i;
      shown = k.1.1.1.1.1.1.0 i;
      end = k.1.1.1.1.1.1.1 i;
    })
