-- An acknowledgement that timed out after its commit stays so with each batch; and where the open ones time out at a
-- reading, none of them was late, and its deadline was there.
use Rattle.std.specs.Prelude.{◌≡◌, ℕ, Bool, true, false, List, [], ◌∷◌, ◌++◌, Option, Some, None, refl, if◌then◌else◌}
use Rattle.std.proofs.Common.{sym, ◌∙◌, subst}
use Rattle.std.proofs.Math.Bool.{true≢false}
use Rattle.scripts.specs.declared.whole_script.Script.{Script}
use Rattle.session_law.specs.declared.batches.Batch.{Batch}
use Rattle.session_law.specs.declared.replies.AckEnd.{AckEnd}
use Rattle.session_law.specs.Acknowledgements.{is_over_at, missing_of}
use Rattle.master_run.specs.AckCourses.{Acked, acked_in, awaits_some, commit_in, due_in, end_by_time, end_of_acked, is_late, lapse_after, lapsed_by, timed_end}
use Rattle.master_run.specs.Courses.{Course}
use Rattle.master_run.specs.Events.{all_lapsed}
use Rattle.master_run.specs.Nodes.{NodeCourse}
use Rattle.master_run.specs.SoFar.{IsLapsed, IsLapsedSoFar, IsLawfulSoFar}
use Rattle.master_run.proofs.AckGrowth.{acked_stays}
use Rattle.master_run.proofs.Keeping.{no_some, some_same}

-- ---- a batch

pub lapsed_push : (script : Script) (batches : List Batch) (batch : Batch) (lapses : ℕ → ℕ → Option ℕ) → IsLapsedSoFar script batches lapses → IsLapsedSoFar script (batches ++ batch ∷ []) lapses
lapsed_push script batches batch lapses h c s reading e =
    let before = h c s reading e in
    record { of = before.of; found = acked_stays script batches batch c s before.of before.found; early = before.early; over = before.over }

-- ---- a deadline

-- an acknowledgement whose time is over at a reading has a deadline
pub due_some : (reading : ℕ) (deadline : Option ℕ) → is_over_at reading deadline ≡ true → (d : ℕ) × (deadline ≡ Some d)
due_some reading None over = absurd (true≢false (sym over))
due_some reading (Some d) over = (d, refl)

-- so there is an end of it
pub timed_some : (reading at : ℕ) (deadline : Option ℕ) → is_over_at reading deadline ≡ true → (end : AckEnd) × (timed_end deadline at ≡ Some end)
timed_some reading at None over = absurd (true≢false (sym over))
timed_some reading at (Some d) over = (AckEnd.Timeout d at, refl)

-- ---- an event

-- what is open wasn't late
early_by : (late : Bool) (commit : ℕ) (deadline lapse : Option ℕ) (waits : Bool) (failures : ℕ) → is_over_at commit deadline ≡ late
    → end_by_time late commit deadline lapse waits failures ≡ None → late ≡ false
early_by true commit deadline lapse waits failures over none =
    let told = timed_some commit commit deadline over in
    absurd (no_some told.0 (sym none ∙ told.1))
early_by false commit deadline lapse waits failures over none = refl

pub open_early : (script : Script) (batches : List Batch) (nodes : List NodeCourse) (lapse : Option ℕ) (a : Acked) → end_of_acked script batches nodes lapse a ≡ None → is_late a ≡ false
open_early script batches nodes lapse a none =
    early_by (is_late a) (commit_in a) (due_in a) lapse (awaits_some a script.nodes nodes) (missing_of script batches a.asked a.version) refl none

over_now : (acked : Option Acked) (reading at : ℕ) (lapse : Option ℕ) (a : Acked) (b : Bool) → acked ≡ Some a → is_late a ≡ false → is_over_at reading (due_in a) ≡ b
    → ((r : ℕ) → lapse ≡ Some r → IsLapsed acked r) → (if b then Some reading else lapse) ≡ Some at → IsLapsed acked at
over_now acked reading at lapse a true found early over h e =
    record { of = a; found = found; early = early; over = subst (λ (r : ℕ). is_over_at r (due_in a) ≡ true) (some_same reading at e) over }
over_now acked reading at lapse a false found early over h e = h at e

lapsed_open : (acked : Option Acked) (reading at : ℕ) (lapse : Option ℕ) (a : Acked) (end : Option AckEnd) → acked ≡ Some a → (end ≡ None → is_late a ≡ false)
    → ((r : ℕ) → lapse ≡ Some r → IsLapsed acked r) → lapsed_by reading lapse a end ≡ Some at → IsLapsed acked at
lapsed_open acked reading at lapse a (Some end) found early h e = h at e
lapsed_open acked reading at lapse a None found early h e = over_now acked reading at lapse a (is_over_at reading (due_in a)) found (early refl) refl h e

lapsed_one : (script : Script) (batches : List Batch) (nodes : List NodeCourse) (reading at : ℕ) (lapse : Option ℕ) (acked found : Option Acked) → acked ≡ found
    → ((r : ℕ) → lapse ≡ Some r → IsLapsed acked r) → lapse_after script batches nodes reading lapse found ≡ Some at → IsLapsed acked at
lapsed_one script batches nodes reading at lapse acked None is h e = h at e
lapsed_one script batches nodes reading at lapse acked (Some a) is h e =
    lapsed_open acked reading at lapse a (end_of_acked script batches nodes lapse a) is (open_early script batches nodes lapse a) h e

pub lapsed_all : (script : Script) (k : Course) (reading : ℕ) → IsLapsedSoFar script k.book.batches k.lapses → IsLapsedSoFar script k.book.batches (all_lapsed script reading k)
lapsed_all script k reading h c s at e =
    lapsed_one script k.book.batches k.nodes reading at (k.lapses c s) (acked_in script k.book.batches c s) (acked_in script k.book.batches c s) refl (λ r f. h c s r f) e

pub lapse_keeps : (script : Script) (k : Course) (reading : ℕ) → IsLawfulSoFar script k → IsLawfulSoFar script (record k { lapses = all_lapsed script reading k })
lapse_keeps script k reading h = record {
  performed = h.performed;
  ordered = h.ordered;
  seen = h.seen;
  passed = h.passed;
  ended = h.ended;
  told = h.told;
  recorded = h.recorded;
  lapsed = lapsed_all script k reading h.lapsed;
}
