-- How an acknowledgement ends where no node has anything left to apply: each that counts has an end, and what is told of
-- it is what the law asks.
use Rattle.std.specs.Prelude.{◌≡◌, ℕ, zero, suc, ◌==◌, ◌≤◌, ◌&&◌, Bool, true, false, List, [], ◌∷◌, Option, Some, None, option_and_then, refl, if◌then◌else◌}
use Rattle.std.proofs.Common.{sym, ◌∙◌, ap, subst, arith}
use Rattle.std.proofs.Math.Bool.{true≢false}
use Rattle.std.proofs.lemmas.Bool.{leb-true, or_from}
use Rattle.std.specs.Cmp.{unsigned_Decides}
use Rattle.std.specs.List.{AllByRecursion, list_any}
use Rattle.scripts.specs.declared.whole_script.Script.{Script}
use Rattle.scripts.specs.declared.whole_script.ScriptNode.{ScriptNode}
use Rattle.scripts.specs.declared.steps.Ack.{Ack}
use Rattle.session_law.specs.declared.batches.Batch.{Batch}
use Rattle.session_law.specs.declared.replies.AckEnd.{AckEnd}
use Rattle.session_law.specs.declared.replies.AckEnd.TheVariants as ack
use Rattle.session_law.specs.declared.task_ends.TaskEnd.TheVariants as end
use Rattle.session_law.specs.Acknowledgements.{IsAnswered, IsEndOfBatch, IsPublishedEnd, asked_ack, is_over_at, missing_of}
use Rattle.session_law.specs.Histories.{SteppedBatch, step_at}
use Rattle.session_law.specs.NodeRecords.{Commit}
use Rattle.session_law.specs.Outcomes.{end_in, outcome_of, stepped_with}
use Rattle.task_words.specs.declared.end_codes.Outcome.{Outcome}
use Rattle.task_words.specs.declared.end_codes.Outcome.TheVariants as outcome
use Rattle.task_words.specs.declared.words.Word.{Word}
use Rattle.task_words.specs.declared.words.Word.TheVariants as word
use Rattle.master_run.specs.AckCourses.{Acked, ack_end, acked_in, acked_of, acked_ok, acked_with, awaits_some, commit_in, due_in, end_by_time, end_of_acked, is_late, is_missing, is_required}
use Rattle.master_run.specs.Courses.{Course}
use Rattle.master_run.specs.Endings.{end_by}
use Rattle.master_run.specs.Nodes.{NodeCourse}
use Rattle.master_run.specs.SoFar.{IsLapsedSoFar, IsWordLawful, is_over}
use Rattle.master_run.specs.Steps.{ack_end_in, ack_told, code_told}
use Rattle.master_run.proofs.AckKeeping.{timed_some}
use Rattle.master_run.proofs.Keeping.{no_some, some_same}

-- ---- what counts

-- of a task that ended in its batch with a version, where its step asks
pub record IsAckedSo (script : Script) (batches : List Batch) (client step version : ℕ) (asked : Ack) : Type 0 where
  pub stepped : SteppedBatch
  pub found : stepped_with script batches client step ≡ Some stepped
  pub is : acked_in script batches client step ≡ Some (record { asked = asked; version = version; stepped = stepped })

acked_by_batch : (script : Script) (batches : List Batch) (client step version : ℕ) (asked : Ack) (found : Option SteppedBatch) → asked_ack (step_at script client step) ≡ Some asked
    → stepped_with script batches client step ≡ found → option_and_then (end_in client step) found ≡ Some (end.Ok version) → IsAckedSo script batches client step version asked
acked_by_batch script batches client step version asked None asks e told = absurd (no_some (end.Ok version) told)
acked_by_batch script batches client step version asked (Some s) asks e told = record {
  stepped = s;
  found = e;
  is = ap (acked_of script batches client step) asks ∙ ap (acked_with client step asked) e ∙ ap (acked_ok asked s) told;
}

pub acked_so : (script : Script) (batches : List Batch) (client step version : ℕ) (asked : Ack) → asked_ack (step_at script client step) ≡ Some asked
    → outcome_of script batches client step ≡ Some (end.Ok version) → IsAckedSo script batches client step version asked
acked_so script batches client step version asked asks told = acked_by_batch script batches client step version asked (stepped_with script batches client step) asks refl told

-- ---- it has an end

and_none : (b : Bool) → (b && false) ≡ false
and_none true = refl
and_none false = refl

none_missing : (a : Acked) (node : ScriptNode) (has : NodeCourse) → has.left ≡ [] → is_missing a node has ≡ false
none_missing a node has none =
    let must = is_required a.asked a.stepped.world.state node.name in
    ap (λ (l : List Commit). must && list_any (λ c. c.state.version == a.version) l) none ∙ and_none must

pub none_awaited : (a : Acked) (nodes : List ScriptNode) (have : List NodeCourse) → AllByRecursion (λ (n : NodeCourse). n.left ≡ []) have → awaits_some a nodes have ≡ false
none_awaited a [] have none = refl
none_awaited a (node ∷ more) [] none = refl
none_awaited a (node ∷ more) (has ∷ others) none =
    or_from (is_missing a node has) (awaits_some a more others) (none_missing a node has none.0) (none_awaited a more others none.1)

end_there : (late : Bool) (commit : ℕ) (deadline lapse : Option ℕ) (waits : Bool) (failures : ℕ) → is_over_at commit deadline ≡ late
    → ((reading : ℕ) → lapse ≡ Some reading → is_over_at reading deadline ≡ true) → waits ≡ false → (end : AckEnd) × (end_by_time late commit deadline lapse waits failures ≡ Some end)
end_there true commit deadline lapse waits failures over lapsed none = timed_some commit commit deadline over
end_there false commit deadline (Some reading) waits failures over lapsed none = timed_some reading reading deadline (lapsed reading refl)
end_there false commit deadline None true failures over lapsed none = absurd (true≢false none)
end_there false commit deadline None false failures over lapsed none = ((if failures == 0 then ack.All else ack.Failed failures), refl)

-- where it timed out after its commit, its deadline was there
pub over_where : (script : Script) (k : Course) (client step reading : ℕ) (a : Acked) → IsLapsedSoFar script k.book.batches k.lapses → acked_in script k.book.batches client step ≡ Some a
    → k.lapses client step ≡ Some reading → is_over_at reading (due_in a) ≡ true
over_where script k client step reading a h is e =
    let lapsed = h client step reading e in
    subst (λ (x : Acked). is_over_at reading (due_in x) ≡ true) (some_same lapsed.of a (sym lapsed.found ∙ is)) lapsed.over

abbrev ends_with : Script → Course → ℕ → ℕ → Option Acked → Option AckEnd
ends_with script k client step acked = ack_end script k.book.batches k.nodes (k.lapses client step) acked

pub has_end : (script : Script) (k : Course) (client step : ℕ) (a : Acked) → IsLapsedSoFar script k.book.batches k.lapses → AllByRecursion (λ (n : NodeCourse). n.left ≡ []) k.nodes
    → acked_in script k.book.batches client step ≡ Some a → (end : AckEnd) × (ack_end_in script k client step ≡ Some end)
has_end script k client step a h none is =
    let there =
    end_there (is_late a) (commit_in a) (due_in a) (k.lapses client step) (awaits_some a script.nodes k.nodes) (missing_of script k.book.batches a.asked a.version) refl
    (λ reading e. over_where script k client step reading a h is e) (none_awaited a script.nodes k.nodes none) in
    (there.0, ap (ends_with script k client step) is ∙ there.1)

-- ---- an await acts

told_if : (batch : ℕ) (told : Option AckEnd) (end : AckEnd) (version : ℕ) → told ≡ Some end → code_told batch told (outcome.Ok version) ≡ Some batch
told_if batch told end version e = ap (λ (o : Option AckEnd). code_told batch o (outcome.Ok version)) e

code_acts : (script : Script) (k : Course) (client step batch : ℕ) (asked : Ack) (o : Outcome) → IsLapsedSoFar script k.book.batches k.lapses → AllByRecursion (λ (n : NodeCourse). n.left ≡ []) k.nodes
    → asked_ack (step_at script client step) ≡ Some asked → outcome_of script k.book.batches client step ≡ end_by o → code_told batch (ack_end_in script k client step) o ≡ Some batch
code_acts script k client step batch asked (outcome.Ok version) h none asks told =
    let so = acked_so script k.book.batches client step version asked asks told in
    let there = has_end script k client step (record { asked = asked; version = version; stepped = so.stepped }) h none so.is in
    told_if batch (ack_end_in script k client step) there.0 version there.1
code_acts script k client step batch asked (outcome.Unchanged version) h none asks told = refl
code_acts script k client step batch asked (outcome.Refused refusal) h none asks told = refl
code_acts script k client step batch asked (outcome.BatchFailed position refusal) h none asks told = refl
code_acts script k client step batch asked outcome.NotMaster h none asks told = refl
code_acts script k client step batch asked outcome.PublishFailed h none asks told = refl
code_acts script k client step batch asked outcome.Closed h none asks told = refl

pub ack_acts : (script : Script) (k : Course) (client step at : ℕ) (timeout : Option ℕ) (asked : Ack) (w : Word) → IsLapsedSoFar script k.book.batches k.lapses
    → AllByRecursion (λ (n : NodeCourse). n.left ≡ []) k.nodes → asked_ack (step_at script client step) ≡ Some asked → IsWordLawful script k.book.batches k.waiting client step at timeout w
    → is_over w ≡ true → (batch : ℕ) × (ack_told (ack_end_in script k client step) w ≡ Some batch)
ack_acts script k client step at timeout asked word.Vacant h none asks lawful over = absurd (true≢false (sym over))
ack_acts script k client step at timeout asked (word.Queued seen deadline) h none asks lawful over = absurd (true≢false (sym over))
ack_acts script k client step at timeout asked (word.Taken seen batch) h none asks lawful over = absurd (true≢false (sym over))
ack_acts script k client step at timeout asked (word.Ended code) h none asks lawful over =
    (code.batch, code_acts script k client step code.batch asked code.outcome h none asks lawful.outcome)
ack_acts script k client step at timeout asked (word.Timed reading) h none asks lawful over = (0, refl)

-- ---- the end is the law's

some_missing : (missing : ℕ) → (missing == 0) ≡ false → 1 ≤ missing
some_missing zero e = absurd (true≢false e)
some_missing (suc n) e = omega arith

answered_so : (missing : ℕ) (deadline : Option ℕ) (b : Bool) → (missing == 0) ≡ b → IsAnswered missing deadline (if b then ack.All else ack.Failed missing)
answered_so missing deadline true e = (unsigned_Decides missing 0).0 e
answered_so missing deadline false e = (refl, some_missing missing e)

published_end : (late : Bool) (missing commit : ℕ) (deadline lapse : Option ℕ) (waits : Bool) (told : AckEnd) → is_over_at commit deadline ≡ late
    → ((reading : ℕ) → lapse ≡ Some reading → is_over_at reading deadline ≡ true) → end_by_time late commit deadline lapse waits missing ≡ Some told
    → IsPublishedEnd late missing commit deadline told
published_end true missing commit None lapse waits told over lapsed e = absurd (true≢false (sym over))
published_end true missing commit (Some d) lapse waits told over lapsed e = sym (some_same (ack.Timeout d commit) told e)
published_end false missing commit None (Some reading) waits told over lapsed e = absurd (true≢false (sym (lapsed reading refl)))
published_end false missing commit (Some d) (Some reading) waits told over lapsed e =
    subst (IsAnswered missing (Some d)) (some_same (ack.Timeout d reading) told e) (refl, leb-true d reading (lapsed reading refl))
published_end false missing commit deadline None true told over lapsed e = absurd (no_some told e)
published_end false missing commit deadline None false told over lapsed e =
    subst (IsAnswered missing deadline) (some_same (if missing == 0 then ack.All else ack.Failed missing) told e) (answered_so missing deadline (missing == 0) refl)

pub lawful_end : (script : Script) (k : Course) (client step version : ℕ) (asked : Ack) (told : AckEnd) → IsLapsedSoFar script k.book.batches k.lapses
    → asked_ack (step_at script client step) ≡ Some asked → outcome_of script k.book.batches client step ≡ Some (end.Ok version) → ack_end_in script k client step ≡ Some told
    → IsEndOfBatch script k.book.batches asked version told (stepped_with script k.book.batches client step)
lawful_end script k client step version asked told h asks ended e =
    let so = acked_so script k.book.batches client step version asked asks ended in
    let a : Acked = record { asked = asked; version = version; stepped = so.stepped } in
    let ends : end_of_acked script k.book.batches k.nodes (k.lapses client step) a ≡ Some told = sym (ap (ends_with script k client step) so.is) ∙ e in
    subst (IsEndOfBatch script k.book.batches asked version told) (sym so.found)
    (published_end (is_late a) (missing_of script k.book.batches asked version) (commit_in a) (due_in a) (k.lapses client step) (awaits_some a script.nodes k.nodes) told refl
    (λ reading f. over_where script k client step reading a h so.is f) ends)
