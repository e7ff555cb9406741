-- A replay's acknowledgements through its turns: what its words say at first, as a client awaits one, and as a batch comes.
use Rattle.std.specs.Prelude.{◌≡◌, ℕ, zero, suc, ◌<◌, ◌-◌, ◌^◌, Bool, true, false, List, [], ◌∷◌, cond, get_or, replicate, sum, Option, Some, None, is_none, is_some, refl, IsTrue, if◌then◌else◌}
use Rattle.std.specs.Option.{option_map}
use Rattle.std.proofs.Common.{sym, ◌∙◌, ap, subst, arith}
use Rattle.std.proofs.lemmas.Bool.{cond-true}
use Rattle.ack_words.specs.Acks.{word_at, word_poll}
use Rattle.meta_state.specs.declared.cluster_state.ClusterState.{ClusterState}
use Rattle.scripts.specs.declared.whole_script.Script.{Script}
use Rattle.scripts.specs.declared.whole_script.ScriptNode.{ScriptNode}
use Rattle.scripts.specs.declared.steps.Ack.{Ack}
use Rattle.scripts.specs.declared.steps.Step.{Step}
use Rattle.scripts.specs.declared.steps.Step.TheVariants.{Sleep}
use Rattle.session_law.specs.declared.batches.Entry.{Entry}
use Rattle.session_law.specs.declared.replies.AckEnd.{AckEnd}
use Rattle.session_law.specs.declared.task_ends.TaskEnd.{TaskEnd}
use Rattle.session_law.specs.declared.task_ends.TaskEnd.TheVariants as end
use Rattle.session_law.specs.Acknowledgements.{asked_ack}
use Rattle.session_law.specs.DueTimes.{due}
use Rattle.session_law.specs.Histories.{step_at}
use Rattle.task_words.specs.declared.end_codes.Outcome.{Outcome}
use Rattle.task_words.specs.declared.end_codes.Outcome.TheVariants as outcome
use Rattle.task_words.specs.declared.words.Word.{Word}
use Rattle.task_words.specs.declared.words.Word.TheVariants as word
use Rattle.task_words.specs.Words.{polled}
use Rattle.master_run.specs.declared.acknowledgements.Times.{Times}
use Rattle.master_run.specs.declared.replays.Replay.{Replay}
use Rattle.master_run.specs.AckBooks.{AckBook, IsAckBook, ack_number, counted_all, counted_each, counted_one, counted_so, is_in_lane, is_not_yet, lapses_of, new_acks, pruned, reading_at, timed_all}
use Rattle.master_run.specs.AckCourses.{ack_end, acked_in}
use Rattle.master_run.specs.Appliers.{courses_of}
use Rattle.master_run.specs.Courses.{next_at, word_of}
use Rattle.master_run.specs.Events.{all_lapsed}
use Rattle.master_run.specs.Replays.{HasCounted, IsSound, course_of, outcome_polled, poll_told, serial_of, slept_in}
use Rattle.master_run.specs.Serials.{Serial, after_step, after_turn, at_clock, client_turn, moved}
use Rattle.master_run.specs.Steps.{ack_end_in, ack_told, code_told, next_step_of, slept_by, step_by}
use Rattle.master_run.proofs.AckPolls.{told_by_poll}
use Rattle.master_run.proofs.AckTimes.{counted_timed, lapses_timed}

-- ---- at first

none_at : (count number : ℕ) → get_or (replicate {A = Option ℕ} count None) number None ≡ None
none_at zero number = refl
none_at (suc count) zero = refl
none_at (suc count) (suc number) = none_at count number

none_if : (b : Bool) (lapse : Option ℕ) → lapse ≡ None → cond b lapse None ≡ None
none_if true lapse e = e
none_if false lapse e = refl

pub lapses_first : (lanes : List ℕ) (nodes : ℕ) → lapses_of (new_acks lanes nodes) ≡ (λ client step. None)
lapses_first lanes nodes = λ i client step. none_if (is_in_lane lanes client step) (get_or (replicate (sum lanes) None) (ack_number lanes client step) None) (none_at (sum lanes) (ack_number lanes client step)) i

-- ---- an await

outcome_told : (end : Option AckEnd) (batch : ℕ) (out : Outcome) → outcome_polled (is_none end) batch out ≡ code_told batch end out
outcome_told None batch (outcome.Ok version) = refl
outcome_told (Some end) batch (outcome.Ok version) = refl
outcome_told end batch (outcome.Unchanged version) = refl
outcome_told end batch (outcome.Refused refusal) = refl
outcome_told end batch (outcome.BatchFailed position refusal) = refl
outcome_told end batch outcome.NotMaster = refl
outcome_told end batch outcome.PublishFailed = refl
outcome_told end batch outcome.Closed = refl

word_told : (end : Option AckEnd) (w : Word) → poll_told (is_none end) (polled w) ≡ ack_told end w
word_told end word.Vacant = refl
word_told end (word.Queued seen deadline) = refl
word_told end (word.Taken seen batch) = refl
word_told end (word.Ended code) = outcome_told end code.batch code.outcome
word_told end (word.Timed reading) = refl

-- what a client is told by the words is what the course tells it
pub await_told : (script : Script) (before : Replay) (client earlier : ℕ) (opened : Bool) → IsSound script before → HasCounted script before → IsTrue (is_in_lane before.acks.lanes client earlier)
    → opened ≡ is_not_yet (word_poll (word_at before.acks.words (ack_number before.acks.lanes client earlier)))
    → poll_told opened (polled (word_of before.tasks client earlier)) ≡ ack_told (ack_end_in script (course_of before) client earlier) (word_of before.tasks client earlier)
await_told script before client earlier opened sound counts inside e =
    let k = course_of before in
    let a = acked_in script k.book.batches client earlier in
    let reading = reading_at before.acks (ack_number before.acks.lanes client earlier) in
    let here : k.lapses client earlier ≡ reading = cond-true (is_in_lane before.acks.lanes client earlier) reading None inside in
    let told : opened ≡ is_none (ack_end script k.book.batches k.nodes reading a) =
    e ∙ told_by_poll script k.book.batches k.nodes a reading (word_at before.acks.words (ack_number before.acks.lanes client earlier)) (counts.words client earlier inside)
    (λ r f. sound.lawful.lapsed client earlier r (here ∙ f)) in
    ap (λ (b : Bool). poll_told b (polled (word_of before.tasks client earlier))) (told ∙ ap (λ (l : Option ℕ). is_none (ack_end script k.book.batches k.nodes l a)) (sym here))
    ∙ word_told (ack_end_in script k client earlier) (word_of before.tasks client earlier)

-- ---- a batch

so_kept : (nodes : List ScriptNode) (state : ClusterState) (times : Times) (number : ℕ) (end : TaskEnd) (asked : Option Ack) (b : AckBook) → lapses_of (counted_so nodes state times number end asked b) ≡ lapses_of b
so_kept nodes state times number (end.Ok version) None b = refl
so_kept nodes state times number (end.Ok version) (Some asked) b = refl
so_kept nodes state times number (end.Unchanged version) asked b = refl
so_kept nodes state times number (end.Refused refusal) asked b = refl
so_kept nodes state times number (end.BatchFailed position refusal) asked b = refl
so_kept nodes state times number end.NotMaster asked b = refl
so_kept nodes state times number end.PublishFailed asked b = refl
so_kept nodes state times number (end.Timeout deadline reading) asked b = refl
so_kept nodes state times number (end.Closed client step) asked b = refl

each_kept : (script : Script) (state : ClusterState) (times : Times) (entries : List Entry) (ends : List TaskEnd) (b : AckBook) → lapses_of (counted_each script state times entries ends b) ≡ lapses_of b
each_kept script state times [] ends b = refl
each_kept script state times (entry ∷ entries) [] b = refl
each_kept script state times (entry ∷ entries) (end ∷ ends) b =
    each_kept script state times entries ends (counted_one script state times entry end b)
    ∙ so_kept script.nodes state times (ack_number b.lanes entry.client entry.step) end (asked_ack (step_at script entry.client entry.step)) b

-- what begins to count changes no reading
pub lapses_counted : (script : Script) (state : ClusterState) (times : Times) (entries : List Entry) (ends : List TaskEnd) (b : AckBook) → lapses_of (counted_all script state times entries ends b) ≡ lapses_of b
lapses_counted script state times entries ends b = each_kept script state times entries ends (pruned b)

-- ---- a sleep

sleeps : (script : Script) (s : Serial) (client ms : ℕ) → next_step_of script s.course client ≡ Some (Sleep ms)
    → after_turn (false, s) (client_turn script client s) ≡ (true, moved script (record (at_clock s.clock (slept_by s.course client)) { clock = due s.clock ms }))
sleeps script s client ms e =
    ap (λ (found : Option Step). after_turn (false, s) (option_map (λ k. after_step script found (at_clock s.clock k)) (step_by script s.course client s.clock found))) e

due_few : (clock ms : ℕ) → due clock ms < 2 ^ 43 - 1
due_few clock ms = omega arith

-- what the code lets time out is what times out
pub slept_turn : (script : Script) (before : Replay) (client ms : ℕ) → IsSound script before → HasCounted script before → IsAckBook before.acks
    → step_at script client (next_at before.positions client) ≡ Some (Sleep ms)
    → after_turn (false, serial_of before) (client_turn script client (serial_of before)) ≡ (true, serial_of (slept_in before client ms))
slept_turn script before client ms sound counts is e =
    let k = course_of before in
    let reading = due before.clock ms in
    let lapsed : (c s : ℕ) → all_lapsed script reading (slept_by k client) c s ≡ lapses_of (timed_all reading before.acks) c s =
    λ c s. sym (lapses_timed script k.book.batches k.nodes reading before.acks is counts (due_few before.clock ms) c s) in
    sleeps script (serial_of before) client ms e
    ∙ (λ i. (true, at_clock reading (record (course_of (slept_in before client ms)) { lapses = λ c s. lapsed c s i })))

pub slept_counted : (script : Script) (before : Replay) (client ms : ℕ) → HasCounted script before → IsAckBook before.acks → HasCounted script (slept_in before client ms)
slept_counted script before client ms counts is =
    counted_timed script before.book.batches (courses_of before.nodes.items) (due before.clock ms) before.acks is counts (due_few before.clock ms)
