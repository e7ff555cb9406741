-- A countdown is decided once: after a timeout, or after the last answer, no answer and no timeout changes what a client
-- learns.
use Rattle.std.specs.Prelude.{◌≡◌, ◌≢◌, ◌+◌, ◌==◌, ℕ, Bool, true, false, List, nat_le, if◌then◌else◌, refl}
use Rattle.std.proofs.Common.{◌∙◌, ap, arith, inl, inr, sym}
use Rattle.std.proofs.lemmas.Bool.{false≢true}
use Rattle.ack_words.specs.declared.answers.AckExpiry.{AckExpiry}
use Rattle.ack_words.specs.declared.answers.AckPoll.{AckPoll}
use Rattle.ack_words.specs.Countdowns.{answered, Countdown, expiry_of, failed, IsDecided, poll_of}
use Rattle.ack_words.specs.Masks.{has_node, is_without_nodes}
use Rattle.ack_words.proofs.Masks.{has_node-without_nodes, without_node_absent}

-- ---- after a decision

timed_told : (countdown : Countdown) → countdown.timed ≡ true → poll_of countdown ≡ AckPoll.TimedOut
timed_told countdown timed = ap (λ (t : Bool). poll_of (record countdown { timed = t })) timed

pub poll-answered : (node : ℕ) (countdown : Countdown) → IsDecided countdown → poll_of (answered node countdown) ≡ poll_of countdown
poll-answered node countdown (inl timed) = timed_told (answered node countdown) timed ∙ sym (timed_told countdown timed)
poll-answered node countdown (inr none) =
    ap (λ (missing : List Bool). poll_of (record countdown { missing = missing })) (without_node_absent node countdown.missing (has_node-without_nodes countdown.missing node none))

pub poll-failed : (node : ℕ) (countdown : Countdown) → IsDecided countdown → poll_of (failed node countdown) ≡ poll_of countdown
poll-failed node countdown (inl timed) = timed_told (failed node countdown) timed ∙ sym (timed_told countdown timed)
poll-failed node countdown (inr none) =
    let absent : has_node node countdown.missing ≡ false = has_node-without_nodes countdown.missing node none in
    ap (λ (missing : List Bool). poll_of (record (failed node countdown) { missing = missing })) (without_node_absent node countdown.missing absent)
    ∙ ap (λ (counts : Bool). poll_of (record countdown { failures = if counts then countdown.failures + 1 else countdown.failures })) absent

abbrev wins : AckExpiry → Bool
wins AckExpiry.Won = true
wins AckExpiry.Finished = false
wins AckExpiry.TimedBefore = false
wins (AckExpiry.NotDue _) = false
wins AckExpiry.NotCommitted = false

timed_loses : (none : Bool) → (if none then AckExpiry.Finished else AckExpiry.TimedBefore) ≢ AckExpiry.Won
timed_loses true = λ e. false≢true (ap wins e)
timed_loses false = λ e. false≢true (ap wins e)

pub expiry-decided : (deadline reading : ℕ) (countdown : Countdown) → IsDecided countdown → expiry_of deadline reading countdown ≢ AckExpiry.Won
expiry-decided deadline reading countdown (inl timed) =
    λ e. timed_loses (is_without_nodes countdown.missing)
    (sym (ap (λ (t : Bool). expiry_of deadline reading (record countdown { timed = t })) timed) ∙ e)
expiry-decided deadline reading countdown (inr none) =
    λ e. timed_loses true
    (sym (ap (λ (b : Bool). if b then AckExpiry.Finished else if countdown.timed then AckExpiry.TimedBefore else if nat_le deadline reading then AckExpiry.Won else AckExpiry.NotDue deadline) none) ∙ e)

-- ---- what an answer to a client says

abbrev is_full : AckPoll → Bool
is_full AckPoll.All = true
is_full (AckPoll.Failed _) = false
is_full AckPoll.TimedOut = false
is_full AckPoll.NotYet = false

full_by : (timed none unfailed : Bool) (failures : ℕ) → (failures == 0) ≡ unfailed → (if timed then AckPoll.TimedOut else if none then (if unfailed then AckPoll.All else AckPoll.Failed failures) else AckPoll.NotYet) ≡ AckPoll.All
    → (timed ≡ false) × (none ≡ true) × (failures ≡ 0)
full_by true none unfailed failures same e = absurd (false≢true (ap is_full e))
full_by false false unfailed failures same e = absurd (false≢true (ap is_full e))
full_by false true true failures same e = (refl, refl, search (same, arith))
full_by false true false failures same e = absurd (false≢true (ap is_full e))

-- all answers came in time, and none was a failure
pub poll-full : (countdown : Countdown) → poll_of countdown ≡ AckPoll.All
    → (countdown.timed ≡ false) × (is_without_nodes countdown.missing ≡ true) × (countdown.failures ≡ 0)
poll-full countdown e = full_by countdown.timed (is_without_nodes countdown.missing) (countdown.failures == 0) countdown.failures refl e
