-- Where a script has been performed: its course is lawful so far and at rest, so that its session is lawful.
use Rattle.std.specs.Prelude.{◌≡◌, ℕ, zero, suc, ◌+◌, ◌<◌, ◌&&◌, Bool, true, false, not, List, [], ◌∷◌, get_or, length, map, nat_lt, replicate, Option, Some, None, Result, Ok, Err, IfOk, unwrap_or, refl}
use Rattle.std.specs.Option.{option_map}
use Rattle.std.proofs.Common.{sym, ◌∙◌, ap, subst, arith}
use Rattle.std.proofs.lemmas.Bool.Decides.{nat_tests}
use Rattle.std.proofs.lemmas.List.{length-map, length-replicate}
use Rattle.plain_data.specs.declared.memory.OutOfMemory.{OutOfMemory}
use Rattle.session_law.specs.declared.sessions.Session.{Session}
use Rattle.scripts.specs.declared.whole_script.Script.{Script}
use Rattle.scripts.specs.declared.whole_script.ScriptTurn.{ScriptTurn}
use Rattle.scripts.specs.declared.whole_script.ScriptTurn.TheVariants as turn
use Rattle.scripts.specs.declared.steps.Step.{Step}
use Rattle.scripts.specs.Built.{IsBuilt}
use Rattle.scripts.specs.Scripts.{IsScript}
use Rattle.session_law.specs.Endings.{task_timeout_of}
use Rattle.session_law.specs.Histories.{step_at}
use Rattle.session_law.proofs.Growth.{seen_none}
use Rattle.task_words.specs.declared.words.Word.{Word}
use Rattle.task_words.specs.declared.words.Word.TheVariants as word
use Rattle.task_words.specs.Words.{vacant_lane}
use Rattle.master_run.specs.Appliers.{AreNodesOf}
use Rattle.master_run.specs.Courses.{first_course, lanes_of, moment_at, next_at, word_of, zeros_of}
use Rattle.master_run.specs.declared.replays.Replay.{Replay}
use Rattle.master_intake.specs.Waitings.{priorities_of}
use Rattle.master_run.specs.Replays.{IsSound, serial_of}
use Rattle.master_run.specs.Rests.{IsAtRest}
use Rattle.master_run.specs.SerialSessions.{IsSerialSession}
use Rattle.master_run.specs.Serials.{Serial, first_serial, follow, if_acted, load, performed_all, play, replayed, rest, round_turns, scheduled, turn_of}
use Rattle.master_run.specs.Sessions.{session_of}
use Rattle.master_run.specs.SoFar.{HasSeenSoFar, IsLawfulSoFar, IsWordLawful, is_submit_at, is_vacant}
use Rattle.master_run.proofs.Closing.{rest_is_lawful}
use Rattle.master_run.proofs.Keeping.{kept_first, no_some}
use Rattle.master_run.proofs.Recording.{recorded_first}
use Rattle.master_run.proofs.Resting.{is_at_rest, play_on_time, round_less, round_still}
use Rattle.master_run.proofs.Turning.{IsOnTime, client_keeps, master_keeps, node_keeps, sound_now}

-- ---- at first

zero_at : (clients : List (List Step)) (client : ℕ) → next_at (map (λ (steps : List Step). 0) clients) client ≡ 0
zero_at [] client = refl
zero_at (steps ∷ more) zero = refl
zero_at (steps ∷ more) (suc client) = zero_at more client

none_in : (count step : ℕ) → get_or (replicate count word.Vacant) step word.Vacant ≡ word.Vacant
none_in zero step = refl
none_in (suc count) zero = refl
none_in (suc count) (suc step) = none_in count step

vacant_in : (lanes : List ℕ) (client step : ℕ) → get_or (get_or (map vacant_lane lanes) client []) step word.Vacant ≡ word.Vacant
vacant_in [] client step = refl
vacant_in (count ∷ lanes) zero step = none_in count step
vacant_in (count ∷ lanes) (suc client) step = vacant_in lanes client step

pub vacant_first : (script : Script) (client step : ℕ) → word_of (first_course script).tasks client step ≡ word.Vacant
vacant_first script client step = vacant_in (lanes_of script) client step

long_lanes : {A : Type 0} (x : A) (lanes : List ℕ) → map (λ (row : List A). length row) (map (λ (count : ℕ). replicate count x) lanes) ≡ lanes
long_lanes x [] = refl
long_lanes {A} x (count ∷ lanes) = λ i. length-replicate count x i ∷ long_lanes x lanes i

none_size : (count queue : ℕ) → ◌≡◌ {A = ℕ} (get_or (replicate count 0) queue 0) 0
none_size zero queue = refl
none_size (suc count) zero = refl
none_size (suc count) (suc queue) = none_size count queue

none_less : (n : ℕ) → nat_lt n 0 ≡ false
none_less n = grind (arith, nat_tests)

none_before : (n m : ℕ) → m ≡ 0 → n < m → ⊥
none_before n m none less = omega arith

none_passed : (position step : ℕ) (b : Bool) → position ≡ 0 → (nat_lt step position && b) ≡ false
none_passed position step b e = ap (λ (n : ℕ). nat_lt step n && b) e ∙ ap (λ (c : Bool). c && b) (none_less step)

pub first_lawful : (script : Script) → IsLawfulSoFar script (first_course script)
first_lawful script = record {
  performed = record {
    places = length-map script.clients (λ (steps : List Step). 0);
    lanes = long_lanes word.Vacant (lanes_of script);
    rows = long_lanes 0 (lanes_of script);
    cells = λ c s. ap (λ (w : Word). not (is_vacant w)) (vacant_first script c s) ∙ sym (none_passed (next_at (zeros_of script) c) s (is_submit_at (step_at script c s)) (zero_at script.clients c));
  };
  ordered = record { kept = kept_first script; passed = tt; waits = tt; apart = tt; among = tt };
  seen = record {
    places = length-map script.clients (λ (steps : List Step). 0);
    in_book = tt;
    waiting = λ c s. subst (HasSeenSoFar script [] c s) (sym (vacant_first script c s)) tt;
    clients = λ c. zero_at script.clients c ∙ sym (seen_none script c (next_at (zeros_of script) c));
  };
  passed = λ c n e s less f awaits. absurd (none_before n (next_at (zeros_of script) c) (zero_at script.clients c) less);
  ended = record {
    words = λ c s. subst (IsWordLawful script [] [] c s (moment_at (first_course script).ats c s) (task_timeout_of (step_at script c s))) (sym (vacant_first script c s)) tt;
    waits = tt;
  };
  told = record { queues = length-replicate (length script.queues) 0; sizes = λ q. none_size (length script.queues) q; stopped = refl };
  recorded = recorded_first script;
  lapsed = λ c s reading e. absurd (no_some reading e);
}

pub first_on_time : (script : Script) → IsOnTime script (first_serial script)
first_on_time script = record { lawful = first_lawful script; clock = omega arith }

pub first_sound : (script : Script) (replay : Replay) → serial_of replay ≡ first_serial script → replay.waiting.priorities ≡ priorities_of script.queues
    → AreNodesOf script replay.nodes.items → IsSound script replay
first_sound script replay e priorities nodes = sound_now script replay (first_serial script) e (first_on_time script) priorities nodes

-- ---- the schedule

turn_keeps : (script : Script) (turn : ScriptTurn) (s : Serial) (o : Option Serial) → turn_of script turn s ≡ o → IsScript script → IsOnTime script s → IsOnTime script (unwrap_or o s)
turn_keeps script turn s None e valid h = h
turn_keeps script (turn.Client client) s (Some t) e valid h = client_keeps script client s t valid h e
turn_keeps script turn.Master s (Some t) e valid h = master_keeps script s t valid h e
turn_keeps script (turn.Node name) s (Some t) e valid h = node_keeps script name s t valid h e

follow_keeps : (script : Script) (turns : List ScriptTurn) (s : Serial) → IsScript script → IsOnTime script s → IsOnTime script (follow script turns s)
follow_keeps script [] s valid h = h
follow_keeps script (first ∷ more) s valid h = follow_keeps script more (unwrap_or (turn_of script first s) s) valid (turn_keeps script first s (turn_of script first s) refl valid h)

-- ---- the rounds

record IsFinished (script : Script) (s : Serial) : Type 0 where
  time : IsOnTime script s
  rests : IsAtRest script s.course

round_on_time : (script : Script) (s : Serial) (after : Bool × Serial) → play script (round_turns script) (false, s) ≡ after → IsScript script → IsOnTime script s → IsOnTime script after.1
round_on_time script s after e valid h = subst (λ (p : Bool × Serial). IsOnTime script p.1) e (play_on_time script (round_turns script) (false, s) valid h)

finish_by : (script : Script) (more : ℕ) (s t : Serial) (b : Bool) → play script (round_turns script) (false, s) ≡ (b, t) → IsScript script → IsBuilt script → IsOnTime script s → load script s.course < suc more
    → ((u : Serial) → IsOnTime script u → load script u.course < more → IsFinished script (rest script more u)) → IsFinished script (unwrap_or (option_map (rest script more) (if_acted (b, t))) s)
finish_by script more s t true e valid built h enough go =
    go t (round_on_time script s (true, t) e valid h) (let less = round_less script s t valid h e in omega arith)
finish_by script more s t false e valid built h enough go = record {
  time = h;
  rests = subst (λ (u : Serial). IsAtRest script u.course) (round_still script s t valid h e) (is_at_rest script s t valid built h e);
}

finishes : (script : Script) (rounds : ℕ) (s : Serial) → IsScript script → IsBuilt script → IsOnTime script s → load script s.course < rounds → IsFinished script (rest script rounds s)
unfolding rest
finishes script zero s valid built h enough = absurd (omega arith)
finishes script (suc more) s valid built h enough =
    let after = play script (round_turns script) (false, s) in
    finish_by script more s after.1 after.0 refl valid built h enough (λ u k less. finishes script more u valid built k less)

finished : (script : Script) → IsScript script → IsBuilt script → IsFinished script (performed_all script)
finished script valid built =
    let s = scheduled script in
    finishes script (load script s.course + 1) s valid built (follow_keeps script script.schedule (first_serial script) valid (first_on_time script)) (omega arith)

pub comes_to_rest : (script : Script) → IsScript script → IsBuilt script → IsAtRest script (performed_all script).course
comes_to_rest script valid built = (finished script valid built).rests

pub is_serial : (script : Script) → IsScript script → IsBuilt script → IsSerialSession script (replayed script)
unfolding replayed
is_serial script valid built = let f = finished script valid built in rest_is_lawful script (performed_all script).course valid built f.time.lawful f.rests

pub replayed_from : (script : Script) (s : Serial) → s ≡ performed_all script → session_of script s.course ≡ replayed script
unfolding replayed
replayed_from script s e = ap (λ (t : Serial). session_of script t.course) e

pub replayed_if : (result : Result Session OutOfMemory) (script : Script) (first before now : Serial) → first ≡ first_serial script → before ≡ follow script script.schedule first
    → now ≡ rest script (load script before.course + 1) before → IfOk result (λ made. made ≡ session_of script now.course) → IfOk result (λ made. made ≡ replayed script)
replayed_if (Ok made) script first before now e f g h =
    let start : before ≡ scheduled script = f ∙ ap (follow script script.schedule) e in
    h ∙ replayed_from script now (g ∙ ap (λ (s : Serial). rest script (load script s.course + 1) s) start)
replayed_if (Err fault) script first before now e f g h = tt
