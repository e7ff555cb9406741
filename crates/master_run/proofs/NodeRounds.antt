-- A node's turn by its number: a replay stays sound, and its links stay those of its nodes, with nothing left to pass on.
-- And a round's turns of its nodes and of its clients, one after the other.
use Rattle.std.specs.Prelude.{◌≡◌, ℕ, zero, suc, ◌+◌, ◌<◌, ◌≤◌, Bool, true, false, List, [], ◌∷◌, drop, length, map, set, Option, Some, None, slice_get, slice_set, refl, Result, Ok, Err, IfOk, OnOk, if◌then◌else◌}
use Rattle.std.specs.List.{AllZip}
use Rattle.std.proofs.Common.{Global, Vec, sym, ◌∙◌, ap, subst, arith}
use Rattle.std.proofs.Math.Bool.{true≢false}
use Rattle.std.proofs.lemmas.Option.{slice_get_past}
use Rattle.node_apply.specs.Applying.{Node, after_next, fails_next, last_of_node, last_waiting, next_of}
use Rattle.node_apply.specs.NodeLinks.{NodeLinkView}
use Rattle.plain_data.specs.declared.memory.OutOfMemory.{OutOfMemory}
use Rattle.publication.specs.LinkMeanings.{LinkMeaning}
use Rattle.scripts.specs.declared.steps.Step.{Step}
use Rattle.scripts.specs.declared.whole_script.Script.{Script}
use Rattle.scripts.specs.declared.whole_script.ScriptNode.{ScriptNode}
use Rattle.scripts.specs.Scripts.{IsScript}
use Rattle.session_law.specs.NodeRecords.{Commit}
use Rattle.master_run.specs.declared.replays.Replay.{Replay}
use Rattle.master_run.specs.Appliers.{applied_at, applied_first, applied_in, courses_of, origin_of}
use Rattle.master_run.specs.Events.{Event, event}
use Rattle.master_run.specs.Linked.{IsLinked}
use Rattle.master_run.specs.Passing.{ArePassed, IsPassed, meanings_of}
use Rattle.master_run.specs.Replays.{AreEnds, IsSound, course_of, serial_of}
use Rattle.master_run.specs.Serials.{Serial, after_turn, at_clock, client_turn, client_turns, node_turns, play, turn_at}
use Rattle.master_run.proofs.Distinct.{node_turn_at}
use Rattle.master_run.proofs.Keeping.{no_some, some_same}
use Rattle.master_run.proofs.Linking.{linked_by_apply}
use Rattle.master_run.proofs.NodeTurns.{origins_stay, turns_at}
use Rattle.master_run.proofs.Resting.{either_acts}
use Rattle.master_run.proofs.Turning.{IsOnTime, after_cases, event_keeps, mapped, on_time, sound_now}

-- ---- what stays

-- a node that applies the first of what it has left keeps its name, and the last state that it was passed
name_so : (a : Node) (left : List Commit) (fails : Bool) → (next_of fails a left).1.name ≡ a.name
name_so a [] fails = refl
name_so a (commit ∷ rest) true = refl
name_so a (commit ∷ rest) false = refl

last_so : (a : Node) (left : List Commit) (fails : Bool) → a.waiting ≡ left → last_of_node (next_of fails a left).1 ≡ last_waiting a.head left
last_so a [] fails e = ap (last_waiting a.head) e
last_so a (commit ∷ rest) true e = refl
last_so a (commit ∷ rest) false e = refl

passed_one : (a : Node) (link : NodeLinkView) → IsPassed link a → IsPassed link (after_next a).1
passed_one a link h = record {
  can = record {
    name = h.can.name ∙ sym (name_so a a.waiting (fails_next a));
    base = λ base e. h.can.base base e ∙ sym (last_so a a.waiting (fails_next a) refl);
  };
  handed = h.handed;
  numbers = h.numbers;
}

zip_step : {A B : Type 0} (R : A → B → Type 0) (xs : List A) (ys : List B) (n : ℕ) (y z : B) → AllZip R xs ys → slice_get ys n ≡ Some y → ((x : A) → R x y → R x z) → AllZip R xs (set ys n z)
zip_step R [] [] n y z all e f = absurd (no_some y e)
zip_step R [] (b ∷ ys) n y z all e f = absurd all
zip_step R (a ∷ xs) [] n y z all e f = absurd all
zip_step R (a ∷ xs) (b ∷ ys) zero y z all e f = (f a (subst (R a) (some_same b y e) all.0), all.1)
zip_step R (a ∷ xs) (b ∷ ys) (suc n) y z all e f = (all.0, zip_step R xs ys n y z all.1 e f)

passed_in : (links : List NodeLinkView) (number : ℕ) (nodes : List Node) (found : Option Node) → slice_get nodes number ≡ found → ArePassed links nodes → ArePassed links (applied_in number nodes found).1
passed_in links number nodes None at h = h
passed_in links number nodes (Some a) at h = zip_step IsPassed links nodes number a (after_next a).1 h at (passed_one a)

pub passed_at : (links : List NodeLinkView) (number : ℕ) (nodes : List Node) → ArePassed links nodes → ArePassed links (applied_at number nodes).1
passed_at links number nodes h = passed_in links number nodes (slice_get nodes number) refl h

-- ---- the appliers

pub none_applied : (number : ℕ) (nodes : List Node) → length nodes ≤ number → ◌≡◌ {A = Bool × List Node} (false, nodes) (applied_at number nodes)
none_applied number nodes over = ap (applied_in number nodes) (sym (slice_get_past nodes number over))

pub one_applied : (result : Result Bool OutOfMemory) (number : ℕ) (nodes : List Node) (a now : Node) → slice_get nodes number ≡ Some a → IfOk result (λ acted. (acted, now) ≡ applied_first a)
    → IfOk result (λ acted. (acted, slice_set nodes number now) ≡ applied_at number nodes)
one_applied (Ok acted) number nodes a now at e =
    ap (λ (made : Bool × Node). let all : Bool × List Node = (made.0, slice_set nodes number made.1) in all) e ∙ ap (applied_in number nodes) (sym at)
one_applied (Err fault) number nodes a now at e = tt

-- ---- a turn by its number

on_time_by : (script : Script) (number : ℕ) (s t : Serial) → IsScript script → IsOnTime script s → turn_at script number s ≡ Some t → IsOnTime script t
on_time_by script number s t valid h e =
    let m = mapped (at_clock s.clock) (event script (Event.Apply number) s.course) t e in
    subst (IsOnTime script) m.is (record { lawful = event_keeps script s.course m.from (Event.Apply number) valid h.lawful tt m.found; clock = h.clock })

linked_by : (script : Script) (number : ℕ) (links : List LinkMeaning) (s t : Serial) → IsLinked script s.course links → turn_at script number s ≡ Some t → IsLinked script t.course links
linked_by script number links s t h e =
    let m = mapped (at_clock s.clock) (event script (Event.Apply number) s.course) t e in
    subst (λ (u : Serial). IsLinked script u.course links) m.is (linked_by_apply script s.course m.from number links m.found h)

-- the appliers were taken by themselves, and put back
applied_is : (number : ℕ) (before : Replay) (nodes : Vec Node Global) (had made : List Node) (acted : Bool) → had ≡ before.nodes.items → nodes.items ≡ made → (acted, made) ≡ applied_at number had
    → (acted, nodes.items) ≡ applied_at number before.nodes.items
applied_is number before nodes had made acted e f g = (λ i. let all : Bool × List Node = (acted, f i) in all) ∙ g ∙ ap (applied_at number) e

turn_at_is : (script : Script) (number : ℕ) (before : Replay) (nodes : Vec Node Global) (acted : Bool) → IsSound script before → script.faults ≡ []
    → (acted, nodes.items) ≡ applied_at number before.nodes.items
    → after_turn (false, serial_of before) (turn_at script number (serial_of before)) ≡ (acted, serial_of (record before { nodes = nodes }))
turn_at_is script number before nodes acted sound none e =
    turns_at script (course_of before) before.clock number before.nodes.items sound.nodes none
    ∙ (λ i. let made : Bool × List Node = sym e i in (made.0, at_clock before.clock (record (course_of before) { nodes = courses_of made.1 })))

sound_at : (script : Script) (number : ℕ) (before : Replay) (nodes : Vec Node Global) (acted : Bool) → IsScript script → IsSound script before → script.faults ≡ []
    → (acted, nodes.items) ≡ applied_at number before.nodes.items → IsSound script (record before { nodes = nodes })
sound_at script number before nodes acted valid sound none e =
    let now : Replay = record before { nodes = nodes } in
    sound_now script now (serial_of now) refl
    (after_cases (IsOnTime script) (serial_of before) (serial_of now) (turn_at script number (serial_of before)) acted (on_time script before sound)
    (λ u f. on_time_by script number (serial_of before) u valid (on_time script before sound) f) (turn_at_is script number before nodes acted sound none e))
    sound.priorities (ap (λ (made : Bool × List Node). map origin_of made.1) e ∙ origins_stay number before.nodes.items ∙ sound.nodes)

ends_at : (script : Script) (number : ℕ) (before : Replay) (nodes : Vec Node Global) (acted : Bool) (links : List NodeLinkView) → IsSound script before → script.faults ≡ []
    → (acted, nodes.items) ≡ applied_at number before.nodes.items → AreEnds script before links → AreEnds script (record before { nodes = nodes }) links
ends_at script number before nodes acted links sound none e ends = record {
  linked =
      after_cases (λ (u : Serial). IsLinked script u.course (meanings_of links)) (serial_of before) (serial_of (record before { nodes = nodes })) (turn_at script number (serial_of before)) acted ends.linked
      (λ u f. linked_by script number (meanings_of links) (serial_of before) u ends.linked f) (turn_at_is script number before nodes acted sound none e);
  passed = subst (λ (made : Bool × List Node). ArePassed links made.1) (sym e) (passed_at links number before.nodes.items ends.passed);
}

pub turn_at_if : (result : Result Bool OutOfMemory) (script : Script) (number : ℕ) (before : Replay) (nodes : Vec Node Global) (had made : List Node) → IsSound script before → script.faults ≡ []
    → had ≡ before.nodes.items → nodes.items ≡ made → IfOk result (λ acted. (acted, made) ≡ applied_at number had)
    → IfOk result (λ acted. after_turn (false, serial_of before) (turn_at script number (serial_of before)) ≡ (acted, serial_of (record before { nodes = nodes })))
turn_at_if (Ok acted) script number before nodes had made sound none e f g = turn_at_is script number before nodes acted sound none (applied_is number before nodes had made acted e f g)
turn_at_if (Err fault) script number before nodes had made sound none e f g = tt

pub turn_at_sound_if : (result : Result Bool OutOfMemory) (script : Script) (number : ℕ) (before : Replay) (nodes : Vec Node Global) (had made : List Node) → IsScript script → IsSound script before
    → script.faults ≡ [] → had ≡ before.nodes.items → nodes.items ≡ made → IfOk result (λ acted. (acted, made) ≡ applied_at number had)
    → OnOk result (IsSound script (record before { nodes = nodes }))
turn_at_sound_if (Ok acted) script number before nodes had made valid sound none e f g =
    sound_at script number before nodes acted valid sound none (applied_is number before nodes had made acted e f g)
turn_at_sound_if (Err fault) script number before nodes had made valid sound none e f g = tt

pub turn_at_ends_if : (result : Result Bool OutOfMemory) (script : Script) (number : ℕ) (before : Replay) (nodes : Vec Node Global) (had made : List Node) → IsSound script before → script.faults ≡ []
    → had ≡ before.nodes.items → nodes.items ≡ made → IfOk result (λ acted. (acted, made) ≡ applied_at number had)
    → OnOk result ((links : List NodeLinkView) → AreEnds script before links → AreEnds script (record before { nodes = nodes }) links)
turn_at_ends_if (Ok acted) script number before nodes had made sound none e f g = λ links ends. ends_at script number before nodes acted links sound none (applied_is number before nodes had made acted e f g) ends
turn_at_ends_if (Err fault) script number before nodes had made sound none e f g = tt

-- ---- all nodes' turns

drop_at : {A : Type 0} (xs : List A) (n : ℕ) → n < length xs → (x : A) × ((slice_get xs n ≡ Some x) × (drop n xs ≡ x ∷ drop (suc n) xs))
drop_at [] n less = absurd (omega arith)
drop_at (x ∷ xs) zero less = (x, (refl, refl))
drop_at (x ∷ xs) (suc n) less = drop_at xs n (omega arith)

one_more : (n : ℕ) → suc n ≡ n + 1
one_more n = omega arith

-- from a node on, after its turn
nodes_go_on : (script : Script) (number : ℕ) (acted b : Bool) (s t : Serial) (all : Bool × Serial) → IsScript script → number < length script.nodes
    → play script (node_turns (drop number script.nodes)) (acted, s) ≡ all → after_turn (false, s) (turn_at script number s) ≡ (b, t)
    → play script (node_turns (drop (number + 1) script.nodes)) ((if b then true else acted), t) ≡ all
nodes_go_on script number acted b s t all valid there leads e =
    let d = drop_at script.nodes number there in
    let rest = node_turns (drop (suc number) script.nodes) in
    ap (λ (n : ℕ). play script (node_turns (drop n script.nodes)) ((if b then true else acted), t)) (sym (one_more number))
    ∙ sym (ap (play script rest) (ap (after_turn (acted, s)) (node_turn_at script number d.0 s valid d.1.0) ∙ either_acts acted b s t (turn_at script number s) e))
    ∙ ap (λ (nodes : List ScriptNode). play script (node_turns nodes) (acted, s)) (sym d.1.1) ∙ leads

pub acted_now : (acted b now : Bool) → b ≡ true → now ≡ true → now ≡ (if b then true else acted)
acted_now acted true now e f = f
acted_now acted false now e f = absurd (true≢false (sym e))

pub acted_before : (acted b now : Bool) → b ≡ false → now ≡ acted → now ≡ (if b then true else acted)
acted_before acted true now e f = absurd (true≢false e)
acted_before acted false now e f = f

pub nodes_led : (script : Script) (number : ℕ) (acted b now : Bool) (s t : Serial) (all : Bool × Serial) → IsScript script → number < length script.nodes
    → play script (node_turns (drop number script.nodes)) (acted, s) ≡ all → after_turn (false, s) (turn_at script number s) ≡ (b, t) → now ≡ (if b then true else acted)
    → play script (node_turns (drop (number + 1) script.nodes)) (now, t) ≡ all
nodes_led script number acted b now s t all valid there leads e f =
    ap (λ (c : Bool). play script (node_turns (drop (number + 1) script.nodes)) (c, t)) f ∙ nodes_go_on script number acted b s t all valid there leads e

-- ---- a round's turns of its clients

-- from a client on, after its turn
clients_go_on : (script : Script) (client : ℕ) (acted b : Bool) (s t : Serial) (all : Bool × Serial) → client < length script.clients
    → play script (client_turns client (drop client script.clients)) (acted, s) ≡ all → after_turn (false, s) (client_turn script client s) ≡ (b, t)
    → play script (client_turns (client + 1) (drop (client + 1) script.clients)) ((if b then true else acted), t) ≡ all
clients_go_on script client acted b s t all there leads e =
    let d = drop_at script.clients client there in
    let rest = client_turns (client + 1) (drop (suc client) script.clients) in
    ap (λ (n : ℕ). play script (client_turns (client + 1) (drop n script.clients)) ((if b then true else acted), t)) (sym (one_more client))
    ∙ sym (ap (play script rest) (either_acts acted b s t (client_turn script client s) e))
    ∙ ap (λ (clients : List (List Step)). play script (client_turns client clients) (acted, s)) (sym d.1.1) ∙ leads

pub clients_led : (script : Script) (place client : ℕ) (acted b now : Bool) (s t : Serial) (all : Bool × Serial) → client ≡ place → place < length script.clients
    → play script (client_turns client (drop place script.clients)) (acted, s) ≡ all → after_turn (false, s) (client_turn script client s) ≡ (b, t) → now ≡ (if b then true else acted)
    → play script (client_turns (client + 1) (drop (place + 1) script.clients)) (now, t) ≡ all
clients_led script place client acted b now s t all same there leads e f =
    subst (λ (n : ℕ). play script (client_turns (client + 1) (drop (n + 1) script.clients)) (now, t) ≡ all) same
    (ap (λ (c : Bool). play script (client_turns (client + 1) (drop (client + 1) script.clients)) (c, t)) f
    ∙ clients_go_on script client acted b s t all (subst (λ (n : ℕ). n < length script.clients) (sym same) there)
    (subst (λ (n : ℕ). play script (client_turns client (drop n script.clients)) (acted, s) ≡ all) (sym same) leads) e)
