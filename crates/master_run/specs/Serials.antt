-- The serial rule: a counter for a clock, turns that name events, a schedule and rounds of turns. It leaves nothing open,
-- so that a script has one session. The rule is this project's own.
use Rattle.std.specs.Prelude.{ℕ, zero, suc, ◌+◌, ◌*◌, Bool, true, false, List, [], ◌∷◌, ◌++◌, fold, length, map, bytes_eq, Option, Some, None, option_and_then, unwrap_or}
use Rattle.std.specs.List.{position}
use Rattle.std.specs.Option.{option_map}
use Rattle.scripts.specs.declared.whole_script.Script.{Script}
use Rattle.scripts.specs.declared.whole_script.ScriptNode.{ScriptNode}
use Rattle.scripts.specs.declared.whole_script.ScriptTurn.{ScriptTurn}
use Rattle.scripts.specs.declared.whole_script.ScriptTurn.TheVariants as turn
use Rattle.scripts.specs.declared.steps.Step.{Step}
use Rattle.scripts.specs.declared.steps.Step.TheVariants.{Sleep}
use Rattle.session_law.specs.declared.sessions.Session.{Session}
use Rattle.session_law.specs.DueTimes.{due}
use Rattle.master_intake.specs.Waitings.{next_queue, priorities_of}
use Rattle.master_run.specs.Courses.{Course, first_course}
use Rattle.master_run.specs.Events.{Event, all_expired, all_lapsed, event}
use Rattle.master_run.specs.Nodes.{left_in}
use Rattle.master_run.specs.Sessions.{session_of}
use Rattle.master_run.specs.Steps.{next_step_of}
use Rattle.master_run.specs.StepsLeft.{always, steps_left}

-- a course, and the moment of the clock
pub record Serial : Type 0 where
  pub course : Course
  pub clock : ℕ

-- ---- time

-- each task that waits times out at a reading whose deadline is there, and then each open acknowledgement
abbrev pub timed_at : Script → ℕ → Course → Course
timed_at script reading k = record k {
  tasks = all_expired reading k.waiting k.tasks;
  lapses = all_lapsed script reading k;
}

-- the clock has moved
abbrev pub moved : Script → Serial → Serial
moved script s = record s { course = timed_at script s.clock s.course }

-- a sleep adds its milliseconds to the clock, which stops at its last moment; no other step moves it
abbrev pub after_step : Script → Option Step → Serial → Serial
after_step script (Some (Sleep ms)) s = moved script (record s { clock = due s.clock ms })
after_step script _ s = s

-- ---- turns

abbrev pub at_clock : ℕ → Course → Serial
at_clock clock k = record { course = k; clock = clock }

-- a client performs its next step at the moment of the clock
abbrev pub client_turn : Script → ℕ → Serial → Option Serial
client_turn script client s =
    option_map (λ k. after_step script (next_step_of script s.course client) (at_clock s.clock k)) (event script (Event.Perform client s.clock) s.course)

-- the master serves the most urgent queue in which something waits, and of equally urgent ones the one that waits longest
abbrev pub master_turn : Script → Serial → Option Serial
master_turn script s =
    option_and_then (λ queue. option_map (at_clock s.clock) (event script (Event.Serve queue s.clock s.clock) s.course))
    (next_queue (priorities_of script.queues) s.course.waiting)

-- the number of the node of a name, if there is one
abbrev pub node_number : Script → List ℕ → Option ℕ
node_number script name = position (λ n. bytes_eq name n.name) script.nodes

-- a node by its number, or by its name, applies the first commit that it has left
abbrev pub turn_at : Script → ℕ → Serial → Option Serial
turn_at script number s = option_map (at_clock s.clock) (event script (Event.Apply number) s.course)

abbrev pub node_turn : Script → List ℕ → Serial → Option Serial
node_turn script name s = option_and_then (λ number. turn_at script number s) (node_number script name)

-- what a turn makes of it; none where it can't act
abbrev pub turn_of : Script → ScriptTurn → Serial → Option Serial
turn_of script (turn.Client client) s = client_turn script client s
turn_of script turn.Master s = master_turn script s
turn_of script (turn.Node name) s = node_turn script name s

-- ---- lists of turns

abbrev pub after_turn : Bool × Serial → Option Serial → Bool × Serial
after_turn before None = before
after_turn before (Some s) = (true, s)

abbrev pub turned : Script → Bool × Serial → ScriptTurn → Bool × Serial
turned script before turn = after_turn before (turn_of script turn before.1)

-- turns in their order
abbrev pub follow : Script → List ScriptTurn → Serial → Serial
follow script turns s = fold (λ s turn. unwrap_or (turn_of script turn s) s) s turns

-- turns in their order, and whether one has acted
abbrev pub play : Script → List ScriptTurn → Bool × Serial → Bool × Serial
play script turns before = fold (turned script) before turns

abbrev pub client_turns : ℕ → List (List Step) → List ScriptTurn
client_turns client [] = []
client_turns client (steps ∷ more) = turn.Client client ∷ client_turns (client + 1) more

abbrev pub node_turns : List ScriptNode → List ScriptTurn
node_turns nodes = map (λ n. turn.Node n.name) nodes

-- a round: a turn for each client in order, one for the master, one for each node in the script's order
abbrev pub round_turns : Script → List ScriptTurn
round_turns script = client_turns 0 script.clients ++ (turn.Master ∷ node_turns script.nodes)

-- ---- to the end

abbrev pub if_acted : Bool × Serial → Option Serial
if_acted (true, s) = Some s
if_acted (false, s) = None

-- a round that acts; none where no turn of it does
abbrev pub go_on : Script → Serial → Option Serial
go_on script s = if_acted (play script (round_turns script) (false, s))

-- rounds until one in which no turn acts, but at most so many
unfoldable pub rest : Script → ℕ → Serial → Serial
rest script zero s = s
rest script (suc more) s = unwrap_or (option_map (rest script more) (go_on script s)) s

-- what remains to be done. An entry that waits may hand a commit to each node, and counts for more than these; a step may
-- leave an entry that waits, and counts for more than that. Every turn that acts makes it less, so with one round more
-- than that no round is wanting.
abbrev pub load : Script → Course → ℕ
load script k =
    (length script.nodes + 2) * steps_left always script.clients k.positions + (length script.nodes + 1) * length k.waiting + left_in k.nodes

abbrev pub first_serial : Script → Serial
first_serial script = at_clock 0 (first_course script)

-- the schedule is followed first
abbrev pub scheduled : Script → Serial
scheduled script = follow script script.schedule (first_serial script)

-- where a script has been performed
abbrev pub performed_all : Script → Serial
performed_all script = rest script (load script (scheduled script).course + 1) (scheduled script)

-- the one session that the serial rule makes of a script
unfoldable pub replayed : Script → Session
replayed script = session_of script (performed_all script).course
