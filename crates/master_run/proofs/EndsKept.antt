-- The links of a replay stay those of its nodes, with nothing left to pass on: at first, and through a client's turn.
use Rattle.std.specs.Prelude.{◌≡◌, ◌≤◌, ℕ, Bool, true, false, List, [], ◌∷◌, drop, length, map, slice_get, refl, Result, Ok, Err, IfOk, OnOk, if◌then◌else◌}
use Rattle.std.proofs.Common.{Global, Vec, sym, ◌∙◌, ap, subst}
use Rattle.meta_state.specs.declared.cluster_state.ClusterState.{ClusterState}
use Rattle.meta_state.specs.States.{zero_state}
use Rattle.node_apply.specs.Applying.{Node}
use Rattle.node_apply.specs.NodeLinks.{NodeLinkView}
use Rattle.plain_data.specs.declared.memory.OutOfMemory.{OutOfMemory}
use Rattle.scripts.specs.Built.{IsBuilt}
use Rattle.scripts.specs.declared.whole_script.Script.{Script}
use Rattle.scripts.specs.declared.whole_script.ScriptNode.{ScriptNode}
use Rattle.session_law.specs.declared.worlds.World.{World}
use Rattle.session_law.specs.Worlds.{first_node, first_state_of, first_world}
use Rattle.master_intake.specs.Waitings.{priorities_of}
use Rattle.master_run.specs.declared.replays.Replay.{Replay}
use Rattle.master_run.specs.Appliers.{AreNodesOf, Origin, appliers_for, courses_of, origin_for, origin_of}
use Rattle.master_run.specs.Courses.{first_course}
use Rattle.master_run.specs.NodeEnds.{links_for, room_for}
use Rattle.master_run.specs.Passing.{ArePassed, meanings_of}
use Rattle.master_run.specs.Replays.{AreEnds, IsSound, course_of, serial_of}
use Rattle.master_run.specs.Serials.{Serial, after_turn, at_clock, client_turn, client_turns, first_serial, master_turn, node_turns, play, round_turns}
use Rattle.master_run.specs.SoFar.{IsLawfulSoFar}
use Rattle.master_run.proofs.Finishing.{first_sound}
use Rattle.master_run.proofs.Keeping.{no_some, some_same}
use Rattle.master_run.proofs.Linking.{begins_linked, linked_by_client, meanings_are}
use Rattle.master_run.proofs.NodeTurns.{nodes_first, nodes_fresh}
use Rattle.master_run.proofs.Resting.{round_acted, round_still_so}

-- ---- at first

-- a replay's world, before its nodes are opened
abbrev Unopened : Script → Replay → Type 0
Unopened script replay = serial_of replay ≡ at_clock 0 (record (first_course script) { nodes = [] })

first_has : (script : Script) (replay : Replay) (world : World) → Unopened script replay → world ≡ replay.book.world → world ≡ first_world script
first_has script replay world e f = f ∙ ap (λ (s : Serial). s.course.book.world) e

-- with the nodes of its script it is the first one
pub opened_first : (script : Script) (replay : Replay) (world : World) (nodes : Vec Node Global) → serial_of replay ≡ at_clock 0 (record (first_course script) { nodes = [] })
    → world ≡ replay.book.world → nodes.items ≡ appliers_for script.nodes world.nodes → serial_of (record replay { nodes = nodes }) ≡ first_serial script
opened_first script replay world nodes e f g =
    let fresh = ap courses_of (g ∙ ap (λ (w : World). appliers_for script.nodes w.nodes) (first_has script replay world e f)) ∙ nodes_fresh script in
    λ i. at_clock (e i).clock (record (e i).course { nodes = fresh i })

pub opened_sound : (script : Script) (replay : Replay) (world : World) (nodes : Vec Node Global) → serial_of replay ≡ at_clock 0 (record (first_course script) { nodes = [] })
    → replay.waiting.priorities ≡ priorities_of script.queues → world ≡ replay.book.world → nodes.items ≡ appliers_for script.nodes world.nodes
    → IsSound script (record replay { nodes = nodes })
opened_sound script replay world nodes e priorities f g =
    first_sound script (record replay { nodes = nodes }) (opened_first script replay world nodes e f g) priorities
    (subst (AreNodesOf script) (sym (g ∙ ap (λ (w : World). appliers_for script.nodes w.nodes) (first_has script replay world e f))) (nodes_first script))

pub opened_links : (script : Script) (replay : Replay) (world : World) (links : List NodeLinkView) → serial_of replay ≡ at_clock 0 (record (first_course script) { nodes = [] })
    → world ≡ replay.book.world → links ≡ links_for (room_for script) script.nodes world.nodes → links ≡ links_for (room_for script) script.nodes (first_world script).nodes
opened_links script replay world links e f g = g ∙ ap (λ (w : World). links_for (room_for script) script.nodes w.nodes) (first_has script replay world e f)

passed_first : (room : ℕ) (script : Script) (first none : ClusterState) (nodes : List ScriptNode) (have : List Node) → map origin_of have ≡ map (origin_for script) nodes
    → ArePassed (links_for room nodes (map (first_node first none) nodes)) have
passed_first room script first none [] [] e = tt
passed_first room script first none [] (a ∷ have) e = absurd (no_some (origin_of a) (ap (λ (l : List Origin). slice_get l 0) (sym e)))
passed_first room script first none (node ∷ nodes) [] e = absurd (no_some (origin_for script node) (ap (λ (l : List Origin). slice_get l 0) e))
passed_first room script first none (node ∷ nodes) (a ∷ have) e =
    let same = some_same (origin_of a) (origin_for script node) (ap (λ (l : List Origin). slice_get l 0) e) in (
      record { can = record { name = sym (ap (λ (o : Origin). o.name) same); base = λ base f. absurd (no_some base f) }; handed = refl; numbers = refl },
      passed_first room script first none nodes have (ap (λ (l : List Origin). drop 1 l) e),
    )

first_passed : (script : Script) (links : List NodeLinkView) (have : List Node) → map origin_of have ≡ map (origin_for script) script.nodes
    → links ≡ links_for (room_for script) script.nodes (first_world script).nodes → ArePassed links have
unfolding first_world
first_passed script links have e is =
    subst (λ (l : List NodeLinkView). ArePassed l have) (sym is) (passed_first (room_for script) script (first_state_of script) (zero_state script.cluster) script.nodes have e)

pub begins_with_ends : (script : Script) (replay : Replay) (links : List NodeLinkView) → IsBuilt script → serial_of replay ≡ first_serial script → IsSound script replay
    → links ≡ links_for (room_for script) script.nodes (first_world script).nodes → AreEnds script replay links
begins_with_ends script replay links built first sound is = record {
  linked =
      begins_linked script (serial_of replay) (first_world script) (meanings_of links) built first (sym (ap (λ (s : Serial). s.course.book.world) first))
      (ap meanings_of is ∙ meanings_are (room_for script) script.nodes (first_world script).nodes);
  passed = first_passed script links replay.nodes.items sound.nodes is;
}

-- ---- a client's turn

pub client_ends_if : (result : Result Bool OutOfMemory) (script : Script) (client : ℕ) (before now : Replay) → IsLawfulSoFar script (course_of before)
    → IfOk result (λ acted. after_turn (false, serial_of before) (client_turn script client (serial_of before)) ≡ (acted, serial_of now)) → OnOk result (now.nodes ≡ before.nodes)
    → OnOk result ((links : List NodeLinkView) → AreEnds script before links → AreEnds script now links)
client_ends_if (Ok acted) script client before now h e stay = λ links ends. record {
  linked = linked_by_client script client (serial_of before) (serial_of now) acted h e (meanings_of links) ends.linked;
  passed = subst (λ (v : Vec Node Global). ArePassed links v.items) (sym stay) ends.passed;
}
client_ends_if (Err fault) script client before now h e stay = tt

-- ---- a round

-- with the turns of the nodes behind those of the clients and the master
pub round_if : (result : Result Bool OutOfMemory) (script : Script) (before : Bool) (first s t : Serial)
    → play script (node_turns script.nodes) (before, s) ≡ play script (round_turns script) (false, first)
    → IfOk result (λ acted. play script (node_turns script.nodes) (before, s) ≡ (acted, t)) → IfOk result (λ acted. play script (round_turns script) (false, first) ≡ (acted, t))
round_if (Ok acted) script before first s t leads e = sym leads ∙ e
round_if (Err fault) script before first s t leads e = tt

-- where the clients' turns are over and the master's turn was taken, the nodes' turns are the rest of the round
pub round_led_to : (script : Script) (first s t : Serial) (place client : ℕ) (acted b now : Bool) → length script.clients ≤ place
    → play script (client_turns client (drop place script.clients)) (acted, s) ≡ play script (client_turns 0 script.clients) (false, first) → after_turn (false, s) (master_turn script s) ≡ (b, t)
    → now ≡ (if b then true else acted) → play script (node_turns script.nodes) (now, t) ≡ play script (round_turns script) (false, first)
round_led_to script first s t place client acted true now over leads e f =
    ap (λ (c : Bool). play script (node_turns script.nodes) (c, t)) f ∙ round_acted script first s t place client acted true over leads e refl
round_led_to script first s t place client acted false now over leads e f =
    ap (λ (c : Bool). play script (node_turns script.nodes) (c, t)) f ∙ round_still_so script first s t place client acted false over leads e refl
