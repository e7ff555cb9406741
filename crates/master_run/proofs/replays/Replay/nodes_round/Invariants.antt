use Rattle.std.proofs.Common.{◌≡◌, List, drop}
use Rattle.node_apply.specs.NodeLinks.{NodeLinkView}
use Rattle.master_run.specs.Replays.{AreEnds, HasCounted, IsSound, serial_of}
use Rattle.master_run.specs.Serials.{node_turns, play}
use Rattle.master_run.proofs.replays.Replay.nodes_round.Given as goal

abbrev pub invariant-loop-number : goal.invariant-loop-number
invariant-loop-number l = record {
  leads : play l.script (node_turns (drop l.number l.script.nodes)) (l.acted, serial_of l.self) ≡ play l.script (node_turns l.script.nodes) (l.before, serial_of l.fn.self);
  sound : IsSound l.script l.self;
  acks : HasCounted l.script l.self;
  ends : (links : List NodeLinkView) → AreEnds l.script l.fn.self links → AreEnds l.script l.self links;
}
