use Rattle.std.proofs.Common.{◌≡◌, ◌++◌, drop}
use Rattle.session_law.specs.Worlds.{members_of}
use Rattle.master_run.proofs.first_worlds.members.Given as goal

abbrev pub invariant-loop-node : goal.invariant-loop-node
invariant-loop-node l = l.made.items ++ members_of (drop l.node-index l.nodes) ≡ members_of l.nodes
