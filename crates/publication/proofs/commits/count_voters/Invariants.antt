use Rattle.std.proofs.Common.{◌≡◌, ◌+◌, ◌≤◌}
use Rattle.meta_state.specs.Voters.{electorate}
use Rattle.publication.proofs.commits.count_voters.Given as goal

abbrev pub invariant-loop-node : goal.invariant-loop-node
invariant-loop-node l = record {
  all : l.count + electorate l.node-iterator ≡ electorate l.fn.nodes;
  few : electorate l.fn.nodes ≤ l.most;
}
