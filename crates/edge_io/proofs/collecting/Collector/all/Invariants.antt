use Rattle.std.proofs.Common.{◌≤◌, vec_len}
use Rattle.std.specs.Io.KnownBytes.{Consumes}
use Rattle.edge_io.proofs.collecting.Collector.all.Given as goal

abbrev pub invariant-loop-turn : goal.invariant-loop-turn
invariant-loop-turn g l = record {
  took : Consumes (g.S.Source.left l.fn.source) (g.S.Source.left l.source) l.taken.items;
  each_turn : l._turn ≤ vec_len l.taken;
  short : vec_len l.taken ≤ l.limit;
  later : g.S.Source.faults l.fn.source ≤ g.S.Source.faults l.source;
}
