use Rattle.std.proofs.Common.{◌≡◌}
use Rattle.plain_data.specs.Pairs.{pairs_eq}
use Rattle.plain_data.proofs.maps.MapPartialEq.eq.Given as goal

abbrev pub invariant-loop-key : goal.invariant-loop-key
invariant-loop-key g l = pairs_eq g.V.PartialEq.eq l.key-iterator l.others ≡ pairs_eq g.V.PartialEq.eq l.fn.self l.fn.other
