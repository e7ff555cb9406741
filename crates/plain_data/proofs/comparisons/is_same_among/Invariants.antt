use Rattle.plain_data.specs.Agreements.{AgreeOutside}
use Rattle.plain_data.proofs.comparisons.is_same_among.Given as goal

abbrev pub invariant-loop-name : goal.invariant-loop-name
invariant-loop-name g l = AgreeOutside l.name-iterator l.a l.b
