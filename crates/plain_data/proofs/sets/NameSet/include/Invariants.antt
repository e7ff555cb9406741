use Rattle.std.proofs.Common.{◌≡◌}
use Rattle.plain_data.specs.Agreements.{with_all}
use Rattle.plain_data.proofs.sets.NameSet.include.Given as goal

abbrev pub invariant-loop-name : goal.invariant-loop-name
invariant-loop-name l = with_all l.name-iterator l.names ≡ with_all l.fn.other l.fn.self
