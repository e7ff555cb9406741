use Rattle.std.proofs.Common.{ℕ, arith, length-take}
use Rattle.edge_io.proofs.Pieces.{takes_more, takes_few_more}
use Rattle.edge_io.proofs.collecting.Collector.all.Goals as goal

-- the piece that was read last goes past the limit by one byte
pub returns-in-Ok-clause-too_long : goal.returns-in-Ok-clause-too_long
returns-in-Ok-clause-too_long g c =
    λ _. takes_more _ _ _ _ _ _ c.loop-turn.invariant.took c.in-Ok.ensures.bytes.0 (omega (arith, c.in-Ok.ensures.bound.0, c.in-Ok.ensures.bound.1, length-take {A = ℕ}))

-- there was no memory for the piece that was read last, which is within the limit
pub returns-in_err-extend_from_slice-in-Ok-2-clause-not_too_long :
    goal.returns-in_err-extend_from_slice-in-Ok-2-clause-not_too_long
returns-in_err-extend_from_slice-in-Ok-2-clause-not_too_long g c =
    λ _. takes_few_more _ _ _ _ _ _ c.loop-turn.invariant.took c.in-Ok-2.ensures.bytes.0 (omega (arith, c.in-Ok-2.ensures.bound.1))
