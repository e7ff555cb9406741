use Rattle.std.proofs.Common.{◌≡◌, []}
use Rattle.plain_data.specs.Agreements.{with_all, read_off}
use Rattle.plain_data.specs.Pairs.{lookup}
use Rattle.state_diff.specs.MapDiffs.{only_first}
use Rattle.state_diff.proofs.noting.deletes_at.Given as goal

abbrev pub invariant-loop-key : goal.invariant-loop-key
invariant-loop-key g l = with_all (read_off (λ key. only_first (lookup key l.a) (lookup key l.b)) l.key-iterator) l.made ≡ with_all (read_off (λ key. only_first (lookup key l.a) (lookup key l.b)) l.fn.keys) []
