use Rattle.std.proofs.Common.{◌≡◌, ◌+◌, ◌++◌, drop, map, sum}
use Rattle.observers.specs.Words.{vacant_lane, word_count}
use Rattle.observers.proofs.plain_watches.PlainWatches.create.Given as goal

abbrev pub invariant-loop-steps : goal.invariant-loop-steps
invariant-loop-steps l = record {
  made : l.words.items ++ map vacant_lane (drop l.steps-index l.watches) ≡ map vacant_lane l.fn.watches;
  few : word_count l.words.items + sum (drop l.steps-index l.watches) ≡ sum l.fn.watches;
}
