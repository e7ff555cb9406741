-- How many watches wait in a table: no more than it has words.
use Rattle.std.specs.Prelude.{◌≤◌, ◌<◌, ◌^◌, List, count_by, length}
use Rattle.std.proofs.Common.{arith}
use Rattle.std.proofs.lemmas.List.Sums.{count_by-le-length, sum_by-le-sum_by}
use Rattle.observers.specs.declared.watch_words.WatchWord.{WatchWord}
use Rattle.observers.specs.Words.{WatchTable, is_waiting, waiting_count, word_count}

waiting_count_within : (table : WatchTable) → waiting_count table ≤ word_count table
waiting_count_within table = sum_by-le-sum_by (count_by is_waiting) (λ (row : List WatchWord). length row) table (λ row. count_by-le-length is_waiting row)

pub waiting_few : (table : WatchTable) → word_count table < 2 ^ 18 → waiting_count table < 2 ^ 18
waiting_few table few = let within = waiting_count_within table in omega arith
