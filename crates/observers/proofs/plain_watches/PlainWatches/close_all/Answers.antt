use Rattle.std.proofs.Common.{◌≡◌, ◌+◌, ◌<◌, ap, arith, count_by, drop, length, map, rules}
use Rattle.observers.specs.Words.{closed_word, is_waiting, waiting_count}
use Rattle.observers.proofs.Counts.{waiting_few}
use Rattle.observers.proofs.Passes.{counts_on, walks_on}
use Rattle.observers.proofs.plain_watches.PlainWatches.close_all.Goals as goal

within : (c : goal.After-close_row-count) → c.loop-row.row-index < length c.args.self.now
within c = search rules

counted : (c : goal.After-close_row-count) → c.loop-row.count + c.close_row-count.result + waiting_count (drop (c.loop-row.row-index + 1) c.args.self.now) ≡ waiting_count c.args.self.now
counted c =
    counts_on (map closed_word) c.args.self.now c.loop-row.row-items c.loop-row.row-index c.row-item.result c.loop-row.invariant.closed (within c) (count_by is_waiting)
    c.loop-row.count (c.loop-row.count + c.close_row-count.result) _ c.loop-row.invariant.counted (ap (λ n. c.loop-row.count + n) c.close_row-count.ensures.count)

pub overflow_add-count : goal.overflow_add-count
overflow_add-count c =
    let few = waiting_few c.args.self.now (search rules) in
    let more = counted c in
    omega arith

pub loop-row-preserved : goal.loop-row-preserved
loop-row-preserved c = record {
  closed = walks_on (map closed_word) c.args.self.now c.loop-row.row-items c.loop-row.row-index c.row-item.result c.loop-row.invariant.closed (within c) _ (search rules);
  counted = counted c;
}
