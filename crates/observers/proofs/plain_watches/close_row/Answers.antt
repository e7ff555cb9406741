use Rattle.std.proofs.Common.{◌≡◌, ◌+◌, ◌<◌, arith, cond, get_or, length, rules}
use Rattle.observers.specs.declared.watch_words.WatchWord.{WatchWord}
use Rattle.observers.specs.Words.{closed_word, is_waiting}
use Rattle.observers.proofs.Passes.{counts_on, walks_on}
use Rattle.observers.proofs.plain_watches.close_row.Goals as goal

pub loop-step-preserved : goal.loop-step-preserved
loop-step-preserved c =
    let within : c.loop-step.step < length c.args.row.now = omega arith in
    let one : c.if-close_at.count ≡ c.loop-step.count + cond (is_waiting (get_or c.loop-step.row c.loop-step.step WatchWord.Vacant)) 1 0 = search rules in
    record {
      closed = walks_on closed_word c.args.row.now c.loop-step.row c.loop-step.step WatchWord.Vacant c.loop-step.invariant.closed within c.close_at.new.row c.close_at.ensures.words;
      counted = counts_on closed_word c.args.row.now c.loop-step.row c.loop-step.step WatchWord.Vacant c.loop-step.invariant.closed within (λ word. cond (is_waiting word) 1 0)
          c.loop-step.count c.if-close_at.count _ c.loop-step.invariant.counted one;
    }
