use Rattle.std.proofs.Common.{ap, arith, is_ok}
use Rattle.executors.proofs.Numbering.{numbered_next}
use Rattle.executors.proofs.contexts.number.Goals as goal

pub loop-task-preserved : goal.loop-task-preserved
loop-task-preserved c =
    let ok = ap is_ok c.unwrap.ensures in
    record {
      all = numbered_next _ _ c.new.result c.in-Some.task _ _ _ _ _ ok c.push.ensures.items c.new.ensures c.in-Some.ensures.cases.0 c.loop-task.invariant.all;
      places = let one = c.in-Some.ensures.cases.1 in omega arith;
      room = let one = c.in-Some.ensures.cases.1 in let longer = rw ok at c.push.ensures.len in omega arith;
    }
