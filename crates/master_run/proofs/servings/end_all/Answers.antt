use Rattle.std.proofs.Common.{drop}
use Rattle.master_run.specs.Servings.{ended_all}
use Rattle.master_run.proofs.EndCodes.{first_can, none_ended}
use Rattle.master_run.proofs.servings.end_all.Goals as goal

pub returns-in_default : goal.returns-in_default
returns-in_default c =
    none_ended c.args.batch (drop c.loop-entry.entry-index c.args.entries.now) c.loop-entry.left.now c.loop-entry.tasks (ended_all c.args.batch c.args.entries.now c.args.ends.now c.args.tasks.now)
    c.in_default.ensures.cases c.loop-entry.invariant.leads

pub end_one-requires : goal.end_one-requires
end_one-requires c =
    first_can c.args.batch c.args.entries.now c.loop-entry.entry-index _ c.loop-entry.left.now c.in-Some.end.now c.in-Some.more.now c.loop-entry.tasks c.loop-entry-test.true
    c.in-Some.ensures.cases.0 c.loop-entry.invariant.can
