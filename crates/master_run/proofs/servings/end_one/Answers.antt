use Rattle.master_run.proofs.EndCodes.{not_closed, not_stopped}
use Rattle.master_run.proofs.servings.end_one.Goals as goal

pub end-requires-clause-closed : goal.end-requires-clause-closed
end-requires-clause-closed c = not_closed c.args.batch c.args.entry.now c.args.end c.args.tasks.now c.code_of.result c.requires c.code_of.ensures

pub end-requires-clause-stopped : goal.end-requires-clause-stopped
end-requires-clause-stopped c = not_stopped c.args.batch c.args.entry.now c.args.end c.args.tasks.now c.code_of.result c.requires c.code_of.ensures
