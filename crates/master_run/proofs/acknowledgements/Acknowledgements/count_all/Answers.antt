use Rattle.std.proofs.Common.{drop, ap}
use Rattle.master_run.specs.AckBooks.{counted_each}
use Rattle.master_run.proofs.AckBooking.{can_by, none_counted}
use Rattle.master_run.proofs.acknowledgements.Acknowledgements.count_all.Goals as goal

pub returns-in_err-prune-clause-known : goal.returns-in_err-prune-clause-known
returns-in_err-prune-clause-known c = c.prune.ensures.known

pub loop-entry-init : goal.loop-entry-init
loop-entry-init c = record {
  leads = ap (counted_each c.args.script.now c.args.state.now c.args.times c.args.entries.now c.args.ends.now) c.in_ok-prune.ensures.pruned;
  can = can_by c.args.script.now c.args.state.now c.args.times c.args.entries.now c.args.ends.now _ c.prune.new.self c.in_ok-prune.ensures.pruned (c.requires.can c.prune.ensures.known);
}

pub returns-in_default-clause-counted : goal.returns-in_default-clause-counted
returns-in_default-clause-counted c =
    none_counted c.args.script.now c.args.state.now c.args.times (drop c.loop-entry.entry-index c.args.entries.now) c.loop-entry.left.now c.loop-entry.self _
    c.in_default.ensures.cases c.loop-entry.invariant.leads

pub returns-in_default-clause-known : goal.returns-in_default-clause-known
returns-in_default-clause-known c = c.prune.ensures.known

pub returns-in_err-count_one-clause-known : goal.returns-in_err-count_one-clause-known
returns-in_err-count_one-clause-known c = c.prune.ensures.known

pub returns-clause-known : goal.returns-clause-known
returns-clause-known c = c.prune.ensures.known
