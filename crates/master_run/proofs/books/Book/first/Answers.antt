use Rattle.std.proofs.Common.{sym, subst, List, []}
use Rattle.session_law.specs.declared.batches.Batch.{Batch}
use Rattle.master_run.specs.Ledgers.{IsLedger}
use Rattle.master_run.proofs.Ledgering.{ledger_first}
use Rattle.master_run.proofs.books.Book.first.Goals as goal

pub invariant_of-result : goal.invariant_of-result
invariant_of-result c =
    subst (λ (all : List Batch). IsLedger all c.in_ok-world.world) (sym c.new.ensures)
    (subst (IsLedger []) (sym c.in_ok-world.ensures) (ledger_first c.args.script.now))
