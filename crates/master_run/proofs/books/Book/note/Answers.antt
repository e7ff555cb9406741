use Rattle.std.proofs.Common.{◌≡◌, ◌++◌, sym, subst, refl, length, List, [], ◌∷◌}
use Rattle.session_law.specs.declared.batches.Batch.{Batch}
use Rattle.session_law.specs.declared.batches.Entry.{Entry}
use Rattle.session_law.specs.Histories.{IsOrdered, tasks_at}
use Rattle.master_run.specs.Books.{Chronicle}
use Rattle.master_run.specs.Ledgers.{IsLedger}
use Rattle.master_run.proofs.Adding.{IsConcluded, noted_is, noted_ledger}
use Rattle.master_run.proofs.Bounds.{ledger_has_room}
use Rattle.master_run.proofs.Taken.{each_task}
use Rattle.master_run.proofs.books.Book.note.Goals as goal

pub conclude-requires-clause-room : goal.conclude-requires-clause-room
conclude-requires-clause-room c =
    ledger_has_room c.args.script.now c.self.inside.batches c.self.inside.world c.requires.script
    (subst (λ (b : Chronicle). IsOrdered c.args.script.now b.batches) (sym c.self.view_is) c.requires.order) c.self.invariant

pub conclude-requires-clause-each : goal.conclude-requires-clause-each
conclude-requires-clause-each c =
    subst (λ (all : List Entry). length (tasks_at c.args.script.now all) ≡ length all) (sym c.deref.ensures.value)
    (each_task c.args.script.now c.args.self.now c.args.queue.now c.args.entries.items c.requires.joins)

pub invariant_of-self-in-Ok : goal.invariant_of-self-in-Ok
invariant_of-self-in-Ok c =
    let inside : Chronicle = record { batches = c.self.inside.batches; ends = c.self.inside.ends; world = c.self.inside.world } in
    let made = c.in_ok-made.made in
    let batch : Batch = record { queue = c.args.queue.now.name; at = c.args.at; entries = c.args.entries.items; result = made.stepped.result } in
    let concluded = subst (λ (all : List Entry). IsConcluded c.args.script.now inside.world c.args.queue.now all c.args.planned.plan made c.args.sent) c.deref.ensures.value c.in_ok-made.ensures in
    subst (λ (all : List Batch). IsLedger all c.put_into.new.world) (sym c.in-Ok.ensures.ok)
    (subst (IsLedger (inside.batches ++ batch ∷ [])) (sym c.put_into.ensures.world)
    (noted_ledger c.args.script.now inside c.args.self.now c.args.queue.now c.args.entries.items batch c.args.planned.plan made c.args.sent
    c.self.view_is refl c.self.invariant c.requires.joins c.requires.plan c.requires.reached concluded))

pub returns-in-Ok : goal.returns-in-Ok
returns-in-Ok c =
    let inside : Chronicle = record { batches = c.self.inside.batches; ends = c.self.inside.ends; world = c.self.inside.world } in
    let made = c.in_ok-made.made in
    let concluded = subst (λ (all : List Entry). IsConcluded c.args.script.now inside.world c.args.queue.now all c.args.planned.plan made c.args.sent) c.deref.ensures.value c.in_ok-made.ensures in
    noted_is c.args.script.now inside c.args.self.now c.args.queue.now c.args.entries.items c.args.at c.args.planned.plan made c.args.sent
    c.push_batch.new.batches c.put_into.new.ends c.put_into.new.world c.self.view_is c.in-Ok.ensures.ok c.put_into.ensures.ends c.put_into.ensures.world
    c.requires.plan c.requires.reached concluded
