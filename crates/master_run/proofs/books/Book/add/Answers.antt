use Rattle.std.proofs.Common.{◌≡◌, ◌<◌, ◌^◌, sym, subst, length, map, List, true, IfOk}
use Rattle.std.specs.List.{list_all}
use Rattle.executors.specs.Kinds.{accepts}
use Rattle.session_law.specs.declared.batches.Entry.{Entry}
use Rattle.session_law.specs.Histories.{IsOrdered, tasks_at}
use Rattle.master_run.specs.Books.{Chronicle, plan_for}
use Rattle.master_run.specs.Rooms.{HasRoom}
use Rattle.master_run.specs.Sendings.{AreLinksOf, IsSentFor}
use Rattle.master_run.proofs.Adding.{added_if, can_send, joins_queue, links_if, order_if, reached_if}
use Rattle.master_run.proofs.Bounds.{ledger_has_room}
use Rattle.master_run.proofs.Taken.{each_task, few_entries, tasks_taken}
use Rattle.master_run.proofs.books.Book.add.Goals as goal

pub plan_batch-requires-clause-room : goal.plan_batch-requires-clause-room
plan_batch-requires-clause-room g c =
    ledger_has_room c.args.script.now c.self.inside.batches c.self.inside.world c.requires.script
    (subst (λ (b : Chronicle). IsOrdered c.args.script.now b.batches) (sym c.self.view_is) c.requires.order) c.self.invariant

pub plan_batch-requires-clause-few : goal.plan_batch-requires-clause-few
plan_batch-requires-clause-few g c =
    let queue = c.queue_at-queue.result.now in
    subst (λ (all : List Entry). length all < 2 ^ 32) (sym c.deref.ensures.value)
    (few_entries c.args.script.now c.args.self.now queue c.args.entries.items c.requires.script c.requires.order
    (joins_queue c.args.script.now c.args.self.now c.args.queue queue c.args.entries.items c.queue_at-queue.ensures c.requires.joins))

pub plan_batch-requires-clause-each : goal.plan_batch-requires-clause-each
plan_batch-requires-clause-each g c =
    let queue = c.queue_at-queue.result.now in
    subst (λ (all : List Entry). length (tasks_at c.args.script.now all) ≡ length all) (sym c.deref.ensures.value)
    (each_task c.args.script.now c.args.self.now queue c.args.entries.items
    (joins_queue c.args.script.now c.args.self.now c.args.queue queue c.args.entries.items c.queue_at-queue.ensures c.requires.joins))

pub plan_batch-requires-clause-accepted : goal.plan_batch-requires-clause-accepted
plan_batch-requires-clause-accepted g c =
    let queue = c.queue_at-queue.result.now in
    subst (λ (all : List Entry). list_all (accepts queue.executor) (tasks_at c.args.script.now all) ≡ true) (sym c.deref.ensures.value)
    (tasks_taken c.args.script.now c.args.self.now c.args.queue queue c.args.entries.items c.requires.script c.queue_at-queue.ensures
    (joins_queue c.args.script.now c.args.self.now c.args.queue queue c.args.entries.items c.queue_at-queue.ensures c.requires.joins))

pub send_plan-sent-requires : goal.send_plan-sent-requires
send_plan-sent-requires g c =
    let inside : Chronicle = record { batches = c.self.inside.batches; ends = c.self.inside.ends; world = c.self.inside.world } in
    let before = map g.L.Link.meaning c.args.links.now in
    can_send c.args.script.now inside c.queue_at-queue.result.now c.deref.result.now c.in_ok-planned.planned before c.requires.script
    (subst (λ (b : Chronicle). IsOrdered c.args.script.now b.batches) (sym c.self.view_is) c.requires.order) c.self.invariant
    (subst (λ (b : Chronicle). AreLinksOf c.args.script.now.nodes b.world before) (sym c.self.view_is) c.requires.links) c.requires.room
    c.in_ok-planned.ensures.plan c.in_ok-planned.ensures.touched

pub note-requires-clause-reached : goal.note-requires-clause-reached
note-requires-clause-reached g c =
    let before = map g.L.Link.meaning c.args.links.now in
    let after = map g.L.Link.meaning c.send_plan-sent.new.links in
    let may_read = g.C.Clock.may_read c.args.clock.now in
    let plan = c.in_ok-planned.planned.plan in
    reached_if c.args.script.now c.args.self.now.world may_read before after c.send_plan-sent.result plan c.requires.script c.requires.links
    (subst (λ (b : Chronicle). IfOk c.send_plan-sent.result (λ s. IsSentFor b.world may_read before after s plan)) c.self.view_is c.send_plan-sent.ensures)

pub returns-clause-added : goal.returns-clause-added
returns-clause-added g c =
    let queue = c.queue_at-queue.result.now in
    let before = map g.L.Link.meaning c.args.links.now in
    let after = map g.L.Link.meaning c.send_plan-sent.new.links in
    let may_read = g.C.Clock.may_read c.args.clock.now in
    let plan = c.in_ok-planned.planned.plan in
    let is = subst (λ (all : List Entry). plan ≡ plan_for c.args.script.now queue all c.self.inside.world) c.deref.ensures.value c.in_ok-planned.ensures.plan in
    added_if c.note.result c.args.script.now c.args.queue queue c.args.entries.items c.args.at may_read before after c.args.self.now c.note.new.self plan c.send_plan-sent.result
    c.requires.script c.queue_at-queue.ensures c.requires.joins c.requires.links
    (subst (λ (b : Chronicle). plan ≡ plan_for c.args.script.now queue c.args.entries.items b.world) c.self.view_is is)
    (subst (λ (b : Chronicle). IfOk c.send_plan-sent.result (λ s. IsSentFor b.world may_read before after s plan)) c.self.view_is c.send_plan-sent.ensures)
    c.note.ensures

pub returns-clause-order : goal.returns-clause-order
returns-clause-order g c =
    order_if c.note.result c.args.script.now c.args.queue c.args.entries.items c.args.at (g.C.Clock.may_read c.args.clock.now)
    (map g.L.Link.meaning c.args.links.now) (map g.L.Link.meaning c.send_plan-sent.new.links) c.args.self.now c.note.new.self c.requires.order c.requires.joins (returns-clause-added g c)

pub returns-clause-links : goal.returns-clause-links
returns-clause-links g c =
    links_if c.note.result c.args.script.now c.args.queue c.args.entries.items c.args.at (g.C.Clock.may_read c.args.clock.now)
    (map g.L.Link.meaning c.args.links.now) (map g.L.Link.meaning c.send_plan-sent.new.links) c.args.self.now c.note.new.self c.requires.script
    (subst (λ (b : Chronicle). HasRoom b.world) c.self.view_is
    (ledger_has_room c.args.script.now c.self.inside.batches c.self.inside.world c.requires.script
    (subst (λ (b : Chronicle). IsOrdered c.args.script.now b.batches) (sym c.self.view_is) c.requires.order) c.self.invariant))
    c.requires.links (returns-clause-added g c)
