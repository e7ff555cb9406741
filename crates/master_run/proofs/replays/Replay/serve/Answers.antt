use Rattle.std.proofs.Common.{◌+◌, refl, sym, subst, ◌∙◌, ap, arith}
use Rattle.master_intake.specs.Intakes.{WaitTable}
use Rattle.master_run.specs.declared.replays.Replay.{Replay}
use Rattle.master_run.specs.Passing.{meanings_of}
use Rattle.master_run.specs.Servings.{CanEnd}
use Rattle.master_run.proofs.Batching.{batch_ends, batch_joins, batch_linked, batch_over, batch_turn, empty_linked, empty_turn, gather_can, got_gathered, is_taking, none_got, none_sound, some_got, sound_by_master}
use Rattle.master_run.proofs.Bounds.{batches_few, batches_fewer}
use Rattle.master_run.proofs.replays.Replay.serve.Goals as goal

pub returns-in_default-clause-sound : goal.returns-in_default-clause-sound
returns-in_default-clause-sound c =
    none_sound c.args.script.now c.args.self.now c.in_ok-queue.field-0 c.take.new.self c.take.new.tasks c.requires.sound c.in_default.is c.in_ok-queue.ensures.taken c.in_ok-queue.ensures.left
    c.in_ok-queue.ensures.covered

pub count-batch-requires : goal.count-batch-requires
count-batch-requires c = batches_few c.args.script.now c.args.self.now.book.batches c.requires.script c.requires.sound.lawful.ordered.kept.serial.order

pub overflow_add-batch : goal.overflow_add-batch
overflow_add-batch c =
    let few = batches_fewer c.args.script.now c.args.self.now.book.batches c.requires.script c.requires.sound.lawful.ordered.kept.serial.order in
    let same = c.count-batch.ensures in
    omega arith

pub gather-requires : goal.gather-requires
gather-requires c =
    gather_can c.args.script.now c.args.self.now c.in-Some.field-0 c.take.new.self c.take.new.tasks (c.count-batch.result + 1) c.as_slice.result.now c.requires.sound
    (is_taking c.args.script.now c.args.self.now c.in_ok-queue.field-0 c.in-Some.field-0 c.take.new.self c.take.new.tasks c.requires.sound c.in-Some.is c.in_ok-queue.ensures.taken c.in_ok-queue.ensures.left
    c.in_ok-queue.ensures.covered) c.as_slice.ensures

pub returns-then-is_empty-clause-turn : goal.returns-then-is_empty-clause-turn
returns-then-is_empty-clause-turn c =
    empty_turn c.args.script.now c.args.self.now c.in-Some.field-0 c.take.new.self c.take.new.tasks c.gather.new.tasks c.in_ok-entries.entries.items
    (is_taking c.args.script.now c.args.self.now c.in_ok-queue.field-0 c.in-Some.field-0 c.take.new.self c.take.new.tasks c.requires.sound c.in-Some.is c.in_ok-queue.ensures.taken c.in_ok-queue.ensures.left
    c.in_ok-queue.ensures.covered)
    (got_gathered c.args.script.now c.args.self.now c.in-Some.field-0 c.take.new.self c.take.new.tasks c.count-batch.result c.as_slice.result.now _
    (is_taking c.args.script.now c.args.self.now c.in_ok-queue.field-0 c.in-Some.field-0 c.take.new.self c.take.new.tasks c.requires.sound c.in-Some.is c.in_ok-queue.ensures.taken c.in_ok-queue.ensures.left
    c.in_ok-queue.ensures.covered)
    c.as_slice.ensures c.count-batch.ensures c.in_ok-entries.ensures)
    (none_got c.as_slice-2.result.now c.in_ok-entries.entries.items c.is_empty.result c.as_slice-2.ensures.value c.is_empty.ensures c.if-is_empty.true)

pub returns-then-is_empty-clause-sound : goal.returns-then-is_empty-clause-sound
returns-then-is_empty-clause-sound c =
    sound_by_master c.args.script.now c.args.self.now _ _ c.requires.script c.requires.sound (returns-then-is_empty-clause-turn c) (ap (λ (w : WaitTable). w.priorities) c.in_ok-queue.ensures.left) refl

pub returns-then-is_empty-clause-ends : goal.returns-then-is_empty-clause-ends
returns-then-is_empty-clause-ends c = record {
  linked = empty_linked c.args.script.now c.args.self.now c.in-Some.field-0 c.take.new.self c.take.new.tasks c.gather.new.tasks (meanings_of c.args.links.now)
      (is_taking c.args.script.now c.args.self.now c.in_ok-queue.field-0 c.in-Some.field-0 c.take.new.self c.take.new.tasks c.requires.sound c.in-Some.is c.in_ok-queue.ensures.taken c.in_ok-queue.ensures.left
      c.in_ok-queue.ensures.covered) c.requires.ends.linked;
  passed = c.requires.ends.passed;
}

pub run_batch-requires-clause-joins : goal.run_batch-requires-clause-joins
run_batch-requires-clause-joins c =
    batch_joins c.args.script.now c.args.self.now c.in-Some.field-0 c.take.new.self c.take.new.tasks c.gather.new.tasks c.in_ok-entries.entries.items c.requires.sound
    (is_taking c.args.script.now c.args.self.now c.in_ok-queue.field-0 c.in-Some.field-0 c.take.new.self c.take.new.tasks c.requires.sound c.in-Some.is c.in_ok-queue.ensures.taken c.in_ok-queue.ensures.left
    c.in_ok-queue.ensures.covered)
    (got_gathered c.args.script.now c.args.self.now c.in-Some.field-0 c.take.new.self c.take.new.tasks c.count-batch.result c.as_slice.result.now _
    (is_taking c.args.script.now c.args.self.now c.in_ok-queue.field-0 c.in-Some.field-0 c.take.new.self c.take.new.tasks c.requires.sound c.in-Some.is c.in_ok-queue.ensures.taken c.in_ok-queue.ensures.left
    c.in_ok-queue.ensures.covered)
    c.as_slice.ensures c.count-batch.ensures c.in_ok-entries.ensures)
    (some_got c.as_slice-2.result.now c.in_ok-entries.entries.items c.is_empty.result c.as_slice-2.ensures.value c.is_empty.ensures c.if-is_empty.false)

pub run_batch-requires-clause-over : goal.run_batch-requires-clause-over
run_batch-requires-clause-over c =
    batch_over c.args.script.now c.args.self.now c.in-Some.field-0 c.take.new.self c.take.new.tasks c.gather.new.tasks (meanings_of c.args.links.now) c.requires.sound
    (is_taking c.args.script.now c.args.self.now c.in_ok-queue.field-0 c.in-Some.field-0 c.take.new.self c.take.new.tasks c.requires.sound c.in-Some.is c.in_ok-queue.ensures.taken c.in_ok-queue.ensures.left
    c.in_ok-queue.ensures.covered) c.requires.ends.linked

pub end_all-requires : goal.end_all-requires
end_all-requires c =
    subst (CanEnd (c.count-batch.result + 1) c.last_entries.result.now c.ends.result.now) (sym (ap (λ (r : Replay). r.tasks) c.in_ok-run_batch.ensures.run))
    (batch_ends c.args.script.now c.args.self.now c.in-Some.field-0 c.take.new.self c.take.new.tasks c.gather.new.tasks c.in_ok-entries.entries.items c.last_entries.result.now c.ends.result.now c.run_batch.new.self.book c.count-batch.result c.requires.sound
    (is_taking c.args.script.now c.args.self.now c.in_ok-queue.field-0 c.in-Some.field-0 c.take.new.self c.take.new.tasks c.requires.sound c.in-Some.is c.in_ok-queue.ensures.taken c.in_ok-queue.ensures.left
    c.in_ok-queue.ensures.covered)
    (got_gathered c.args.script.now c.args.self.now c.in-Some.field-0 c.take.new.self c.take.new.tasks c.count-batch.result c.as_slice.result.now _
    (is_taking c.args.script.now c.args.self.now c.in_ok-queue.field-0 c.in-Some.field-0 c.take.new.self c.take.new.tasks c.requires.sound c.in-Some.is c.in_ok-queue.ensures.taken c.in_ok-queue.ensures.left
    c.in_ok-queue.ensures.covered)
    c.as_slice.ensures c.count-batch.ensures c.in_ok-entries.ensures)
    (some_got c.as_slice-2.result.now c.in_ok-entries.entries.items c.is_empty.result c.as_slice-2.ensures.value c.is_empty.ensures c.if-is_empty.false) (ap (λ (r : Replay). r.book) c.in_ok-run_batch.ensures.run) c.last_entries.ensures c.ends.ensures c.count-batch.ensures)

pub returns-clause-turn : goal.returns-clause-turn
returns-clause-turn c =
    batch_turn c.args.script.now c.args.self.now c.run_batch.new.self c.in-Some.field-0 c.take.new.self c.take.new.tasks c.gather.new.tasks c.end_all.new.tasks c.in_ok-entries.entries.items c.last_entries.result.now
    c.ends.result.now c.count-batch.result c.requires.sound
    (is_taking c.args.script.now c.args.self.now c.in_ok-queue.field-0 c.in-Some.field-0 c.take.new.self c.take.new.tasks c.requires.sound c.in-Some.is c.in_ok-queue.ensures.taken c.in_ok-queue.ensures.left
    c.in_ok-queue.ensures.covered)
    (got_gathered c.args.script.now c.args.self.now c.in-Some.field-0 c.take.new.self c.take.new.tasks c.count-batch.result c.as_slice.result.now _
    (is_taking c.args.script.now c.args.self.now c.in_ok-queue.field-0 c.in-Some.field-0 c.take.new.self c.take.new.tasks c.requires.sound c.in-Some.is c.in_ok-queue.ensures.taken c.in_ok-queue.ensures.left
    c.in_ok-queue.ensures.covered)
    c.as_slice.ensures c.count-batch.ensures c.in_ok-entries.ensures)
    (some_got c.as_slice-2.result.now c.in_ok-entries.entries.items c.is_empty.result c.as_slice-2.ensures.value c.is_empty.ensures c.if-is_empty.false) c.in_ok-run_batch.ensures.run c.last_entries.ensures c.ends.ensures c.count-batch.ensures c.end_all.ensures (sym c.in_ok-run_batch.ensures.handed)

pub returns-clause-sound : goal.returns-clause-sound
returns-clause-sound c =
    sound_by_master c.args.script.now c.args.self.now _ _ c.requires.script c.requires.sound (returns-clause-turn c)
    (ap (λ (r : Replay). r.waiting.priorities) c.in_ok-run_batch.ensures.run ∙ ap (λ (w : WaitTable). w.priorities) c.in_ok-queue.ensures.left) (c.in_ok-run_batch.ensures.nodes ∙ sym c.requires.sound.nodes)

pub returns-clause-ends : goal.returns-clause-ends
returns-clause-ends c = record {
  linked = batch_linked c.args.script.now c.args.self.now c.run_batch.new.self c.in-Some.field-0 c.take.new.self c.take.new.tasks c.gather.new.tasks c.end_all.new.tasks c.in_ok-entries.entries.items
      (meanings_of c.args.links.now) (meanings_of c.run_batch.new.links)
      (is_taking c.args.script.now c.args.self.now c.in_ok-queue.field-0 c.in-Some.field-0 c.take.new.self c.take.new.tasks c.requires.sound c.in-Some.is c.in_ok-queue.ensures.taken c.in_ok-queue.ensures.left
      c.in_ok-queue.ensures.covered) c.requires.ends.linked c.in_ok-run_batch.ensures.run c.in_ok-run_batch.ensures.links c.in_ok-run_batch.ensures.used;
  passed = c.in_ok-run_batch.ensures.passed;
}
