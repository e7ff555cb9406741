use Rattle.std.proofs.Common.{◌∙◌, ap, map, replicate, ℕ}
use Rattle.task_words.specs.Words.{vacant_table}
use Rattle.master_intake.specs.Intakes.{WaitTable}
use Rattle.master_intake.specs.Waitings.{priorities_of}
use Rattle.master_run.specs.AckBooks.{lapses_of}
use Rattle.master_run.specs.Appliers.{courses_of}
use Rattle.master_run.specs.Serials.{at_clock}
use Rattle.master_run.proofs.AckTurning.{lapses_first}
use Rattle.master_run.proofs.Asking.{lanes_sum}
use Rattle.master_run.proofs.replays.Replay.unopened.Goals as goal

pub create-requires-2 : goal.create-requires-2
create-requires-2 c = lanes_sum c.args.script.now c.as_slice-2.result.now c.requires (c.as_slice-2.ensures ∙ c.in_ok-lanes.ensures)

pub create-requires-4 : goal.create-requires-4
create-requires-4 c = lanes_sum c.args.script.now c.in_ok-lanes.lanes c.requires c.in_ok-lanes.ensures

pub returns-clause-first : goal.returns-clause-first
returns-clause-first c =
    let lanes = c.as_slice.ensures ∙ c.in_ok-lanes.ensures in
    let again = c.as_slice-2.ensures ∙ c.in_ok-lanes.ensures in
    λ i. at_clock 0 (record {
      book = c.in_ok-book.ensures.first i;
      waiting = (c.in_ok-waiting.ensures i).waiting;
      tasks = (c.in_ok-tasks.ensures ∙ (λ j. vacant_table (again j) (c.len.ensures j))) i;
      ats = (c.in_ok-ats.ensures ∙ ap (map (λ (steps : ℕ). replicate steps 0)) lanes) i;
      positions = c.in_ok-positions.ensures i;
      awaited = c.in_ok-awaited.ensures i;
      nodes = ap courses_of c.new.ensures.items i;
      lapses = (ap lapses_of c.in_ok-acks.ensures ∙ lapses_first c.in_ok-lanes.lanes c.len-2.result) i;
    })

pub returns-clause-priorities : goal.returns-clause-priorities
returns-clause-priorities c = ap (λ (w : WaitTable). w.priorities) c.in_ok-waiting.ensures ∙ ap priorities_of c.as_slice-3.ensures
