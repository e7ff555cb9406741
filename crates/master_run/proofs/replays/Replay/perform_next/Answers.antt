use Rattle.std.proofs.Common.{Some, ◌∙◌, ap, sym, subst, true}
use Rattle.std.specs.Option.{option_copied}
use Rattle.scripts.specs.declared.steps.Goal.{Goal}
use Rattle.scripts.specs.declared.steps.Step.{Step}
use Rattle.scripts.specs.declared.steps.Step.TheVariants.{Await}
use Rattle.session_law.specs.Histories.{step_at}
use Rattle.master_run.specs.declared.replays.Replay.{Replay}
use Rattle.master_run.specs.Replays.{HasCounted, serial_of}
use Rattle.master_run.proofs.AckTurning.{slept_counted, slept_turn}
use Rattle.master_run.proofs.Asking.{awaits_in_lane, can_await, can_await_ack, can_sleep, can_submit}
use Rattle.master_run.proofs.replays.Replay.perform_next.Goals as goal

pub submit-requires : goal.submit-requires
submit-requires c =
    can_submit c.args.script.now c.args.self.now c.args.client c.in-Some-Submit.queue c.in-Some-Submit.task c.in-Some-Submit.timeout _ c.requires.script c.requires.sound
    (ap (step_at c.args.script.now c.args.client) (sym c.next_of.ensures) ∙ sym c.step_of.ensures ∙ ap option_copied c.in-Some-Submit.is ∙ ap (λ (s : Step). Some s) c.in-Some-Submit.field-0-is)

pub await_task-requires : goal.await_task-requires
await_task-requires c =
    can_await c.args.script.now c.args.self.now c.args.client c.in-Some-Await-default-Task.step c.requires.script c.requires.sound
    (ap (step_at c.args.script.now c.args.client) (sym c.next_of.ensures) ∙ sym c.step_of.ensures ∙ ap option_copied c.in-Some-Await-default-Task.is
    ∙ ap (λ (s : Step). Some s) c.in-Some-Await-default-Task.field-0-is ∙ ap (λ (g : Goal). Some (Await c.in-Some-Await-default-Task.step g)) c.in-Some-Await-default-Task.field-0-1-is)

pub await_ack-requires-clause-can : goal.await_ack-requires-clause-can
await_ack-requires-clause-can c =
    can_await_ack c.args.script.now c.args.self.now c.args.client c.in-Some-Await-default-Ack.step c.requires.script c.requires.sound
    (ap (step_at c.args.script.now c.args.client) (sym c.next_of.ensures) ∙ sym c.step_of.ensures ∙ ap option_copied c.in-Some-Await-default-Ack.is
    ∙ ap (λ (s : Step). Some s) c.in-Some-Await-default-Ack.field-0-is ∙ ap (λ (g : Goal). Some (Await c.in-Some-Await-default-Ack.step g)) c.in-Some-Await-default-Ack.field-0-1-is)

pub await_ack-requires-clause-inside : goal.await_ack-requires-clause-inside
await_ack-requires-clause-inside c =
    awaits_in_lane c.args.script.now c.args.self.now c.args.client c.in-Some-Await-default-Ack.step c.requires.script c.requires.acks.lanes
    (ap (step_at c.args.script.now c.args.client) (sym c.next_of.ensures) ∙ sym c.step_of.ensures ∙ ap option_copied c.in-Some-Await-default-Ack.is
    ∙ ap (λ (s : Step). Some s) c.in-Some-Await-default-Ack.field-0-is ∙ ap (λ (g : Goal). Some (Await c.in-Some-Await-default-Ack.step g)) c.in-Some-Await-default-Ack.field-0-1-is)

pub returns-in-Some-Sleep-clause-turn : goal.returns-in-Some-Sleep-clause-turn
returns-in-Some-Sleep-clause-turn c =
    slept_turn c.args.script.now c.args.self.now c.args.client c.in-Some-Sleep.ms c.requires.sound c.requires.acks c.sleep.ensures.known
    (ap (step_at c.args.script.now c.args.client) (sym c.next_of.ensures) ∙ sym c.step_of.ensures ∙ ap option_copied c.in-Some-Sleep.is ∙ ap (λ (s : Step). Some s) c.in-Some-Sleep.field-0-is)
    ∙ ap (λ (r : Replay). (true, serial_of r)) (sym c.sleep.ensures.slept)

pub returns-in-Some-Sleep-clause-acks : goal.returns-in-Some-Sleep-clause-acks
returns-in-Some-Sleep-clause-acks c =
    subst (HasCounted c.args.script.now) (sym c.sleep.ensures.slept) (slept_counted c.args.script.now c.args.self.now c.args.client c.in-Some-Sleep.ms c.requires.acks c.sleep.ensures.known)

pub sleep-requires : goal.sleep-requires
sleep-requires c =
    can_sleep c.args.script.now c.args.self.now c.args.client c.in-Some-Sleep.ms c.requires.script c.requires.sound
    (ap (step_at c.args.script.now c.args.client) (sym c.next_of.ensures) ∙ sym c.step_of.ensures ∙ ap option_copied c.in-Some-Sleep.is ∙ ap (λ (s : Step). Some s) c.in-Some-Sleep.field-0-is)
