use Rattle.std.specs.Prelude.{Option}
use Rattle.std.proofs.Common.{◌∙◌, ap, sym, ℕ, false, true, Bool}
use Rattle.std.specs.Option.{option_map}
use Rattle.task_words.specs.declared.answers.TaskPoll.{TaskPoll}
use Rattle.master_run.specs.Replays.{course_of, poll_told, serial_of}
use Rattle.master_run.specs.Serials.{Serial, after_turn, at_clock}
use Rattle.master_run.specs.Steps.{awaited_by}
use Rattle.master_run.specs.declared.replays.Replay.{Replay}
use Rattle.master_run.proofs.AckTurning.{await_told}
use Rattle.master_run.proofs.replays.Replay.await_ack.Goals as goal

pub returns-in-None-clause-turn : goal.returns-in-None-clause-turn
returns-in-None-clause-turn c =
    let told = await_told c.args.script.now c.args.self.now c.args.client c.args.earlier c.is_open-opened.result c.requires.sound c.requires.acks c.requires.inside c.is_open-opened.ensures in
    ap (λ (found : Option ℕ). after_turn (false, serial_of c.args.self.now) (option_map (at_clock c.args.self.now.clock) (awaited_by (course_of c.args.self.now) c.args.client found)))
    (sym told ∙ ap (λ (p : TaskPoll). poll_told c.is_open-opened.result p) (sym c.poll.ensures) ∙ sym c.told_of.ensures ∙ c.in-None.is)

pub returns-in-Some-clause-turn : goal.returns-in-Some-clause-turn
returns-in-Some-clause-turn c =
    let told = await_told c.args.script.now c.args.self.now c.args.client c.args.earlier c.is_open-opened.result c.requires.sound c.requires.acks c.requires.inside c.is_open-opened.ensures in
    ap (λ (found : Option ℕ). after_turn (false, serial_of c.args.self.now) (option_map (at_clock c.args.self.now.clock) (awaited_by (course_of c.args.self.now) c.args.client found)))
    (sym told ∙ ap (λ (p : TaskPoll). poll_told c.is_open-opened.result p) (sym c.poll.ensures) ∙ sym c.told_of.ensures ∙ c.in-Some.is)
    ∙ ap (λ (r : Replay). (true, serial_of r)) (sym c.has_seen.ensures)
