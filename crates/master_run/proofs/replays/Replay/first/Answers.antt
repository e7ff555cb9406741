use Rattle.std.proofs.Common.{refl}
use Rattle.master_run.proofs.AckMoving.{opened_counted}
use Rattle.master_run.proofs.EndsKept.{opened_first, opened_links, opened_sound}
use Rattle.master_run.proofs.replays.Replay.first.Goals as goal

pub returns-clause-first : goal.returns-clause-first
returns-clause-first c = opened_first c.args.script.now c.in_ok-replay.replay c.world.result.now c.in_ok-links.field-0.appliers c.in_ok-replay.ensures.first c.world.ensures c.in_ok-links.ensures.appliers

pub returns-clause-sound : goal.returns-clause-sound
returns-clause-sound c =
    opened_sound c.args.script.now c.in_ok-replay.replay c.world.result.now c.in_ok-links.field-0.appliers c.in_ok-replay.ensures.first c.in_ok-replay.ensures.priorities c.world.ensures c.in_ok-links.ensures.appliers

pub returns-clause-links : goal.returns-clause-links
returns-clause-links c = opened_links c.args.script.now c.in_ok-replay.replay c.world.result.now _ c.in_ok-replay.ensures.first c.world.ensures c.in_ok-links.ensures.links

pub returns-clause-acks : goal.returns-clause-acks
returns-clause-acks c =
    opened_counted c.args.script.now c.in_ok-replay.replay (record c.in_ok-replay.replay { nodes = c.in_ok-links.field-0.appliers }) (returns-clause-first c) refl c.in_ok-replay.ensures.acks
