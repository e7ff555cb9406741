use Rattle.std.specs.Cmp.{unsigned_Decides}
use Rattle.std.proofs.Common.{◌∙◌, map}
use Rattle.std.proofs.lemmas.Result.{on_ok_weaker}
use Rattle.master_run.proofs.Linking.{rebooked_over_links}
use Rattle.master_run.proofs.Telling.{told_if}
use Rattle.master_run.proofs.replays.Replay.add_batch.Goals as goal

pub returns-clause-added : goal.returns-clause-added
returns-clause-added g c =
    on_ok_weaker c.add.result
    (rebooked_over_links c.args.script.now c.args.number c.args.entries.items _ (map g.L.Link.meaning c.args.links.now) (map g.L.Link.meaning c.add.new.links)
    c.args.self.now c.add.new.self c.requires.script c.requires.over (λ read h. (unsigned_Decides read c.new-clock.result).0 h ∙ c.new-clock.ensures)) c.add.ensures.added

pub returns-clause-told : goal.returns-clause-told
returns-clause-told g c =
    told_if c.add.result c.args.script.now c.args.number c.args.entries.items c.args.self.now.clock _ (map g.L.Link.meaning c.args.links.now)
    (map g.L.Link.meaning c.add.new.links) c.args.self.now.book c.add.new.self c.requires.script c.requires.over.faults c.requires.over.of c.requires.over.sure c.add.ensures.added c.add.ensures.links
