use Rattle.std.proofs.Common.{◌∙◌, ap, arith, subst, sym}
use Rattle.std.specs.List.{AllZip}
use Rattle.std.proofs.lemmas.Result.{on_ok_weaker}
use Rattle.master_run.specs.declared.replays.Replay.{Replay}
use Rattle.master_run.specs.Books.{last_stepped}
use Rattle.master_run.specs.Passing.{CanPass, meanings_of, passed_each}
use Rattle.master_run.proofs.PassedOn.{can_pass_told, handed_told, links_stay, nodes_stay, passed_if, used_still, written_back}
use Rattle.master_run.proofs.replays.Replay.run_batch.Goals as goal

pub pass_all-requires : goal.pass_all-requires
pass_all-requires c =
    let mine = c.deref_mut.ensures.value ∙ ap (λ (r : Replay). r.nodes.items) c.in_ok-add_batch.ensures.added in
    subst (λ have. AllZip CanPass c.add_batch.new.links have) (sym mine)
    (can_pass_told c.args.script.now (last_stepped c.add_batch.new.self.book) c.args.links.now c.add_batch.new.links c.args.self.now.nodes.items c.in_ok-add_batch.ensures.told c.requires.passed)

pub returns-clause-handed : goal.returns-clause-handed
returns-clause-handed c =
    let mine = c.deref_mut.ensures.value ∙ ap (λ (r : Replay). r.nodes.items) c.in_ok-add_batch.ensures.added in
    let back = written_back c.add_batch.new.self.nodes.len c.pass_all.new.nodes c.add_batch.new.self.nodes.items (omega arith) in
    on_ok_weaker c.pass_all.result
    (λ e. handed_told c.args.script.now (last_stepped c.add_batch.new.self.book) c.args.links.now c.add_batch.new.links c.args.self.now.nodes.items _ c.in_ok-add_batch.ensures.told c.requires.passed
    (back ∙ e ∙ ap (passed_each c.add_batch.new.links) mine)) c.pass_all.ensures.nodes

pub returns-clause-nodes : goal.returns-clause-nodes
returns-clause-nodes c =
    let mine = c.deref_mut.ensures.value ∙ ap (λ (r : Replay). r.nodes.items) c.in_ok-add_batch.ensures.added in
    let back = written_back c.add_batch.new.self.nodes.len c.pass_all.new.nodes c.add_batch.new.self.nodes.items (omega arith) in
    let can =
    can_pass_told c.args.script.now (last_stepped c.add_batch.new.self.book) c.args.links.now c.add_batch.new.links c.args.self.now.nodes.items c.in_ok-add_batch.ensures.told c.requires.passed in
    on_ok_weaker c.pass_all.result
    (λ e. nodes_stay c.args.script.now c.add_batch.new.links c.args.self.now.nodes.items _ can c.requires.nodes (back ∙ e ∙ ap (passed_each c.add_batch.new.links) mine)) c.pass_all.ensures.nodes

pub returns-clause-links : goal.returns-clause-links
returns-clause-links c =
    on_ok_weaker c.pass_all.result
    (λ e. links_stay c.args.script.now.nodes c.add_batch.new.self.book.world c.add_batch.new.links c.pass_all.new.links c.in_ok-add_batch.ensures.links e) c.pass_all.ensures.links

pub returns-clause-used : goal.returns-clause-used
returns-clause-used c =
    on_ok_weaker c.pass_all.result (λ e. used_still (meanings_of c.args.links.now) c.add_batch.new.links c.pass_all.new.links c.in_ok-add_batch.ensures.used e) c.pass_all.ensures.links

pub returns-clause-passed : goal.returns-clause-passed
returns-clause-passed c =
    let mine = c.deref_mut.ensures.value ∙ ap (λ (r : Replay). r.nodes.items) c.in_ok-add_batch.ensures.added in
    let back = written_back c.add_batch.new.self.nodes.len c.pass_all.new.nodes c.add_batch.new.self.nodes.items (omega arith) in
    let can =
    can_pass_told c.args.script.now (last_stepped c.add_batch.new.self.book) c.args.links.now c.add_batch.new.links c.args.self.now.nodes.items c.in_ok-add_batch.ensures.told c.requires.passed in
    passed_if c.pass_all.result c.add_batch.new.links c.pass_all.new.links c.args.self.now.nodes.items _ can c.pass_all.ensures.links
    (on_ok_weaker c.pass_all.result (λ e. back ∙ e ∙ ap (passed_each c.add_batch.new.links) mine) c.pass_all.ensures.nodes)
