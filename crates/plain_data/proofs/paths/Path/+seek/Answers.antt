use Rattle.std.proofs.Common.{arith}
use Rattle.plain_data.specs.Walks.{waiting, ahead}
use Rattle.plain_data.proofs.Walks.{seek_left, seek_right}
use Rattle.plain_data.proofs.paths.Path.+seek.Goals as goal

pub returns-then-rank-before : goal.returns-then-rank-before
returns-then-rank-before g t c =
    seek_left c.seek.result (λ node. ahead node.now c.seek.new.self) c.args.tree.now _ _ _ (waiting c.args.self.now) c.in-Some.ensures c.args.rank c.len-before.result c.len-before.ensures _ c.if-rank-before.true c.push.ensures c.seek.ensures

pub returns-else-rank-before-2 : goal.returns-else-rank-before-2
returns-else-rank-before-2 g t c =
    seek_right c.seek-else-rank-before-2.result (λ node. ahead node.now c.seek-else-rank-before-2.new.self) c.args.tree.now _ _ _ (waiting c.args.self.now) c.in-Some.ensures c.args.rank c.len-before.result c.len-before.ensures (omega arith) c.seek-else-rank-before-2.ensures
