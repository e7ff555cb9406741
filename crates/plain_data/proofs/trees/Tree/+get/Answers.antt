use Rattle.plain_data.proofs.At.{get_left, get_middle, get_right}
use Rattle.plain_data.proofs.trees.Tree.+get.Goals as goal

pub returns-in-Less : goal.returns-in-Less
returns-in-Less g t c = get_left _ _ _ _ c.in-Some.ensures c.args.key.now _ (cc (c.cmp.ensures, c.in-Less.is, c.get-pair.ensures)) c.get.ensures

pub returns-in-Equal : goal.returns-in-Equal
returns-in-Equal g t c = get_middle _ _ _ _ c.in-Some.ensures c.args.key.now _ (cc (c.cmp.ensures, c.in-Equal.is, c.get-pair.ensures)) (cc (c.get-pair.ensures))

pub returns-in-Greater : goal.returns-in-Greater
returns-in-Greater g t c = get_right _ _ _ _ c.in-Some.ensures c.args.key.now _ (cc (c.cmp.ensures, c.in-Greater.is, c.get-pair.ensures)) c.get-in-Greater.ensures
