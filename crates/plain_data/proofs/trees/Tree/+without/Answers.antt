use Rattle.plain_data.proofs.At.{without_left, without_middle, without_right}
use Rattle.plain_data.proofs.trees.Tree.+without.Goals as goal

pub returns-in_ok-share-in-Less-2 : goal.returns-in_ok-share-in-Less-2
returns-in_ok-share-in-Less-2 g t c =
    without_left _ _ _ _ c.in-Some.ensures c.args.key.now _ _ _ _ (cc (c.cmp.ensures, c.in-Less.is, c.get.ensures))
    c.in_ok-left-in-Less.ensures c.in_ok-share-in-Less.ensures c.in_ok-share-in-Less-2.ensures c.balance.ensures

pub returns-in-Equal : goal.returns-in-Equal
returns-in-Equal g t c = without_middle _ _ _ _ c.in-Some.ensures c.args.key.now _ (cc (c.cmp.ensures, c.in-Equal.is, c.get.ensures)) c.joined.ensures

pub returns-in_ok-share-in-Greater-2 : goal.returns-in_ok-share-in-Greater-2
returns-in_ok-share-in-Greater-2 g t c =
    without_right _ _ _ _ c.in-Some.ensures c.args.key.now _ _ _ _ (cc (c.cmp.ensures, c.in-Greater.is, c.get.ensures))
    c.in_ok-right-in-Greater.ensures c.in_ok-share-in-Greater.ensures c.in_ok-share-in-Greater-2.ensures c.balance-in-Greater-2.ensures
