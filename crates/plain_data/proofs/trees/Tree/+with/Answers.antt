use Rattle.plain_data.proofs.At.{with_left, with_middle, with_right}
use Rattle.plain_data.proofs.trees.Tree.+with.Goals as goal

pub returns-in_ok-share-in-Less-2 : goal.returns-in_ok-share-in-Less-2
returns-in_ok-share-in-Less-2 g t c =
    with_left _ _ _ _ c.in-Some.ensures c.args.pair.0 _ _ _ _ c.args.pair.1 (cc (c.cmp.ensures, c.in-Less.is, c.get.ensures, c.get-in-Some.ensures))
    c.in_ok-left-in-Less.ensures c.in_ok-share-in-Less.ensures c.in_ok-share-in-Less-2.ensures c.balance.ensures

pub returns-in_ok-share-in-Equal-2 : goal.returns-in_ok-share-in-Equal-2
returns-in_ok-share-in-Equal-2 g t c =
    with_middle _ _ _ _ c.in-Some.ensures c.args.pair.0 _ _ _ _ c.args.pair.1 (cc (c.cmp.ensures, c.in-Equal.is, c.get.ensures, c.get-in-Some.ensures))
    c.in_ok-share-in-Equal.ensures c.pair.view_is c.in_ok-share-in-Equal-2.ensures c.fork-in-Equal-2.ensures

pub returns-in_ok-share-in-Greater-2 : goal.returns-in_ok-share-in-Greater-2
returns-in_ok-share-in-Greater-2 g t c =
    with_right _ _ _ _ c.in-Some.ensures c.args.pair.0 _ _ _ _ c.args.pair.1 (cc (c.cmp.ensures, c.in-Greater.is, c.get.ensures, c.get-in-Some.ensures))
    c.in_ok-right-in-Greater.ensures c.in_ok-share-in-Greater.ensures c.in_ok-share-in-Greater-2.ensures c.balance-in-Greater-2.ensures
