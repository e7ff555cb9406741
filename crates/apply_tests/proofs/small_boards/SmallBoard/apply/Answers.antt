use Rattle.std.proofs.Common.{rules}
use Rattle.apply_tests.proofs.Boards as board
use Rattle.apply_tests.proofs.small_boards.SmallBoard.apply.Goals as goal

pub shown-ended-requires-clause-words : goal.shown-ended-requires-clause-words
shown-ended-requires-clause-words c = board.words_for_next c.self.inside.states (record { registry = c.self.inside.registry; words = c.self.inside.words }) c.self.invariant c.len-count.ensures.well

pub invariant_of-self-2 : goal.invariant_of-self-2
invariant_of-self-2 c =
    board.shown_by c.self.inside.states c.push.new.self c.args.state.now (record { registry = c.self.inside.registry; words = c.self.inside.words })
    (record { registry = c.shown-ended.new.self; words = c.shown-ended.new.watches }) c.self.invariant c.len-count.ensures.well (Prim.search rules) c.shown-ended.ensures.board
