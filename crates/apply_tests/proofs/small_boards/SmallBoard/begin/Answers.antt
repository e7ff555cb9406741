use Rattle.std.proofs.Common.{rules}
use Rattle.apply_tests.proofs.Boards as board
use Rattle.apply_tests.proofs.small_boards.SmallBoard.begin.Goals as goal

pub invariant_of-self : goal.invariant_of-self
invariant_of-self c =
    board.armed_by c.self.inside.states c.self.inside.registry c.self.inside.words c.arm.new.self (board.step_of c.args.step) 9 c.self.invariant
    (board.four_within c.self.inside.words c.args.step c.self.invariant.four (Prim.search rules)) (Prim.search rules) (Prim.search rules)
