use Rattle.std.proofs.Common.{arith, length}
use Rattle.observers.specs.Registries.{Board, board_of}
use Rattle.observers.proofs.Showing.{board-step, next-step, rising-step, words-step}
use Rattle.observers.proofs.plain_registries.show_each.Goals as goal

pub loop-number-preserved : goal.loop-number-preserved
loop-number-preserved c =
    let far = c.loop-number.invariant in
    let within = c.loop-number-test.true in
    let one = c.show_one.ensures in
    let i = c.loop-number.number-index in
    let before : Board = board_of c.loop-number.watchings c.loop-number.kept.items c.loop-number.watches in
    let after : Board = board_of c.show_one.new.watchings c.show_one.new.kept.items c.show_one.new.watches in
    record {
      board = board-step c.args.node c.args.state.now c.args.place (length c.args.watchings.now) c.args.numbers.now i within before after one.board far.rising _ far.board;
      next = next-step c.args.node c.args.state.now c.args.place (length c.args.watchings.now) c.args.numbers.now i within before after one.board far.rising far.next;
      words = words-step c.args.node c.args.state.now c.args.place (length c.args.watchings.now) c.args.numbers.now i within before after one.board far.rising far.words;
      rising = rising-step c.args.node c.args.state.now c.args.place (length c.args.watchings.now) c.args.numbers.now i within before after one.board far.rising;
      few = omega (arith, far.few, one.few);
      capacity = omega (arith, far.capacity, one.capacity);
    }
