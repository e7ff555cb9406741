use Rattle.ack_words.proofs.Countings.{answer_counted}
use Rattle.ack_words.proofs.countdowns.Countdown.answered.Goals as goal

pub invariant_of-result : goal.invariant_of-result
invariant_of-result c = answer_counted c.self.inside.missing c.without.result c.self.inside.failures c.args.node c.self.invariant c.without.ensures
