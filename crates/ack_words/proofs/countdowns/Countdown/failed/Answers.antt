use Rattle.std.proofs.Common.{◌∙◌, sym}
use Rattle.ack_words.proofs.Countings.{failure_counted}
use Rattle.ack_words.proofs.countdowns.Countdown.failed.Goals as goal

pub invariant_of-result-2 : goal.invariant_of-result-2
invariant_of-result-2 c =
    failure_counted c.self.inside.missing c.without.result c.self.inside.failures c.args.node c.self.invariant c.without.ensures (sym c.has.ensures.answer ∙ c.if-not-has.false)
