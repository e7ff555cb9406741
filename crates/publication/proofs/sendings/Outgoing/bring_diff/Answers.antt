use Rattle.publication.proofs.Sending.{diff_left, diff_not_for, holds_by_diff, messages_of, on_err}
use Rattle.publication.proofs.sendings.Outgoing.bring_diff.Goals as goal

pub bring_full-requires : goal.bring_full-requires
bring_full-requires g c =
    let are = messages_of c.args.self.now _ c.self.inside.diff c.self.inside.full c.self.view_is c.self.invariant in
    let offered = rw c.in-Refused.is at c.in_ok-ask.ensures.offered in
    diff_not_for _ _ _ _ _ are c.requires.takes c.requires.there offered

pub returns-in-Accepted-clause-brought : goal.returns-in-Accepted-clause-brought
returns-in-Accepted-clause-brought g c =
    let are = messages_of c.args.self.now _ c.self.inside.diff c.self.inside.full c.self.view_is c.self.invariant in
    let offered = rw c.in-Accepted.is at c.in_ok-ask.ensures.offered in
    holds_by_diff _ _ _ _ _ are c.requires.takes c.requires.there offered

pub returns-in_err-ask-clause-out_of_memory : goal.returns-in_err-ask-clause-out_of_memory
returns-in_err-ask-clause-out_of_memory g c =
    let are = messages_of c.args.self.now _ c.self.inside.diff c.self.inside.full c.self.view_is c.self.invariant in
    on_err _ (diff_left _ _ _ _ _ are c.requires.takes c.in_err-ask.ensures.out_of_memory)
