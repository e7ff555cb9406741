use Rattle.publication.proofs.Sending.{full_is_taken, full_left, holds_in_full, messages_of, on_err}
use Rattle.publication.proofs.sendings.Outgoing.bring_full.Goals as goal

pub unreachable-requires : goal.unreachable-requires
unreachable-requires g c =
    let are = messages_of c.args.self.now _ c.self.inside.diff c.self.inside.full c.self.view_is c.self.invariant in
    let offered = rw c.in-Refused.is at c.in_ok-ask.ensures.offered in
    full_is_taken _ _ _ _ _ are offered

pub returns-in-Accepted-clause-brought : goal.returns-in-Accepted-clause-brought
returns-in-Accepted-clause-brought g c =
    let are = messages_of c.args.self.now _ c.self.inside.diff c.self.inside.full c.self.view_is c.self.invariant in
    let offered = rw c.in-Accepted.is at c.in_ok-ask.ensures.offered in
    holds_in_full _ _ _ _ _ are c.requires offered

pub returns-in_err-ask-clause-out_of_memory : goal.returns-in_err-ask-clause-out_of_memory
returns-in_err-ask-clause-out_of_memory g c =
    let are = messages_of c.args.self.now _ c.self.inside.diff c.self.inside.full c.self.view_is c.self.invariant in
    on_err _ (full_left _ _ _ _ _ are c.in_err-ask.ensures.out_of_memory)
