use Rattle.std.proofs.Common.{◌≡◌, ◌<◌, ◌∙◌, ap, length, subst, sym}
use Rattle.ack_words.specs.declared.words.AckWord.{AckWord}
use Rattle.ack_words.specs.Acks.{with_word}
use Rattle.ack_words.specs.Countdowns.{begun}
use Rattle.master_run.specs.AckBooks.{AckBook, begun_at}
use Rattle.master_run.proofs.AckBooking.{begun_book, begun_is, begun_words}
use Rattle.master_run.proofs.acknowledgements.Acknowledgements.begin.Goals as goal

within : (c : goal.After-committed) → c.args.number < length c.self.inside.words.words
within c = subst (λ (b : AckBook). c.args.number < length b.words.words) (sym c.self.view_is) c.requires.number

words_are : (c : goal.After-committed)
    → c.committed.new.self ≡ with_word c.args.number (AckWord.Counting c.deadline_of.result (begun c.args.version c.args.must c.is_late.result)) c.self.inside.words
words_are c =
    begun_words c.self.inside.words c.start.new.self c.committed.new.self c.args.number c.args.version c.deadline_of.result c.args.must c.is_late.result (within c) c.start.ensures
    c.committed.ensures

pub invariant_of-self-2 : goal.invariant_of-self-2
invariant_of-self-2 c =
    begun_book _ c.args.number _ c.committed.new.self c.push.new.self.items c.self.invariant (within c) (words_are c) c.in_ok-push.ensures.items

pub returns : goal.returns
returns c =
    begun_is _ c.args.number c.args.version c.deadline_of.result c.args.must c.is_late.result c.args.times c.args.timeout c.committed.new.self c.push.new.self.items (words_are c)
    c.in_ok-push.ensures.items c.deadline_of.ensures c.is_late.ensures
    ∙ ap (begun_at c.args.number c.args.version c.args.must c.args.times c.args.timeout) c.self.view_is
