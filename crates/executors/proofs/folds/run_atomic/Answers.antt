use Rattle.std.proofs.Common.{sym, ◌∙◌, arith}
use Rattle.std.proofs.lemmas.List.{nil_from_length}
use Rattle.executors.proofs.Atomic.{attempt_first, attempt_rises, attempt_next, attempt_last}
use Rattle.executors.proofs.folds.run_atomic.Goals as goal

pub loop-context-init : goal.loop-context-init
loop-context-init c =
    attempt_first _ _ _ _ _ c.begin-made.result c.requires c.into_iter-left.ensures.rest c.into_iter-left.ensures.len c.begin-made.ensures

pub attempt-made-requires : goal.attempt-made-requires
attempt-made-requires c =
    attempt_rises _ _ _ _ _ _ c.loop-context.made (let within = c.args.contexts.ok.1 in let small = c.args.contexts.small in omega arith) c.in-Some.ensures.cases.1 c.loop-context.invariant

pub loop-context-preserved : goal.loop-context-preserved
loop-context-preserved c =
    attempt_next _ _ _ c.in-Some.context _ _ _ _ c.loop-context.made _ c.in-Some.ensures.cases.0 c.in-Some.ensures.cases.1 c.loop-context.invariant c.attempt-made.ensures

pub returns : goal.returns
returns c =
    attempt_last _ _ _ _ _ c.loop-context.made (nil_from_length _ (sym c.loop-context.left.rest.ok.0 ∙ c.in_default.ensures.cases.0)) c.loop-context.invariant
