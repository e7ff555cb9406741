use Rattle.std.proofs.Common.{sym, ◌∙◌, arith}
use Rattle.std.proofs.lemmas.List.{nil_from_length}
use Rattle.executors.proofs.Fold.{under_way_first, under_way_rises, under_way_next, under_way_last}
use Rattle.executors.proofs.folds.run_all.Goals as goal

pub loop-context-init : goal.loop-context-init
loop-context-init c =
    under_way_first _ _ _ _ _ c.start-ran.result c.requires c.into_iter-left.ensures.rest c.into_iter-left.ensures.len c.start-ran.ensures

pub run_context-ran-requires : goal.run_context-ran-requires
run_context-ran-requires c =
    under_way_rises _ _ _ _ _ _ c.loop-context.ran (let within = c.args.contexts.ok.1 in let small = c.args.contexts.small in omega arith) c.in-Some.ensures.cases.1 c.loop-context.invariant

pub loop-context-preserved : goal.loop-context-preserved
loop-context-preserved c =
    under_way_next _ _ _ c.in-Some.context _ _ _ _ c.loop-context.ran _ c.in-Some.ensures.cases.0 c.in-Some.ensures.cases.1 c.loop-context.invariant c.run_context-ran.ensures

pub returns : goal.returns
returns c =
    under_way_last _ _ _ _ _ c.loop-context.ran (nil_from_length _ (sym c.loop-context.left.rest.ok.0 ∙ c.in_default.ensures.cases.0)) c.loop-context.invariant
