use Rattle.executors.specs.Executions.{AreMarked, KeepsVersions, folded, ran_none, tasks_of}
use Rattle.executors.specs.Touching.{ChangesOnly, touched_by}
use Rattle.executors.proofs.Changes.{batch_change}
use Rattle.executors.proofs.Marks.{batch_marks}
use Rattle.executors.proofs.Settled.{atomic_holds, made_holds}
use Rattle.executors.proofs.kinds.KindExecutor.execute.Goals as goal

pub returns-then-fails_as_a_whole-clause-marks : goal.returns-then-fails_as_a_whole-clause-marks
returns-then-fails_as_a_whole-clause-marks c =
    let state = c.args.initial.now in
    let contexts = c.args.contexts.items in
    atomic_holds (AreMarked contexts) (λ _ _. tt) (folded (ran_none state) contexts) c.run_atomic.result c.run_atomic.ensures (batch_marks state contexts)

pub returns-clause-marks : goal.returns-clause-marks
returns-clause-marks c =
    let state = c.args.initial.now in
    let contexts = c.args.contexts.items in
    made_holds (AreMarked contexts) (folded (ran_none state) contexts) c.in_ok-ran.ran c.made.result c.in_ok-ran.ensures c.made.ensures (batch_marks state contexts)

pub returns-then-fails_as_a_whole-clause-versions : goal.returns-then-fails_as_a_whole-clause-versions
returns-then-fails_as_a_whole-clause-versions c =
    let state = c.args.initial.now in
    let contexts = c.args.contexts.items in
    atomic_holds (KeepsVersions state) (λ _ _. tt) (folded (ran_none state) contexts) c.run_atomic.result c.run_atomic.ensures (batch_change state contexts).versions

pub returns-clause-versions : goal.returns-clause-versions
returns-clause-versions c =
    let state = c.args.initial.now in
    let contexts = c.args.contexts.items in
    made_holds (KeepsVersions state) (folded (ran_none state) contexts) c.in_ok-ran.ran c.made.result c.in_ok-ran.ensures c.made.ensures (batch_change state contexts).versions

pub returns-then-fails_as_a_whole-clause-touches : goal.returns-then-fails_as_a_whole-clause-touches
returns-then-fails_as_a_whole-clause-touches c =
    let state = c.args.initial.now in
    let contexts = c.args.contexts.items in
    atomic_holds (ChangesOnly (touched_by (tasks_of contexts)) state) (λ _ _. tt) (folded (ran_none state) contexts) c.run_atomic.result c.run_atomic.ensures (batch_change state contexts).outside

pub returns-clause-touches : goal.returns-clause-touches
returns-clause-touches c =
    let state = c.args.initial.now in
    let contexts = c.args.contexts.items in
    made_holds (ChangesOnly (touched_by (tasks_of contexts)) state) (folded (ran_none state) contexts) c.in_ok-ran.ran c.made.result c.in_ok-ran.ensures c.made.ensures (batch_change state contexts).outside
