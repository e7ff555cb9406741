use Rattle.std.proofs.Common.{◌≡◌, drop}
use Rattle.std.specs.List.{list_all}
use Rattle.executors.specs.Executions.{tasks_of}
use Rattle.executors.specs.Kinds.{accepts}
use Rattle.call_tests.proofs.executor_calls.are_taken.Given as goal

-- all are taken exactly where those that are left are
abbrev pub invariant-loop-context : goal.invariant-loop-context
invariant-loop-context l = list_all (accepts l.kind) (tasks_of (drop l.context-index l.contexts)) ≡ list_all (accepts l.kind) (tasks_of l.contexts)
