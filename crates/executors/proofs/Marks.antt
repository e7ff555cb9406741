-- A batch has one mark for each of its tasks, in their order.
use Rattle.std.specs.Prelude.{◌≡◌, ℕ, List, [], ◌∷◌, ◌++◌, map}
use Rattle.std.proofs.Common.{◌∙◌, sym, ap, append_assoc}
use Rattle.std.proofs.lemmas.List.{append-nil, map-append}
use Rattle.meta_state.specs.declared.cluster_state.ClusterState.{ClusterState}
use Rattle.executors.specs.declared.folds.Ran.{Ran}
use Rattle.executors.specs.declared.contexts.Mark.{Mark}
use Rattle.executors.specs.declared.contexts.TaskContext.{TaskContext}
use Rattle.executors.specs.Contexts.{marked}
use Rattle.executors.specs.Executions.{folded, ran_none, ran_more}
use Rattle.executors.specs.TaskRuns.{task_outcome}

abbrev pub places : List Mark → List ℕ
places marks = map (λ m. m.position) marks

abbrev pub places_of : List TaskContext → List ℕ
places_of contexts = map (λ c. c.position) contexts

folded_marks : (ran : Ran) (contexts : List TaskContext) → places (folded ran contexts).marks ≡ places ran.marks ++ places_of contexts
unfolding folded
folded_marks ran [] = sym (append-nil (places ran.marks))
folded_marks ran (context ∷ contexts) =
    folded_marks (ran_more ran context) contexts
    ∙ ap (λ l. l ++ places_of contexts) (map-append (λ (m : Mark). m.position) ran.marks (marked context.position (task_outcome ran.state context.task).1 ∷ []))
    ∙ append_assoc (places ran.marks) (context.position ∷ []) (places_of contexts)

-- what all tasks of a batch leave
pub batch_marks : (state : ClusterState) (contexts : List TaskContext) → places (folded (ran_none state) contexts).marks ≡ places_of contexts
batch_marks state contexts = folded_marks (ran_none state) contexts
