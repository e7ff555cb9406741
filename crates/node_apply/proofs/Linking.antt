-- Commits that each tell what changed since the one before: what may have changed over several of them.
use Rattle.std.proofs.Common.{◌≡◌, List, [], ◌∷◌, ◌++◌, Some, None, Option, refl, sym, subst, ap, ◌∙◌}
use Rattle.meta_state.specs.declared.cluster_state.ClusterState.{ClusterState}
use Rattle.meta_state.specs.declared.touches.Touched.{Touched}
use Rattle.meta_state.specs.Touches.{AgreeOutside}
use Rattle.meta_state.proofs.Agreeing.{states_agree_outside_both}
use Rattle.node_apply.specs.Commits.{AreLinked, HandedCommit, MayDiffer, either_touched, first_unknown, last_state}

-- over two steps
pub differ_by_either : (first then : Option Touched) (before : Option ClusterState) (state after : ClusterState) → MayDiffer first before state → MayDiffer then (Some state) after
    → MayDiffer (either_touched first then) before after
differ_by_either None then before state after p q = tt
differ_by_either (Some first) None before state after p q = tt
differ_by_either (Some first) (Some then) None state after p q = p
differ_by_either (Some first) (Some then) (Some before) state after p q = states_agree_outside_both first then before state after p q

-- the same, where the one that is told is known
pub agree_by_either : (first then : Option Touched) (touched : Touched) (before state after : ClusterState) → either_touched first then ≡ Some touched
    → MayDiffer first (Some before) state → MayDiffer then (Some state) after → AgreeOutside touched before after
agree_by_either first then touched before state after e p q =
    subst (λ (o : Option Touched). MayDiffer o (Some before) after) e (differ_by_either first then (Some before) state after p q)

-- commits after others
pub linked_on : (before : Option ClusterState) (commits more : List HandedCommit) → AreLinked before commits → AreLinked (last_state before commits) more → AreLinked before (commits ++ more)
linked_on before [] more p q = q
linked_on before (c ∷ cs) more p q = (p.0, linked_on (Some c.state) cs more p.1 q)

pub last_on : (before : Option ClusterState) (commits : List HandedCommit) (commit : HandedCommit) → last_state before (commits ++ commit ∷ []) ≡ Some commit.state
last_on before [] commit = refl
last_on before (c ∷ cs) commit = last_on (Some c.state) cs commit

pub last_of_all : (before : Option ClusterState) (commits rest : List HandedCommit) (commit : HandedCommit) (state : ClusterState) → commits ≡ rest ++ commit ∷ [] → state ≡ commit.state
    → Some state ≡ last_state before commits
last_of_all before commits rest commit state e is = ap (λ (s : ClusterState). Some s) is ∙ (sym (last_on before rest commit) ∙ ap (last_state before) (sym e))

-- where the first doesn't tell, any state may have been before it
pub linked_unknown : (before other : Option ClusterState) (commits : List HandedCommit) → AreLinked before commits → AreLinked other (first_unknown commits)
linked_unknown before other [] p = tt
linked_unknown before other (c ∷ cs) p = (tt, p.1)
