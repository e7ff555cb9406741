use Rattle.std.proofs.Common.{◌++◌, ◌∷◌, [], ◌∙◌, Some, ap, arith}
use Rattle.meta_state.specs.declared.cluster_state.ClusterState.{ClusterState}
use Rattle.session_law.specs.declared.node_records.Apply.{Apply}
use Rattle.node_apply.proofs.Tying.{tied_failed}
use Rattle.node_apply.proofs.node_appliers.NodeApplier.fail_next.Goals as goal

pub invariant_of-self-2 : goal.invariant_of-self-2
invariant_of-self-2 c = (
  tied_failed c.self.inside.applied _ c.self.inside.behind c.self.inside.commits c.self.inside.handed.items c.self.inside.applies.items c.self.invariant.0
      c.in-Some.commit c.take_first.new.self c.failed_line-line.result c.put.new.place c.put-2.new.place c.push_reserved.new.self.items c.in-Some.ensures
      (ap (λ (l : Apply). l.to) c.failed_line-line.ensures ∙ c.version-version.ensures.version)
      (c.put.ensures ∙ ap (λ (s : ClusterState). Some s) c.into_state.ensures)
      (c.put-2.ensures ∙ c.in_ok-behind.ensures)
      (c.push_reserved.ensures.items ∙ ap (λ l. l ++ c.failed_line-line.result ∷ []) c.in_ok-reserve.ensures.items),
  omega (arith, c.push_reserved.ensures.len, c.in_ok-reserve.ensures.len, c.self.invariant.1),
)
