-- What a diff makes has the identifier that the diff leads to.
use Rattle.std.specs.Prelude.{◌≡◌, ◌==◌, ℕ, Bool, true, false, Some, None, refl, if◌then◌else◌}
use Rattle.std.proofs.Common.{sym, ap, ◌∙◌, arith}
use Rattle.std.proofs.lemmas.Bool.Decides.{nat_tests}
use Rattle.std.proofs.lemmas.Option.{same_Some}
use Rattle.meta_state.specs.declared.cluster_state.ClusterState.{ClusterState}
use Rattle.state_diff.specs.declared.state_diffs.DiffParts.{DiffParts}
use Rattle.state_diff.specs.StateDiffs.{applied, state_patched}

same_from : (a b : ℕ) → (a == b) ≡ true → a ≡ b
same_from a b e = grind (arith, nat_tests, e)

target_at : (d : DiffParts) (state patched made : ClusterState) (is_to is_from : Bool) → (state.id == d.to_id) ≡ is_to → patched.id ≡ d.to_id
    → (if is_to then Some state else (if is_from then Some patched else None)) ≡ Some made → made.id ≡ d.to_id
target_at d state patched made true is_from to id e = ap (λ (s : ClusterState). s.id) (sym (same_Some state made e)) ∙ same_from state.id d.to_id to
target_at d state patched made false true to id e = ap (λ (s : ClusterState). s.id) (sym (same_Some patched made e)) ∙ id
target_at d state patched made false false to id e = absurd cc

pub target_of : (d : DiffParts) (state made : ClusterState) → applied d state ≡ Some made → made.id ≡ d.to_id
target_of d state made e = target_at d state (state_patched d state) made (state.id == d.to_id) (state.id == d.from_id) refl refl e
