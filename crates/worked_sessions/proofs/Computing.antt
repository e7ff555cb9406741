-- Facts on numbers and predicates that are learnt by computing them.
use Rattle.std.specs.Prelude.{◌≡◌, ℕ, ◌==◌, ◌≤◌, Bool, true, false, List, [], ◌∷◌, flat_map, is_some, length}
use Rattle.std.proofs.Common.{sym, ap, ◌∙◌}
use Rattle.std.proofs.Math.Dec.{leb}
use Rattle.std.proofs.lemmas.Bool.{false≢true, le-leb}
use Rattle.std.specs.Cmp.{unsigned_Decides}
use Rattle.plain_data.specs.Pairs.{lookup}
use Rattle.meta_state.specs.declared.predicates.Pred.{fold-roll-Pred}
use Rattle.meta_state.specs.declared.predicates.Pred.TheOpen.{Pred-F}
use Rattle.meta_state.specs.declared.predicates.Pred.TheVariants.{Index, Setting, rolls-Index, rolls-Setting}
use Rattle.meta_state.specs.declared.cluster_state.ClusterState.{ClusterState}
use Rattle.meta_state.specs.Predicates.{is_met, is_value, met_step}
use Rattle.session_law.specs.declared.batches.BatchResult.{BatchResult}
use Rattle.session_law.specs.declared.batches.BatchResult.TheVariants as result
use Rattle.session_law.specs.declared.node_records.NodeRec.{NodeRec}
use Rattle.session_law.specs.NodeLines.{applied_versions}

-- what isn't so isn't asked
pub never : {A : Type 0} → false ≡ true → A
never e = absurd (false≢true e)

-- ---- numbers

-- one number isn't at most another
pub beyond : {A : Type 0} → (a b : ℕ) → leb a b ≡ false → a ≤ b → A
beyond a b e h = never (sym e ∙ le-leb a b h)

-- one number isn't another
pub unequal : {A : Type 0} → (a b : ℕ) → (a == b) ≡ false → a ≡ b → A
unequal a b e h = never (sym e ∙ (unsigned_Decides a b).1 h)

-- ---- predicates

pub met_index : (state : ClusterState) (name : List ℕ) → is_met state (Index name) ≡ is_some (lookup name state.metadata.indices)
unfolding is_met
met_index state name = ap (is_met state) (sym (rolls-Index name)) ∙ fold-roll-Pred Bool (met_step state) (Pred-F.Index name)

pub met_setting : (state : ClusterState) (key value : List ℕ) → is_met state (Setting key value) ≡ is_value value (lookup key state.metadata.settings)
unfolding is_met
met_setting state key value = ap (is_met state) (sym (rolls-Setting key value)) ∙ fold-roll-Pred Bool (met_step state) (Pred-F.Setting key value)

-- ---- what a changed part is told by

abbrev pub version_in : BatchResult → ℕ
version_in (result.Published version id commit diffs fulls accepted) = version
version_in _ = 0

abbrev pub id_in : BatchResult → ℕ
id_in (result.Published version id commit diffs fulls accepted) = id
id_in _ = 0

abbrev pub diffs_in : BatchResult → ℕ
diffs_in (result.Published version id commit diffs fulls accepted) = diffs
diffs_in _ = 0

-- how many versions some nodes applied
abbrev pub applied_in : List NodeRec → ℕ
applied_in records = length (flat_map applied_versions records)

-- the version with which the first of some nodes began
abbrev pub first_in : List NodeRec → ℕ
first_in [] = 0
first_in (record_of_node ∷ records) = record_of_node.first
