-- The counters of an index that a look-up finds, where each index can rise.
use Rattle.std.specs.Prelude.{◌≡◌, ℕ, Bool, true, false, cond, List, [], ◌∷◌, Option, Some, None}
use Rattle.std.proofs.Common.{subst, sym}
use Rattle.std.specs.List.{AllByRecursion}
use Rattle.std.specs.BTreeMap as tree
use Rattle.std.specs.Map as entries
use Rattle.std.specs.Ordering.{nat_cmp}
use Rattle.std.specs.Cmp.Lexicographic.{slice_cmp}
use Rattle.plain_data.specs.Pairs.{lookup}
use Rattle.meta_state.specs.declared.index_metadata.IndexMetadata.{IndexMetadata}
use Rattle.executors.specs.Executions.{CanIndexRise}

-- a fact of what was found, if anything was
abbrev pub FoundAll : {V : Type 0} → (V → Type 0) → Option V → Type 0
FoundAll Q None = Unit {0}
FoundAll Q (Some v) = Q v

-- what holds of each value holds of the one that a look-up finds
found_by : {V : Type 0} (Q : V → Type 0) (v : V) (rest : Option V) (b : Bool) → Q v → FoundAll Q rest → FoundAll Q (cond b (Some v) rest)
found_by Q v rest true q later = q
found_by Q v rest false q later = later

pub found_in : {K V : Type 0} (Q : V → Type 0) (test : K → Bool) (es : List (K × V)) → AllByRecursion (λ p. Q p.1) es → FoundAll Q (entries.lookup test es)
found_in Q test [] all = tt
found_in Q test (e ∷ es) all = found_by Q e.1 (entries.lookup test es) (test e.0) all.0 (found_in Q test es all.1)

-- an index that is found can rise where each index can
pub index_can_rise : (name : List ℕ) (index : IndexMetadata) (indices : List (List ℕ × IndexMetadata))
    → AllByRecursion (λ p. CanIndexRise p.1) indices → Some index ≡ lookup name indices → CanIndexRise index
index_can_rise name index indices all e =
    subst (λ (o : Option IndexMetadata). FoundAll CanIndexRise o) (sym e) (found_in CanIndexRise (tree.is_at (slice_cmp nat_cmp name)) indices all)
