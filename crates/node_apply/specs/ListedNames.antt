-- Whether a name belongs to a list of what changed between two states, which look-ups at it tell: a list of names is what
-- passes among those that may have changed. That it is read off at these alone is this project's own.
use Rattle.std.specs.Prelude.{ℕ, Bool, true, false, not, List, [], ◌∷◌, ◌++◌, Option, Some, None, filter, is_some}
use Rattle.std.specs.Map.{keys_of}
use Rattle.meta_state.specs.declared.index_metadata.IndexMetadata.{IndexMetadata}
use Rattle.meta_state.specs.declared.node_info.NodeInfo.{NodeInfo}
use Rattle.plain_data.specs.Pairs.{lookup}
use Rattle.session_law.specs.Changes.{is_changed_index, is_same_index, is_same_value}

-- whether the value that is there, if any is, passes a test that is given what others have at the same key
abbrev pub passes : {V : Type 0} → (Option V → V → Bool) → Option V → Option V → Bool
passes test other None = false
passes test other (Some value) = test other value

-- an index whose name and identifier the others lack
abbrev pub is_lacking : Option IndexMetadata → Option IndexMetadata → Bool
is_lacking = passes (λ other index. not (is_same_index index other))

-- an index that has other contents under the same name and identifier
abbrev pub is_changed : Option IndexMetadata → Option IndexMetadata → Bool
is_changed = passes (λ other index. is_changed_index index other)

-- a node that the others don't have
abbrev pub is_unknown : Option NodeInfo → Option NodeInfo → Bool
is_unknown = passes (λ other node. not (is_some other))

-- a setting that was added, removed or changed
abbrev pub is_other_value : Option (List ℕ) → Option (List ℕ) → Bool
is_other_value old new = not (is_same_value old new)

-- the names at which what two maps have passes a test
abbrev pub names_at : {V : Type 0} → (Option V → Option V → Bool) → List (List ℕ × V) → List (List ℕ × V) → List (List ℕ × Unit {0}) → List (List ℕ)
names_at test others pairs names = filter (λ key. test (lookup key others) (lookup key pairs)) (keys_of names)

-- a list with a name at its end, where it is to be listed
abbrev pub listed : Bool → List ℕ → List (List ℕ) → List (List ℕ)
listed true name made = made ++ name ∷ []
listed false name made = made
