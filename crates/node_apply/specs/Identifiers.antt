-- The identifiers of indices, which tell an index from an earlier one of the same name. That an applier keeps them is this
-- project's own.
use Rattle.std.specs.Prelude.{ℕ, List, Option, map}
use Rattle.std.specs.Option.{option_map}
use Rattle.plain_data.specs.Pairs.{lookup}
use Rattle.meta_state.specs.declared.index_metadata.IndexMetadata.{IndexMetadata}

abbrev pub identifiers : List (List ℕ × IndexMetadata) → List (List ℕ × ℕ)
identifiers indices = map (λ p. (p.0, p.1.id)) indices

abbrev pub id_at : List (List ℕ × IndexMetadata) → List ℕ → Option ℕ
id_at indices name = option_map (λ index. index.id) (lookup name indices)
