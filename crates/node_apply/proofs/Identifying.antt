-- The identifiers of indices: made by a walk over all, and by a walk over those that may have changed.
use Rattle.std.proofs.Common.{◌≡◌, ℕ, List, [], sym, ◌∙◌, ap, subst}
use Rattle.std.specs.Option.{option_map}
use Rattle.std.specs.Ordering.{nat_cmp}
use Rattle.std.specs.BTreeMap.{is_at}
use Rattle.std.specs.List.Sorted.{IsStrictlySortedBy}
use Rattle.std.specs.Cmp.Lexicographic.{slice_cmp}
use Rattle.std.proofs.lemmas.Map.Made.{lookup-map_values, keys_of-map_values}
use Rattle.plain_data.specs.Agreements.{AgreeOutside, with_all}
use Rattle.plain_data.specs.Pairs.{lookup, InOrder}
use Rattle.plain_data.proofs.Agreements.{with_all_of_none}
use Rattle.meta_state.specs.declared.index_metadata.IndexMetadata.{IndexMetadata}
use Rattle.node_apply.specs.Identifiers.{id_at, identifiers}
use Rattle.node_apply.specs.Updated.{updated}
use Rattle.node_apply.proofs.Updating.{updated_is}

lookup-identifiers : (q : List ℕ) (indices : List (List ℕ × IndexMetadata)) → lookup q (identifiers indices) ≡ id_at indices q
lookup-identifiers q indices = lookup-map_values (λ (index : IndexMetadata). index.id) (is_at (slice_cmp nat_cmp q)) indices

in_order_identifiers : (indices : List (List ℕ × IndexMetadata)) → InOrder indices → InOrder (identifiers indices)
in_order_identifiers indices s = subst (IsStrictlySortedBy (slice_cmp nat_cmp)) (sym (keys_of-map_values (λ (index : IndexMetadata). index.id) indices)) s

pub all_identifiers : (indices : List (List ℕ × IndexMetadata)) → InOrder indices → with_all (identifiers indices) [] ≡ identifiers indices
all_identifiers indices s = with_all_of_none (identifiers indices) (in_order_identifiers indices s)

pub updated_identifiers : (before : List (List ℕ × ℕ)) (names : List (List ℕ × Unit {0})) (old new : List (List ℕ × IndexMetadata)) → before ≡ identifiers old → InOrder old → InOrder new
    → AgreeOutside names old new → updated (id_at new) names before ≡ identifiers new
updated_identifiers before names old new e s t agree =
    ap (updated (id_at new) names) e
    ∙ updated_is (id_at new) names (identifiers old) (identifiers new) (in_order_identifiers old s) (in_order_identifiers new t)
    (λ q. sym (lookup-identifiers q new))
    (λ q none. lookup-identifiers q old ∙ (ap (option_map (λ (index : IndexMetadata). index.id)) (agree q none) ∙ sym (lookup-identifiers q new)))
