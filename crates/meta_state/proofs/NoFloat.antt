-- The data of a state have no float, so that their text is the compact one.
use Rattle.std.specs.Prelude.{◌≡◌, ℕ, Bool, true, false, ◌||◌, List, [], ◌∷◌, map, refl}
use Rattle.std.specs.Ordering.{nat_cmp, match_ordering}
use Rattle.std.specs.declared.cmp.Ordering.{Ordering}
use Rattle.std.specs.declared.cmp.Ordering.TheVariants.{Less, Equal, Greater}
use Rattle.std.specs.Cmp.Lexicographic.{slice_cmp}
use Rattle.serde_json.specs.Data.{Data, string, Members, no_members, member, put}
use Rattle.serde_json.specs.View.{items_of}
use Rattle.serde_json.specs.Written.{has_float, items_have_float, members_have_float}
use Rattle.meta_state.specs.declared.node_info.NodeInfo.{NodeInfo}
use Rattle.meta_state.specs.declared.index_metadata.IndexMetadata.{IndexMetadata}
use Rattle.meta_state.specs.declared.cluster_metadata.Metadata.{Metadata}
use Rattle.meta_state.specs.declared.cluster_state.ClusterState.{ClusterState}
use Rattle.meta_state.specs.Json.{with_members, node_data, index_data, metadata_data, state_data}

-- both halves of a disjunction that is false
left_false : (a b : Bool) → (a || b) ≡ false → a ≡ false
left_false false b e = refl
left_false true b e = e

right_false : (a b : Bool) → (a || b) ≡ false → b ≡ false
right_false false b e = e
right_false true false e = refl
right_false true true e = e

pub both_false : (a b : Bool) → a ≡ false → b ≡ false → (a || b) ≡ false
both_false a b p q = λ i. p i || q i

by_order : (k : List ℕ) (d : Data) (l : List ℕ) (e : Data) (ms : Members) → has_float d ≡ false → members_have_float (member l e ms) ≡ false
    → members_have_float ms ≡ false → members_have_float (put k d ms) ≡ false
    → (o : Ordering) → members_have_float (match_ordering o (member k d (member l e ms)) (member l d ms) (member l e (put k d ms))) ≡ false
by_order k d l e ms p q rest more Less = both_false _ _ p q
by_order k d l e ms p q rest more Equal = both_false _ _ p rest
by_order k d l e ms p q rest more Greater = both_false _ _ (left_false (has_float e) (members_have_float ms) q) more

-- a member put into an object without floats
put_has_no_float : (k : List ℕ) (d : Data) (ms : Members) → has_float d ≡ false → members_have_float ms ≡ false → members_have_float (put k d ms) ≡ false
put_has_no_float k d no_members p q = both_false _ _ p refl
put_has_no_float k d (member l e ms) p q =
    let rest = right_false (has_float e) (members_have_float ms) q in
    by_order k d l e ms p q rest (put_has_no_float k d ms p rest) (slice_cmp nat_cmp k l)

pub with_members_has_no_float : {V : Type 0} (data_of : V → Data) → ((v : V) → has_float (data_of v) ≡ false)
    → (pairs : List (List ℕ × V)) (ms : Members) → members_have_float ms ≡ false → members_have_float (with_members data_of pairs ms) ≡ false
with_members_has_no_float data_of each [] ms q = q
with_members_has_no_float data_of each (p ∷ ps) ms q = with_members_has_no_float data_of each ps (put p.0 (data_of p.1) ms) (put_has_no_float p.0 (data_of p.1) ms (each p.1) q)

names_have_no_float : (names : List (List ℕ × Unit {0})) → items_have_float (items_of (map (λ p. string p.0) names)) ≡ false
names_have_no_float [] = refl
names_have_no_float (n ∷ ns) = names_have_no_float ns

node_has_no_float : (node : NodeInfo) → has_float (node_data node) ≡ false
unfolding node_data
node_has_no_float node = refl

index_has_no_float : (index : IndexMetadata) → has_float (index_data index) ≡ false
unfolding index_data
index_has_no_float index = both_false _ _ (names_have_no_float index.aliases) refl

metadata_has_no_float : (metadata : Metadata) → has_float (metadata_data metadata) ≡ false
unfolding metadata_data
metadata_has_no_float metadata =
    both_false _ _ (with_members_has_no_float index_data index_has_no_float metadata.indices no_members refl)
    (both_false _ _ (with_members_has_no_float string (λ _. refl) metadata.settings no_members refl) refl)

pub state_has_no_float : (state : ClusterState) → has_float (state_data state) ≡ false
unfolding state_data
state_has_no_float state =
    both_false _ _ (metadata_has_no_float state.metadata)
    (both_false _ _ (with_members_has_no_float node_data node_has_no_float state.nodes no_members refl) refl)
