-- The lists of aliases: made anew at the aliases of the indices that may have changed, they are those of the new indices.
use Rattle.std.proofs.Common.{◌≡◌, ℕ, Bool, true, false, cond, List, [], ◌∷◌, ◌++◌, Some, None, Option, refl, sym, ◌∙◌, ap, subst}
use Rattle.std.specs.Option.{is_some, unwrap_or}
use Rattle.std.specs.Ordering.{nat_cmp}
use Rattle.std.specs.BTreeMap.{is_at}
use Rattle.std.specs.List.{filter}
use Rattle.std.specs.List.Sorted.{IsStrictlySortedBy}
use Rattle.std.specs.Cmp.Lexicographic.{slice_cmp}
use Rattle.std.proofs.lemmas.Cmp.{nat_list_cmp_total, eq_by_cmp_equiv}
use Rattle.std.proofs.lemmas.Map.{lookup-none}
use Rattle.std.proofs.lemmas.Map.Entries.{option_filter, none_past_head}
use Rattle.std.proofs.lemmas.Map.Keys.{IsDistinct-from_sorted}
use Rattle.plain_data.specs.Agreements.{AgreeOutside, with_all}
use Rattle.plain_data.specs.Pairs.{lookup, InOrder}
use Rattle.plain_data.proofs.Agreements.{none_from_with_all}
use Rattle.plain_data.proofs.At.{in_order_empty, in_order_with}
use Rattle.plain_data.proofs.Lookups.{is_key, same_from_key, same_keys, in_order_filtered, lookup-filtered}
use Rattle.meta_state.specs.declared.cluster_state.ClusterState.{ClusterState}
use Rattle.meta_state.specs.declared.index_metadata.IndexMetadata.{IndexMetadata}
use Rattle.meta_state.specs.Aliases.{is_aliased, names_with}
use Rattle.meta_state.specs.Looks.{found_at, found_names}
use Rattle.meta_state.specs.Tables.{aliases_at, aliases_of}
use Rattle.session_law.specs.Laws.{found_in}
use Rattle.session_law.specs.Views.{views_of, with_aliases, with_aliases_of_all, with_name}
use Rattle.session_law.proofs.AliasViews.{views_agree_with_looks}
use Rattle.node_apply.specs.AliasLists.{AreInOrderAt, AreSetsInOrder, aliases_among, list_of, some_names}
use Rattle.node_apply.specs.TouchedNames.{names_of, with_names_of}
use Rattle.node_apply.specs.Updated.{updated}
use Rattle.node_apply.proofs.Updating.{updated_is}

abbrev Indices : Type 0
Indices = List (List ℕ × IndexMetadata)

abbrev Names : Type 0
Names = List (List ℕ × Unit {0})

abbrev Lists : Type 0
Lists = List (List ℕ × List (List ℕ))

-- ---- what the lists of a state have under an alias

from_found : (entry : Option (List (List ℕ))) (names : List (List ℕ)) → found_in entry ≡ found_names names → entry ≡ some_names names
from_found None [] e = refl
from_found None (name ∷ names) e = absurd cc
from_found (Some entry) [] e = absurd cc
from_found (Some entry) (name ∷ names) e = cc

-- a state with some indices
abbrev state_with : Indices → ClusterState
state_with indices = record {
  cluster = [];
  id = 0;
  term = 0;
  version = 0;
  master = [];
  nodes = [];
  metadata = record { version = 0; created = 0; settings = []; indices = indices };
}

lookup-lists : (alias : List ℕ) (indices : Indices) → AreSetsInOrder indices → lookup alias (with_aliases_of_all indices []) ≡ list_of indices alias
unfolding views_of found_at
lookup-lists alias indices h = from_found (lookup alias (with_aliases_of_all indices [])) (names_with alias indices) (views_agree_with_looks (state_with indices) alias h)

in_order_with_aliases : (index : List ℕ) (aliases : Names) (lists : Lists) → InOrder lists → InOrder (with_aliases index aliases lists)
in_order_with_aliases index [] lists s = s
in_order_with_aliases index (x ∷ xs) lists s =
    in_order_with_aliases index xs (with_name x.0 index lists) (in_order_with x.0 (unwrap_or (lookup x.0 lists) [] ++ index ∷ []) lists (with_name x.0 index lists) s (λ _. refl))

in_order_lists : (indices : Indices) (lists : Lists) → InOrder lists → InOrder (with_aliases_of_all indices lists)
in_order_lists [] lists s = s
in_order_lists (p ∷ ps) lists s = in_order_lists ps (with_aliases p.0 p.1.aliases lists) (in_order_with_aliases p.0 p.1.aliases lists s)

-- ---- the aliases of each index stand in order

itself : (q : List ℕ) → is_key q q ≡ true
itself q = (eq_by_cmp_equiv nat_list_cmp_total).refl q

none_behind : (q : List ℕ) (x : List ℕ × IndexMetadata) (m : Indices) → InOrder (x ∷ m) → is_key q x.0 ≡ true → lookup q m ≡ None
none_behind q x m s e = lookup-none (is_at (slice_cmp nat_cmp q)) m (none_past_head (eq_by_cmp_equiv nat_list_cmp_total) q x m (IsDistinct-from_sorted (slice_cmp nat_cmp) _ s) e)

no_aliases : InOrder {V = Unit {0}} []
no_aliases = in_order_empty {V = Unit {0}} [] refl

at_first : (b : Bool) (v : IndexMetadata) (o : Option IndexMetadata) → InOrder v.aliases → InOrder (aliases_of o) → InOrder (aliases_of (cond b (Some v) o))
at_first true v o h k = h
at_first false v o h k = k

at_each : (q : List ℕ) (m : Indices) → AreSetsInOrder m → InOrder (aliases_at q m)
at_each q [] h = no_aliases
at_each q (x ∷ m) h = at_first (is_key q x.0) x.1 (lookup q m) h.0 (at_each q m h.1)

at_rest : (b : Bool) (v : IndexMetadata) (o : Option IndexMetadata) → (b ≡ true → o ≡ None) → InOrder (aliases_of (cond b (Some v) o)) → InOrder (aliases_of o)
at_rest true v o none h = subst (λ (o : Option IndexMetadata). InOrder (aliases_of o)) (sym (none refl)) no_aliases
at_rest false v o none h = h

sets_from_each : (m : Indices) → InOrder m → ((q : List ℕ) → InOrder (aliases_at q m)) → AreSetsInOrder m
unfolding IsStrictlySortedBy
sets_from_each [] s h = tt
sets_from_each (x ∷ m) s h = (
  subst (λ (b : Bool). InOrder (aliases_of (cond b (Some x.1) (lookup x.0 m)))) (itself x.0) (h x.0),
  sets_from_each m s.1 (λ q. at_rest (is_key q x.0) x.1 (lookup q m) (none_behind q x m s) (h q)),
)

at_name : (q k : List ℕ) (m : Indices) (x : Unit {0}) (others : Option (Unit {0})) (b : Bool) → is_key q k ≡ b → InOrder (aliases_at k m) → (is_some others ≡ true → InOrder (aliases_at q m))
    → is_some (cond b (Some x) others) ≡ true → InOrder (aliases_at q m)
at_name q k m x others true e h rest s = subst (λ (n : List ℕ). InOrder (aliases_at n m)) (sym (same_from_key q k e)) h
at_name q k m x others false e h rest s = rest s

at_names : (q : List ℕ) (m : Indices) (names : Names) → AreInOrderAt m names → is_some (lookup q names) ≡ true → InOrder (aliases_at q m)
at_names q m [] h e = absurd cc
at_names q m (k ∷ ks) h e = at_name q k.0 m k.1 (lookup q ks) (is_key q k.0) refl h.0 (at_names q m ks h.1) e

at_either : (names : Names) (old new : Indices) → AreSetsInOrder old → AreInOrderAt new names → AgreeOutside names old new → (q : List ℕ) (o : Option (Unit {0})) → lookup q names ≡ o → InOrder (aliases_at q new)
at_either names old new h k agree q None e = subst (λ (o : Option IndexMetadata). InOrder (aliases_of o)) (agree q e) (at_each q old h)
at_either names old new h k agree q (Some x) e = at_names q new names k (ap is_some e)

-- at names that may have changed it was seen, and elsewhere the old indices stand
pub sets_after : (names : Names) (old new : Indices) → InOrder new → AreSetsInOrder old → AreInOrderAt new names → AgreeOutside names old new → AreSetsInOrder new
sets_after names old new t h k agree = sets_from_each new t (λ q. at_either names old new h k agree q (lookup q names) refl)

-- ---- an alias that no index of a name that may have changed has

none_at : (alias q k : List ℕ) (m : Indices) (x : Unit {0}) (others : Option (Unit {0})) (b : Bool) → is_key q k ≡ b → lookup alias (aliases_at k m) ≡ None
    → (is_some others ≡ true → lookup alias (aliases_at q m) ≡ None) → is_some (cond b (Some x) others) ≡ true → lookup alias (aliases_at q m) ≡ None
none_at alias q k m x others true e h rest s = subst (λ (n : List ℕ). lookup alias (aliases_at n m) ≡ None) (sym (same_from_key q k e)) h
none_at alias q k m x others false e h rest s = rest s

none_among : (alias : List ℕ) (m : Indices) (names aliases : Names) → lookup alias (aliases_among m names aliases) ≡ None
    → (lookup alias aliases ≡ None) × ((q : List ℕ) → is_some (lookup q names) ≡ true → lookup alias (aliases_at q m) ≡ None)
none_among alias m [] aliases h = (h, λ q e. absurd cc)
none_among alias m (k ∷ ks) aliases h =
    let rest : (lookup alias (with_all (aliases_at k.0 m) aliases) ≡ None) × ((q : List ℕ) → is_some (lookup q ks) ≡ true → lookup alias (aliases_at q m) ≡ None) =
    none_among alias m ks (with_all (aliases_at k.0 m) aliases) h in
    let both : (lookup alias (aliases_at k.0 m) ≡ None) × (lookup alias aliases ≡ None) = none_from_with_all alias (aliases_at k.0 m) aliases rest.0 in
    (both.1, λ q e. none_at alias q k.0 m k.1 (lookup q ks) (is_key q k.0) refl both.0 (rest.1 q) e)

not_kept : (alias : List ℕ) (o : Option IndexMetadata) → lookup alias (aliases_of o) ≡ None → is_some (option_filter (is_aliased alias) o) ≡ false
not_kept alias None e = refl
not_kept alias (Some index) e = ap (λ (l : Option (Unit {0})). is_some (cond (is_some l) (Some index) None)) e

same_kept : (alias : List ℕ) (touched : Option (Unit {0})) (o n : Option IndexMetadata) → (touched ≡ None → o ≡ n)
    → (is_some touched ≡ true → lookup alias (aliases_of o) ≡ None) → (is_some touched ≡ true → lookup alias (aliases_of n) ≡ None)
    → is_some (option_filter (is_aliased alias) o) ≡ is_some (option_filter (is_aliased alias) n)
same_kept alias None o n e f g = ap (λ (o : Option IndexMetadata). is_some (option_filter (is_aliased alias) o)) (e refl)
same_kept alias (Some x) o n e f g = not_kept alias o (f refl) ∙ sym (not_kept alias n (g refl))

same_list : (alias : List ℕ) (names : Names) (old new : Indices) → InOrder old → InOrder new → AgreeOutside names old new
    → lookup alias (aliases_among new names (aliases_among old names [])) ≡ None → list_of old alias ≡ list_of new alias
same_list alias names old new s t agree h =
    let of_new = none_among alias new names (aliases_among old names []) h in
    let of_old = none_among alias old names [] of_new.0 in
    ap some_names (same_keys (filter (λ p. is_aliased alias p.1) old) (filter (λ p. is_aliased alias p.1) new) (in_order_filtered (is_aliased alias) old s) (in_order_filtered (is_aliased alias) new t)
    (λ q. ap is_some (lookup-filtered (is_aliased alias) q old s)
    ∙ (same_kept alias (lookup q names) (lookup q old) (lookup q new) (agree q) (of_old.1 q) (of_new.1 q)
    ∙ sym (ap is_some (lookup-filtered (is_aliased alias) q new t)))))

-- ---- the lists of the new indices

no_lists : InOrder {V = List (List ℕ)} []
no_lists = in_order_empty {V = List (List ℕ)} [] refl

-- made of those of the old ones
pub lists_after : (before : Lists) (names : Names) (old new : Indices) → before ≡ with_aliases_of_all old [] → InOrder old → InOrder new → AreSetsInOrder old → AreInOrderAt new names
    → AgreeOutside names old new → updated (list_of new) (aliases_among new names (aliases_among old names [])) before ≡ with_aliases_of_all new []
lists_after before names old new e s t h k agree =
    let aliases = aliases_among new names (aliases_among old names []) in
    let after : AreSetsInOrder new = sets_after names old new t h k agree in
    ap (updated (list_of new) aliases) e
    ∙ updated_is (list_of new) aliases (with_aliases_of_all old []) (with_aliases_of_all new []) (in_order_lists old [] no_lists) (in_order_lists new [] no_lists)
    (λ q. sym (lookup-lists q new after))
    (λ q none. lookup-lists q old h ∙ (same_list q names old new s t agree none ∙ sym (lookup-lists q new after)))

-- ---- from nothing: indices agree with no indices outside of their names

none_beside : (b : Bool) (v : IndexMetadata) (others : Option (Unit {0})) (o : Option IndexMetadata) → (others ≡ None → None ≡ o) → cond b (Some tt) others ≡ None → None ≡ cond b (Some v) o
none_beside true v others o h e = absurd cc
none_beside false v others o h e = h e

none_in : (q : List ℕ) (m : Indices) → lookup q (names_of m) ≡ None → None ≡ lookup q m
none_in q [] h = refl
none_in q (x ∷ m) h = none_beside (is_key q x.0) x.1 (lookup q (names_of m)) (lookup q m) (none_in q m) h

agree_outside_all : (indices : Indices) → AgreeOutside (with_names_of indices []) [] indices
agree_outside_all indices q h = none_in q indices (none_from_with_all q (names_of indices) [] h).0

pub sets_from_all : (indices : Indices) → InOrder indices → AreInOrderAt indices (with_names_of indices []) → AreSetsInOrder indices
sets_from_all indices t k = sets_after (with_names_of indices []) [] indices t tt k (agree_outside_all indices)

no_indices : InOrder {V = IndexMetadata} []
no_indices = in_order_empty {V = IndexMetadata} [] refl

among_none : (names aliases : Names) → aliases_among [] names aliases ≡ aliases
among_none [] aliases = refl
among_none (k ∷ ks) aliases = among_none ks aliases

pub lists_from_none : (none : Lists) (indices : Indices) → none ≡ [] → InOrder indices → AreInOrderAt indices (with_names_of indices [])
    → updated (list_of indices) (aliases_among indices (with_names_of indices []) []) none ≡ with_aliases_of_all indices []
lists_from_none none indices empty t k =
    let names = with_names_of indices [] in
    ap (λ (aliases : Names). updated (list_of indices) (aliases_among indices names aliases) none) (sym (among_none names []))
    ∙ lists_after none names [] indices empty no_indices t tt k (agree_outside_all indices)
