-- The list of watches as the entries of a map: what is found at an identifier, and what a write there leaves.
use Rattle.std.proofs.Common.{◌≡◌, ℕ, zero, suc, Bool, true, false, cond, nat_eq, ◌&&◌, ◌||◌, List, [], ◌∷◌, ◌++◌, Option, Some, None, map, set, slice_get, refl, sym, ◌∙◌, ap, subst, true≢false, if◌then◌else◌}
use Rattle.std.specs.Cmp.{IsEquivalence, on_equiv, and_equiv, nat_eq_equiv}
use Rattle.std.specs.List.{list_any, IsDistinct}
use Rattle.std.specs.Map.{keys_of, values_of, lookup, set_value}
use Rattle.std.specs.Option.{is_some}
use Rattle.std.proofs.lemmas.Map.{NonePasses}
use Rattle.std.proofs.lemmas.Map.Entries.{none_past_head}
use Rattle.std.proofs.lemmas.Option.{same_Some}
use Rattle.indexmap.specs.IndexMap.{IndexMap, insert_entry}
use Rattle.indexmap.specs.Layout.{set_value_at}
use Rattle.indexmap.proofs.CallerLemmas.{insert_entry-new}
use Rattle.meta_state.specs.declared.cluster_state.ClusterState.{ClusterState}
use Rattle.meta_state.specs.declared.watch_id.WatchId.{WatchId}
use Rattle.observers.specs.Listings.{AreKeyed, changed_at, changed_if, found_watch, is_watch}
use Rattle.observers.specs.Registries.{ended_if}
use Rattle.observers.specs.Watchings.{Watching, shown_to}
use Rattle.observers.proofs.AnswersTold.{spec-shown_to}

-- whether two identifiers are the same
abbrev pub same_watch : WatchId → WatchId → Bool
same_watch a b = nat_eq a.client b.client && nat_eq a.step b.step

pub same_watch_equiv : IsEquivalence same_watch
same_watch_equiv = and_equiv (on_equiv (λ id. id.client) nat_eq_equiv) (on_equiv (λ id. id.step) nat_eq_equiv)

-- ---- a watch that is found

pub is_some-found : (id : WatchId) (watchings : List Watching) → is_some (found_watch id watchings) ≡ list_any (is_watch id) watchings
is_some-found id [] = refl
is_some-found id (w ∷ more) = by (is_watch id w) (is_some-found id more) where
  by : (b : Bool) → is_some (found_watch id more) ≡ list_any (is_watch id) more → is_some (cond b (Some w) (found_watch id more)) ≡ b || list_any (is_watch id) more
  by true rest = refl
  by false rest = rest

none_if : (found : Option Watching) → is_some found ≡ false → found ≡ None
none_if None e = refl
none_if (Some w) e = absurd (true≢false e)

pub found-none : (id : WatchId) (watchings : List Watching) → list_any (is_watch id) watchings ≡ false → found_watch id watchings ≡ None
found-none id watchings e = none_if (found_watch id watchings) (is_some-found id watchings ∙ e)

-- a look-up in the entries finds the watch of the identifier
pub lookup-found : (id : WatchId) (entries : List (WatchId × Watching)) → AreKeyed entries → lookup (same_watch id) entries ≡ found_watch id (values_of entries)
lookup-found id [] keyed = refl
lookup-found id (e ∷ entries) keyed = λ i. cond (same_watch id (keyed.0 i)) (Some e.1) (lookup-found id entries keyed.1 i)

pub found_somewhere : (id : WatchId) (entries : List (WatchId × Watching)) → AreKeyed entries → lookup (same_watch id) entries ≡ None → list_any (is_watch id) (values_of entries) ≡ true → ⊥
found_somewhere id entries keyed none some =
    true≢false (sym some ∙ sym (is_some-found id (values_of entries)) ∙ ap is_some (sym (lookup-found id entries keyed) ∙ none))

-- ---- one more

pub keyed-append : (entries : List (WatchId × Watching)) (id : WatchId) (w : Watching) → AreKeyed entries → id ≡ w.spec.watch → AreKeyed (entries ++ (id, w) ∷ [])
keyed-append [] id w keyed same = (same, tt)
keyed-append (e ∷ entries) id w keyed same = (keyed.0, keyed-append entries id w keyed.1 same)

pub values_of-append : (entries : List (WatchId × Watching)) (id : WatchId) (w : Watching) → values_of (entries ++ (id, w) ∷ []) ≡ values_of entries ++ w ∷ []
values_of-append [] id w = refl
values_of-append (e ∷ entries) id w = ap (λ ws. e.1 ∷ ws) (values_of-append entries id w)

module _ {S : Type 0} (m n : IndexMap WatchId Watching S) (key : WatchId) (w : Watching) (keyed : AreKeyed m.entries) (same : key ≡ w.spec.watch) (fresh : list_any (is_watch w.spec.watch) (values_of m.entries) ≡ false) (grown : n.entries ≡ insert_entry same_watch m.entries key w) where
  entries-added : n.entries ≡ m.entries ++ (key, w) ∷ []
  entries-added =
      grown
      ∙ insert_entry-new same_watch m key w
      (lookup-found key m.entries keyed ∙ found-none key (values_of m.entries) (ap (λ k. list_any (is_watch k) (values_of m.entries)) same ∙ fresh))

  pub keyed-added : AreKeyed n.entries
  keyed-added = subst AreKeyed (sym entries-added) (keyed-append m.entries key w keyed same)

  pub values_of-added : values_of n.entries ≡ values_of m.entries ++ w ∷ []
  values_of-added = ap values_of entries-added ∙ values_of-append m.entries key w

-- ---- a write at a number

pub values_of-set_value_at : (entries : List (WatchId × Watching)) (number : ℕ) (w : Watching) → values_of (set_value_at entries number w) ≡ set (values_of entries) number w
values_of-set_value_at [] number w = refl
values_of-set_value_at (e ∷ entries) zero w = refl
values_of-set_value_at (e ∷ entries) (suc number) w = ap (λ ws. e.1 ∷ ws) (values_of-set_value_at entries number w)

pub keyed-set_value_at : (entries : List (WatchId × Watching)) (number : ℕ) (before after : Watching) → AreKeyed entries → slice_get (values_of entries) number ≡ Some before → after.spec.watch ≡ before.spec.watch → AreKeyed (set_value_at entries number after)
keyed-set_value_at [] number before after keyed is same = keyed
keyed-set_value_at (e ∷ entries) zero before after keyed is same = (keyed.0 ∙ ap (λ w. w.spec.watch) (same_Some e.1 before is) ∙ sym same, keyed.1)
keyed-set_value_at (e ∷ entries) (suc number) before after keyed is same = (keyed.0, keyed-set_value_at entries number before after keyed.1 is same)

pub changed_at-some : (change : Watching → Watching) (number : ℕ) (watchings : List Watching) (w : Watching) → slice_get watchings number ≡ Some w → changed_at change number watchings ≡ set watchings number (change w)
changed_at-some change number watchings w is = ap (changed_if change number watchings) is

pub unchanged_at : (change : Watching → Watching) (number : ℕ) (watchings : List Watching) → slice_get watchings number ≡ None → changed_at change number watchings ≡ watchings
unchanged_at change number watchings is = ap (changed_if change number watchings) is

module _ {S : Type 0} (m : IndexMap WatchId Watching S) (number : ℕ) (state : ClusterState) (before after : Watching) (shown : after ≡ shown_to state before) (is : slice_get (values_of m.entries) number ≡ Some before) where
  pub keyed-shown : AreKeyed m.entries → AreKeyed (set_value_at m.entries number after)
  keyed-shown keyed = keyed-set_value_at m.entries number before after keyed is (ap (λ w. w.spec.watch) shown ∙ ap (λ s. s.watch) (spec-shown_to state before))

  pub values_of-shown : values_of (set_value_at m.entries number after) ≡ changed_at (shown_to state) number (values_of m.entries)
  values_of-shown =
      values_of-set_value_at m.entries number after
      ∙ ap (set (values_of m.entries) number) shown
      ∙ sym (changed_at-some (shown_to state) number (values_of m.entries) before is)

-- ---- a write at an identifier

pub keyed-set_value : (id : WatchId) (entries : List (WatchId × Watching)) (before after : Watching) → AreKeyed entries → lookup (same_watch id) entries ≡ Some before → after.spec.watch ≡ before.spec.watch → AreKeyed (set_value (same_watch id) entries after)
keyed-set_value id [] before after keyed is same = keyed
keyed-set_value id (e ∷ entries) before after keyed is same = by (same_watch id e.0) (λ here. keyed-set_value id entries before after keyed.1 here same) is where
  by : (b : Bool) → (lookup (same_watch id) entries ≡ Some before → AreKeyed (set_value (same_watch id) entries after)) → cond b (Some e.1) (lookup (same_watch id) entries) ≡ Some before → AreKeyed (cond b ((e.0, after) ∷ entries) (e ∷ set_value (same_watch id) entries after))
  by true rest here = (keyed.0 ∙ ap (λ w. w.spec.watch) (same_Some e.1 before here) ∙ sym same, keyed.1)
  by false rest here = (keyed.0, rest here)

none_ended : (id : WatchId) (entries : List (WatchId × Watching)) → AreKeyed entries → NonePasses (same_watch id) entries → values_of entries ≡ map (ended_if id) (values_of entries)
none_ended id [] keyed none = refl
none_ended id (e ∷ entries) keyed none =
    λ i. at i ∷ none_ended id entries keyed.1 none.1 i
  where
    at : e.1 ≡ ended_if id e.1
    at = sym (ap (λ b. if b then record e.1 { over = true } else e.1) (ap (same_watch id) (sym keyed.0) ∙ none.0))

over_same : {a b : Watching} → a ≡ b → record a { over = true } ≡ record b { over = true }
over_same e i = record (e i) { over = true }

rest_apart : (id : WatchId) (ids : List WatchId) → IsDistinct same_watch (id ∷ ids) → IsDistinct same_watch ids
unfolding IsDistinct
rest_apart id ids apart = apart.1

-- the watch of an identifier is ended, and no other
pub ended-set_value : (id : WatchId) (entries : List (WatchId × Watching)) (w : Watching) → AreKeyed entries → IsDistinct same_watch (keys_of entries) → lookup (same_watch id) entries ≡ Some w
    → values_of (set_value (same_watch id) entries (record w { over = true })) ≡ map (ended_if id) (values_of entries)
ended-set_value id [] w keyed apart is = refl
ended-set_value id (e ∷ entries) w keyed apart is = by (same_watch id e.0) (ended-set_value id entries w keyed.1 (rest_apart e.0 (keys_of entries) apart)) refl is where
  ended : (b : Bool) → same_watch id e.0 ≡ b → (if b then record e.1 { over = true } else e.1) ≡ ended_if id e.1
  ended b at = ap (λ t. if t then record e.1 { over = true } else e.1) (sym at ∙ ap (same_watch id) keyed.0)

  by : (b : Bool) → (lookup (same_watch id) entries ≡ Some w → values_of (set_value (same_watch id) entries (record w { over = true })) ≡ map (ended_if id) (values_of entries)) → same_watch id e.0 ≡ b → cond b (Some e.1) (lookup (same_watch id) entries) ≡ Some w
      → values_of (cond b ((e.0, record w { over = true }) ∷ entries) (e ∷ set_value (same_watch id) entries (record w { over = true }))) ≡ map (ended_if id) (values_of (e ∷ entries))
  by true rest at here = λ i. (over_same (sym (same_Some e.1 w here)) ∙ ended true at) i ∷ none_ended id entries keyed.1 (none_past_head same_watch_equiv id e entries apart at) i
  by false rest at here = λ i. ended false at i ∷ rest here i
