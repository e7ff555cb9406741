-- That the lists of what changed between two maps are what passes at the names outside of which they agree.
use Rattle.std.proofs.Common.{◌≡◌, ℕ, Bool, true, false, cond, not, ◌&&◌, ◌==◌, List, [], ◌∷◌, Some, None, Option, refl, sym, ◌∙◌, ap, filter}
use Rattle.std.specs.Cmp.{nat_eq_equiv}
use Rattle.std.specs.Map.{keys_of}
use Rattle.std.specs.Option.{is_some}
use Rattle.std.proofs.lemmas.Map.Entries.{option_filter}
use Rattle.std.proofs.lemmas.Slice.Eq.{bytes_eq-Decides}
use Rattle.plain_data.specs.Agreements.{AgreeOutside, with_all, before, read_off}
use Rattle.plain_data.specs.Pairs.{lookup, InOrder}
use Rattle.plain_data.proofs.Agreements.{filter_among, in_order_with_all, none_from_with_all, read_off_alike}
use Rattle.meta_state.specs.Exact.{index_eq, index_equiv}
use Rattle.meta_state.specs.declared.index_metadata.IndexMetadata.{IndexMetadata}
use Rattle.meta_state.specs.declared.node_info.NodeInfo.{NodeInfo}
use Rattle.session_law.specs.Changes.{is_changed_index, is_same_index, lacking, changed_since, unknown_to, changed_settings}
use Rattle.node_apply.specs.ListedNames.{passes, is_lacking, is_changed, is_unknown, is_other_value, names_at}

-- ---- the keys of what is read off

keys-before : {X : Type 0} (key : List ℕ) (found : Option X) (pairs : List (List ℕ × X)) → keys_of (before key found pairs) ≡ cond (is_some found) (key ∷ keys_of pairs) (keys_of pairs)
keys-before key None pairs = refl
keys-before key (Some v) pairs = refl

-- are the keys at which anything is found
keys-read_off : {V X : Type 0} (find : List ℕ → Option X) (m : List (List ℕ × V)) → keys_of (read_off find m) ≡ filter (λ q. is_some (find q)) (keys_of m)
keys-read_off find [] = refl
keys-read_off find (x ∷ m) =
    keys-before x.0 (find x.0) (read_off find m)
    ∙ (λ i. cond (is_some (find x.0)) (x.0 ∷ keys-read_off find m i) (keys-read_off find m i))

-- ---- filters over one map

module _ {V : Type 0} (test : Option V → V → Bool) (same : (v : V) → test (Some v) v ≡ false) where
  some_passes : (other found : Option V) → is_some (option_filter (test other) found) ≡ passes test other found
  some_passes other None = refl
  some_passes other (Some v) = by_test (test other v) where
    by_test : (b : Bool) → is_some (cond b (Some v) None) ≡ b
    by_test true = refl
    by_test false = refl

  none_passes : (other found : Option V) → other ≡ found → option_filter (test other) found ≡ None
  none_passes other None e = refl
  none_passes other (Some v) e = ap (λ (o : Option V). cond (test o v) (Some v) None) e ∙ ap (λ (b : Bool). cond b (Some v) None) (same v)

  pub names_among : (others m : List (List ℕ × V)) (names : List (List ℕ × Unit {0})) → InOrder m → InOrder names → AgreeOutside names others m
      → names_at (passes test) others m names ≡ keys_of (filter (λ p. test (lookup p.0 others) p.1) m)
  names_among others m names s t agree =
      sym (ap keys_of (filter_among (λ q. test (lookup q others)) m names s t (λ q h. none_passes (lookup q others) (lookup q m) (agree q h)))
      ∙ keys-read_off (λ q. option_filter (test (lookup q others)) (lookup q m)) names
      ∙ (λ i. filter (λ q. some_passes (lookup q others) (lookup q m) i) (keys_of names)))

-- ---- indices and nodes

not_lacking : (v : IndexMetadata) → not (v.id == v.id) ≡ false
not_lacking v = ap not (nat_eq_equiv.refl v.id)

not_changed : (v : IndexMetadata) → (v.id == v.id) && not (index_eq v v) ≡ false
not_changed v = λ i. nat_eq_equiv.refl v.id i && not (index_equiv.refl v i)

module _ (others indices : List (List ℕ × IndexMetadata)) (names : List (List ℕ × Unit {0})) where
  pub lacking_among : InOrder indices → InOrder names → AgreeOutside names others indices → names_at is_lacking others indices names ≡ lacking others indices
  lacking_among s t agree = names_among (λ other index. not (is_same_index index other)) not_lacking others indices names s t agree

  pub changed_among : InOrder indices → InOrder names → AgreeOutside names others indices → names_at is_changed others indices names ≡ changed_since others indices
  changed_among s t agree = names_among (λ other index. is_changed_index index other) not_changed others indices names s t agree

pub unknown_among : (others nodes : List (List ℕ × NodeInfo)) (names : List (List ℕ × Unit {0})) → InOrder nodes → InOrder names → AgreeOutside names others nodes → names_at is_unknown others nodes names ≡ unknown_to others nodes
unknown_among others nodes names s t agree = names_among (λ other node. not (is_some other)) (λ v. refl) others nodes names s t agree

-- ---- settings, whose keys are those of both maps

abbrev noted : Bool → Option (Unit {0})
noted b = cond b (Some tt) None

is_some-noted : (b : Bool) → is_some (noted b) ≡ b
is_some-noted true = refl
is_some-noted false = refl

none_of_same : (old new : Option (List ℕ)) → old ≡ new → is_other_value old new ≡ false
none_of_same None None e = refl
none_of_same (Some a) (Some b) e = ap not ((bytes_eq-Decides a b).1 cc)
none_of_same None (Some b) e = absurd cc
none_of_same (Some a) None e = absurd cc

module _ (old new : List (List ℕ × List ℕ)) where
  abbrev noted_at : List ℕ → Option (Unit {0})
  noted_at q = noted (is_other_value (lookup q old) (lookup q new))

  keys_noted : {V : Type 0} (m : List (List ℕ × V)) → keys_of (read_off noted_at m) ≡ filter (λ q. is_other_value (lookup q old) (lookup q new)) (keys_of m)
  keys_noted m = keys-read_off noted_at m ∙ (λ i. filter (λ q. is_some-noted (is_other_value (lookup q old) (lookup q new)) i) (keys_of m))

  pub settings_among : (names : List (List ℕ × Unit {0})) → InOrder new → InOrder names → AgreeOutside names old new → names_at is_other_value old new names ≡ changed_settings old new
  settings_among names s t agree =
      let both : (q : List ℕ) → lookup q (with_all old new) ≡ None → noted_at q ≡ None =
      λ q h. let none : (lookup q old ≡ None) × (lookup q new ≡ None) = none_from_with_all q old new h in ap noted (none_of_same (lookup q old) (lookup q new) (none.0 ∙ sym none.1)) in
      let other : (q : List ℕ) → lookup q names ≡ None → noted_at q ≡ None = λ q h. ap noted (none_of_same (lookup q old) (lookup q new) (agree q h)) in
      sym (keys_noted names) ∙ ap keys_of (read_off_alike noted_at names (with_all old new) t (in_order_with_all old new s) other both) ∙ keys_noted (with_all old new)
