-- Diffs of maps: that they can be read off at few keys, what is found in a map that is patched with one, and that a map
-- patched with the diff that leads to another one is that other.
use Rattle.std.proofs.Common.{◌≡◌, ℕ, Bool, true, false, cond, List, [], ◌∷◌, Some, None, Option, refl, sym, ◌∙◌, ap, subst, if◌then◌else◌}
use Rattle.std.specs.Bool.{Decides}
use Rattle.std.specs.Ordering.{nat_cmp}
use Rattle.std.specs.Option.{is_some, option_or}
use Rattle.std.specs.Cmp.Lexicographic.{slice_cmp}
use Rattle.std.specs.BTreeMap.{is_at}
use Rattle.std.specs.List.{AllByRecursion}
use Rattle.std.specs.List.Sorted.{IsStrictlySortedBy}
use Rattle.std.proofs.lemmas.Cmp.{nat_list_cmp_total, eq_by_cmp_equiv}
use Rattle.std.proofs.lemmas.Map.{lookup-none}
use Rattle.std.proofs.lemmas.Map.Entries.{none_past_head}
use Rattle.std.proofs.lemmas.Map.Keys.{IsDistinct-from_sorted}
use Rattle.plain_data.specs.Agreements.{AgreeOutside, with_all, read_off, merged}
use Rattle.plain_data.specs.Pairs.{lookup, without, InOrder}
use Rattle.plain_data.proofs.Agreements.{same_from_lookups, none_from_with_all, lookup-with_all, in_order_with_all, with_all_of_none, in_order_read_off, lookup-read_off_all, merged_among, merged_over_first, merged_over_second}
use Rattle.plain_data.proofs.At.{in_order_with, in_order_without}
use Rattle.plain_data.proofs.Lookups.{is_key, same_from_key, key_flipped, lookup-with, lookup-without}
use Rattle.state_diff.specs.MapDiffs.{only_first, only_second, both_differ, map_between, patched_option, put_at, patched_at, all_patched, without_all, map_patched, Lead, LeadAt}

-- ---- what is found after a patch

module _ {X : Type 0} where
  none_behind : (q : List ℕ) (x : List ℕ × X) (m : List (List ℕ × X)) → InOrder (x ∷ m) → is_key q x.0 ≡ true → lookup q m ≡ None
  none_behind q x m s e = lookup-none (is_at (slice_cmp nat_cmp q)) m (none_past_head (eq_by_cmp_equiv nat_list_cmp_total) q x m (IsDistinct-from_sorted (slice_cmp nat_cmp) _ s) e)

  in_order_behind : (x : List ℕ × X) (m : List (List ℕ × X)) → InOrder (x ∷ m) → InOrder m
  unfolding IsStrictlySortedBy
  in_order_behind x m s = s.1

  in_order_put_at : (key : List ℕ) (found : Option X) (m : List (List ℕ × X)) → InOrder m → InOrder (put_at key found m)
  in_order_put_at key None m s = s
  in_order_put_at key (Some x) m s = in_order_with key x m _ s (λ _. refl)

module _ {V D : Type 0} (patched : D → V → V) where
  none_patched : (b : Bool) (diff : D) (o : Option V) → (b ≡ true → o ≡ None) → o ≡ cond b (patched_option patched (Some diff) o) o
  none_patched true diff o h = h refl ∙ sym (ap (patched_option patched (Some diff)) (h refl))
  none_patched false diff o h = refl

  some_patched : (b : Bool) (diff : D) (v : V) (o : Option V) → (b ≡ true → o ≡ Some v) → cond b (Some (patched diff v)) o ≡ cond b (patched_option patched (Some diff) o) o
  some_patched true diff v o h = sym (ap (patched_option patched (Some diff)) (h refl))
  some_patched false diff v o h = refl

  lookup-put_patched : (k : List ℕ) (diff : D) (q : List ℕ) (m : List (List ℕ × V)) (o : Option V) → lookup k m ≡ o
      → lookup q (put_at k (patched_option patched (Some diff) o) m) ≡ cond (is_key k q) (patched_option patched (Some diff) (lookup q m)) (lookup q m)
  lookup-put_patched k diff q m None h = none_patched (is_key k q) diff (lookup q m) (λ e. ap (λ (x : List ℕ). lookup x m) (sym (same_from_key k q e)) ∙ h)
  lookup-put_patched k diff q m (Some v) h = lookup-with k (patched diff v) q m ∙ some_patched (is_key k q) diff v (lookup q m) (λ e. ap (λ (x : List ℕ). lookup x m) (sym (same_from_key k q e)) ∙ h)

  patched_next : (b c : Bool) (diff : D) (l : Option D) (o : Option V) → b ≡ c → (b ≡ true → l ≡ None) → patched_option patched l (cond c (patched_option patched (Some diff) o) o) ≡ patched_option patched (cond b (Some diff) l) o
  patched_next true true diff l o e h = ap (λ (x : Option D). patched_option patched x (patched_option patched (Some diff) o)) (h refl)
  patched_next false false diff l o e h = refl
  patched_next true false diff l o e h = absurd cc
  patched_next false true diff l o e h = absurd cc

  lookup-all_patched : (q : List ℕ) (diffs : List (List ℕ × D)) (m : List (List ℕ × V)) → InOrder diffs → lookup q (all_patched patched diffs m) ≡ patched_option patched (lookup q diffs) (lookup q m)
  lookup-all_patched q [] m s = refl
  lookup-all_patched q (x ∷ diffs) m s =
      lookup-all_patched q diffs (patched_at patched x.0 x.1 m) (in_order_behind x diffs s)
      ∙ ap (patched_option patched (lookup q diffs)) (lookup-put_patched x.0 x.1 q m (lookup x.0 m) refl)
      ∙ patched_next (is_key q x.0) (is_key x.0 q) x.1 (lookup q diffs) (lookup q m) (key_flipped q x.0) (none_behind q x diffs s)

  in_order_all_patched : (diffs : List (List ℕ × D)) (m : List (List ℕ × V)) → InOrder m → InOrder (all_patched patched diffs m)
  in_order_all_patched [] m s = s
  in_order_all_patched (x ∷ diffs) m s = in_order_all_patched diffs (patched_at patched x.0 x.1 m) (in_order_put_at x.0 (patched_option patched (Some x.1) (lookup x.0 m)) m s)

module _ {V : Type 0} where
  gone_next : (b c : Bool) (u : Unit {0}) (l : Option (Unit {0})) (o : Option V) → b ≡ c → cond (is_some l) None (cond c None o) ≡ cond (is_some (cond b (Some u) l)) None o
  gone_next true true u None o e = refl
  gone_next true true u (Some x) o e = refl
  gone_next false false u l o e = refl
  gone_next true false u l o e = absurd cc
  gone_next false true u l o e = absurd cc

  lookup-without_all : (q : List ℕ) (names : List (List ℕ × Unit {0})) (m : List (List ℕ × V)) → InOrder m → lookup q (without_all names m) ≡ cond (is_some (lookup q names)) None (lookup q m)
  lookup-without_all q [] m s = refl
  lookup-without_all q (x ∷ names) m s =
      lookup-without_all q names (without x.0 m) (in_order_without x.0 m _ s (λ _. refl))
      ∙ ap (λ (o : Option V). cond (is_some (lookup q names)) None o) (lookup-without x.0 q m s)
      ∙ gone_next (is_key q x.0) (is_key x.0 q) x.1 (lookup q names) (lookup q m) (key_flipped q x.0)

  in_order_without_all : (names : List (List ℕ × Unit {0})) (m : List (List ℕ × V)) → InOrder m → InOrder (without_all names m)
  in_order_without_all [] m s = s
  in_order_without_all (x ∷ names) m s = in_order_without_all names (without x.0 m) (in_order_without x.0 m _ s (λ _. refl))

-- ---- what is found in a diff

module _ {V X : Type 0} (make : Option V → Option V → Option X) (none : make None None ≡ None) (m n : List (List ℕ × V)) where
  lookup-merged : (q : List ℕ) → lookup q (merged make m n) ≡ make (lookup q m) (lookup q n)
  lookup-merged q = lookup-read_off_all (λ key. make (lookup key m) (lookup key n)) (with_all m n)
      (λ k h. let both : (lookup k m ≡ None) × (lookup k n ≡ None) = none_from_with_all k m n h in (λ i. make (both.0 i) (both.1 i)) ∙ none) q

  in_order_merged : InOrder n → InOrder (merged make m n)
  in_order_merged t = in_order_read_off (λ key. make (lookup key m) (lookup key n)) (with_all m n) (in_order_with_all m n t)

none_from_none : {V : Type 0} (o : Option V) → only_second o None ≡ None
none_from_none None = refl
none_from_none (Some v) = refl

-- what is so at each of some keys is so at a key, if it is so where that is none of them
picked : {W : Type 0} (P : List ℕ → Type 0) (keys : List (List ℕ × W)) → AllByRecursion (λ p. P p.0) keys → (q : List ℕ) → (lookup q keys ≡ None → P q) → P q
picked P [] a q other = other refl
picked P (x ∷ keys) a q other =
    let by : (b : Bool) → is_key q x.0 ≡ b → P q =
    λ b. elim b as (λ b. is_key q x.0 ≡ b → P q) [
      | true ↦ λ e. subst P (sym (same_from_key q x.0 e)) a.0
      | false ↦ λ e. picked P keys a.1 q (λ h. other (ap (λ (b : Bool). cond b (Some x.1) (lookup q keys)) e ∙ h))
    ] in
    by (is_key q x.0) refl

-- ---- the law

module _ {V D : Type 0} (eq : V → V → Bool) (between : V → V → D) (patched : D → V → V) (exact : (v w : V) → Decides (eq v w) (v ≡ w)) where
  value_leads : (v w : V) → Lead eq between patched (Some v) (Some w) → patched_option patched (both_differ eq between (Some v) (Some w)) (Some v) ≡ Some w
  value_leads v w h =
      let by : (b : Bool) → eq v w ≡ b → patched_option patched (if b then None else Some (between v w)) (Some v) ≡ Some w =
      λ b. elim b as (λ b. eq v w ≡ b → patched_option patched (if b then None else Some (between v w)) (Some v) ≡ Some w) [
        | true ↦ λ e. ap (λ (x : V). Some x) ((exact v w).0 e)
        | false ↦ λ e. ap (λ (x : V). Some x) (h e)
      ] in
      by (eq v w) refl

  one_leads : (o p : Option V) → Lead eq between patched o p → cond (is_some (only_first o p)) None (patched_option patched (both_differ eq between o p) (option_or (only_second o p) o)) ≡ p
  one_leads None None h = refl
  one_leads None (Some w) h = refl
  one_leads (Some v) None h = refl
  one_leads (Some v) (Some w) h = value_leads v w h

  module _ (m n : List (List ℕ × V)) where
    -- a map patched with its diff to another one is that other, where the diffs of its values lead to the other's
    pub map_leads : InOrder m → InOrder n → ((q : List ℕ) → LeadAt eq between patched m n q) → map_patched patched (map_between eq between m n) m ≡ n
    map_leads s t lead =
        let deletes : List (List ℕ × Unit {0}) = merged only_first m n in
        let diffs : List (List ℕ × D) = merged (both_differ eq between) m n in
        let upserts : List (List ℕ × V) = merged only_second m n in
        let more : List (List ℕ × V) = with_all upserts m in
        let after : List (List ℕ × V) = all_patched patched diffs more in
        let r : InOrder after = in_order_all_patched patched diffs more (in_order_with_all upserts m s) in
        let there : (q : List ℕ) → lookup q after ≡ patched_option patched (both_differ eq between (lookup q m) (lookup q n)) (option_or (only_second (lookup q m) (lookup q n)) (lookup q m)) =
        λ q. lookup-all_patched patched q diffs more (in_order_merged (both_differ eq between) refl m n t)
        ∙ (λ i. patched_option patched (lookup-merged (both_differ eq between) refl m n q i)
        ((lookup-with_all q upserts m (in_order_merged only_second refl m n t) ∙ ap (λ (o : Option V). option_or o (lookup q m)) (lookup-merged only_second refl m n q)) i)) in
        same_from_lookups (without_all deletes after) n (in_order_without_all deletes after r) t
        (λ q. lookup-without_all q deletes after r
        ∙ (λ i. cond (is_some (lookup-merged only_first refl m n q i)) None (there q i))
        ∙ one_leads (lookup q m) (lookup q n) (lead q))

  same_leads : (o p : Option V) → o ≡ p → Lead eq between patched o p
  same_leads None p e = tt
  same_leads (Some v) None e = tt
  same_leads (Some v) (Some w) e = λ differ.
      let same : eq v w ≡ true = (exact v w).1 cc in
      absurd cc

  none_leads : (o p : Option V) → o ≡ None → Lead eq between patched o p
  none_leads None p e = tt
  none_leads (Some v) p e = absurd cc

  module _ (m n : List (List ℕ × V)) where
    -- a diff that was read off at all keys of the maps leads from the one to the other
    pub whole_leads : InOrder m → InOrder n → AllByRecursion (λ p. LeadAt eq between patched m n p.0) m → map_patched patched (map_between eq between m n) m ≡ n
    whole_leads s t a = map_leads m n s t (λ q. picked (LeadAt eq between patched m n) m a q (none_leads (lookup q m) (lookup q n)))

    -- and so one that was read off at the names outside of which they agree
    pub among_leads : (names : List (List ℕ × Unit {0})) → InOrder m → InOrder n → AgreeOutside names m n → AllByRecursion (λ p. LeadAt eq between patched m n p.0) names → map_patched patched (map_between eq between m n) m ≡ n
    among_leads names s t agree a = map_leads m n s t (λ q. picked (LeadAt eq between patched m n) names a q (λ h. same_leads (lookup q m) (lookup q n) (agree q h)))

    none_of_same : (v : V) → both_differ eq between (Some v) (Some v) ≡ None
    none_of_same v = ap (λ (b : Bool). if b then None else Some (between v v)) ((exact v v).1 refl)

    module _ (deletes : List (List ℕ × Unit {0})) (diffs : List (List ℕ × D)) (upserts : List (List ℕ × V)) where
      pub whole_is : InOrder m → InOrder n
          → deletes ≡ with_all (read_off (λ key. only_first (lookup key m) (lookup key n)) m) []
          → diffs ≡ with_all (read_off (λ key. both_differ eq between (lookup key m) (lookup key n)) m) []
          → upserts ≡ with_all (read_off (λ key. only_second (lookup key m) (lookup key n)) n) []
          → record { deletes = deletes; diffs = diffs; upserts = upserts } ≡ map_between eq between m n
      whole_is s t d f u =
          let is_deletes : deletes ≡ merged only_first m n = d ∙ with_all_of_none _ (in_order_read_off _ m s) ∙ sym (merged_over_first only_first (λ o. refl) m n s t) in
          let is_diffs : diffs ≡ merged (both_differ eq between) m n = f ∙ with_all_of_none _ (in_order_read_off _ m s) ∙ sym (merged_over_first (both_differ eq between) (λ o. refl) m n s t) in
          let is_upserts : upserts ≡ merged only_second m n = u ∙ with_all_of_none _ (in_order_read_off _ n t) ∙ sym (merged_over_second only_second none_from_none m n s t) in
          λ i. record { deletes = is_deletes i; diffs = is_diffs i; upserts = is_upserts i }

      pub among_is : (names : List (List ℕ × Unit {0})) → InOrder names → InOrder m → InOrder n → AgreeOutside names m n
          → deletes ≡ with_all (read_off (λ key. only_first (lookup key m) (lookup key n)) names) []
          → diffs ≡ with_all (read_off (λ key. both_differ eq between (lookup key m) (lookup key n)) names) []
          → upserts ≡ with_all (read_off (λ key. only_second (lookup key m) (lookup key n)) names) []
          → record { deletes = deletes; diffs = diffs; upserts = upserts } ≡ map_between eq between m n
      among_is names r s t agree d f u =
          let is_deletes : deletes ≡ merged only_first m n = d ∙ with_all_of_none _ (in_order_read_off _ names r) ∙ sym (merged_among only_first refl (λ v. refl) names m n r s t agree) in
          let is_diffs : diffs ≡ merged (both_differ eq between) m n = f ∙ with_all_of_none _ (in_order_read_off _ names r) ∙ sym (merged_among (both_differ eq between) refl none_of_same names m n r s t agree) in
          let is_upserts : upserts ≡ merged only_second m n = u ∙ with_all_of_none _ (in_order_read_off _ names r) ∙ sym (merged_among only_second refl (λ v. refl) names m n r s t agree) in
          λ i. record { deletes = is_deletes i; diffs = is_diffs i; upserts = is_upserts i }
