-- Maps that agree outside of some names, and what is read off at keys: that it doesn't depend on which keys one goes over,
-- as long as each at which something is found is among them. So what a walk over two whole maps tells is told by a walk
-- over the few keys at which they may differ.
use Rattle.std.proofs.Common.{◌≡◌, ℕ, Bool, true, false, cond, List, [], ◌∷◌, Some, None, Option, refl, sym, ◌∙◌, ap, subst}
use Rattle.std.specs.declared.cmp.Ordering.TheVariants.{Less}
use Rattle.std.specs.Ordering.{nat_cmp, is_eq}
use Rattle.std.specs.Bool.{Decides}
use Rattle.std.specs.Option.{is_some, option_or}
use Rattle.std.specs.Cmp.Lexicographic.{slice_cmp}
use Rattle.std.specs.BTreeMap.{is_at}
use Rattle.std.specs.List.{AllByRecursion, filter}
use Rattle.std.specs.List.Sorted.{IsStrictlySortedBy}
use Rattle.std.specs.Map.{keys_of}
use Rattle.std.proofs.lemmas.Bool.{false_from_ne_true}
use Rattle.std.proofs.lemmas.Cmp.{nat_list_cmp_total, eq_by_cmp_equiv}
use Rattle.std.proofs.lemmas.Map.{lookup-none}
use Rattle.std.proofs.lemmas.Map.Entries.{option_filter, none_past_head}
use Rattle.std.proofs.lemmas.Map.Keys.{IsDistinct-from_sorted}
use Rattle.plain_data.specs.Pairs.{lookup, with, without, InOrder, pairs_eq, pairs_decides}
use Rattle.plain_data.specs.Agreements.{AgreeOutside, with_all, before, read_off, merged}
use Rattle.plain_data.proofs.At.{in_order_empty, in_order_with}
use Rattle.plain_data.proofs.Lookups.{is_key, same_from_key, key_flipped, lookup-with, lookup-without_other, same_keys}

-- a key is found where it stands, and then nowhere behind it
itself : (q : List ℕ) → is_key q q ≡ true
itself q = (eq_by_cmp_equiv nat_list_cmp_total).refl q

none_behind : {V : Type 0} (q : List ℕ) (x : List ℕ × V) (m : List (List ℕ × V)) → InOrder (x ∷ m) → is_key q x.0 ≡ true → lookup q m ≡ None
none_behind q x m s e = lookup-none (is_at (slice_cmp nat_cmp q)) m (none_past_head (eq_by_cmp_equiv nat_list_cmp_total) q x m (IsDistinct-from_sorted (slice_cmp nat_cmp) _ s) e)

in_order_behind : {V : Type 0} (x : List ℕ × V) (m : List (List ℕ × V)) → InOrder (x ∷ m) → InOrder m
unfolding IsStrictlySortedBy
in_order_behind x m s = s.1

-- ---- equal look-ups

module _ {V : Type 0} where
  same_value : (b c : Bool) (v w : V) (l r : Option V) → b ≡ true → c ≡ true → cond b (Some v) l ≡ cond c (Some w) r → v ≡ w
  same_value true true v w l r e f h = cc
  same_value false c v w l r e f h = absurd cc
  same_value true false v w l r e f h = absurd cc

  same_rest : (b c : Bool) (v w : V) (l r : Option V) → b ≡ c → cond b (Some v) l ≡ cond c (Some w) r → (b ≡ true → l ≡ None) → (c ≡ true → r ≡ None) → l ≡ r
  same_rest true true v w l r e h f g = f refl ∙ sym (g refl)
  same_rest false false v w l r e h f g = h
  same_rest true false v w l r e h f g = absurd cc
  same_rest false true v w l r e h f g = absurd cc

  same_by_keys : (m n : List (List ℕ × V)) → InOrder m → InOrder n → keys_of m ≡ keys_of n → ((q : List ℕ) → lookup q m ≡ lookup q n) → m ≡ n
  same_by_keys [] [] s t k h = refl
  same_by_keys [] (y ∷ n) s t k h = absurd cc
  same_by_keys (x ∷ m) [] s t k h = absurd cc
  same_by_keys (x ∷ m) (y ∷ n) s t k h =
      let key : x.0 ≡ y.0 = cc in
      let keys : keys_of m ≡ keys_of n = cc in
      let value : x.1 ≡ y.1 = same_value (is_key x.0 x.0) (is_key x.0 y.0) x.1 y.1 (lookup x.0 m) (lookup x.0 n) (itself x.0) (ap (is_key x.0) (sym key) ∙ itself x.0) (h x.0) in
      let rest : m ≡ n = same_by_keys m n (in_order_behind x m s) (in_order_behind y n t) keys
      (λ q. same_rest (is_key q x.0) (is_key q y.0) x.1 y.1 (lookup q m) (lookup q n) (ap (is_key q) key) (h q) (none_behind q x m s) (none_behind q y n t)) in
      λ i. (key i, value i) ∷ rest i

  -- maps in order with the same look-ups are equal
  pub same_from_lookups : (m n : List (List ℕ × V)) → InOrder m → InOrder n → ((q : List ℕ) → lookup q m ≡ lookup q n) → m ≡ n
  same_from_lookups m n s t h = same_by_keys m n s t (same_keys m n s t (λ q. ap is_some (h q))) h

-- ---- a map with all of another

module _ {V : Type 0} where
  none_put : (b c : Bool) (v : V) (o : Option V) → b ≡ c → cond b (Some v) o ≡ None → (l : Option V) → l ≡ None → (cond c (Some v) l ≡ None) × (o ≡ None)
  none_put true c v o e h l g = absurd cc
  none_put false true v o e h l g = absurd cc
  none_put false false v o e h l g = (g, h)

  -- what is found in neither of both
  pub none_from_with_all : (q : List ℕ) (m n : List (List ℕ × V)) → lookup q (with_all m n) ≡ None → (lookup q m ≡ None) × (lookup q n ≡ None)
  none_from_with_all q [] n h = (refl, h)
  none_from_with_all q (x ∷ m) n h =
      let rest : (lookup q m ≡ None) × (lookup q (with x.0 x.1 n) ≡ None) = none_from_with_all q m (with x.0 x.1 n) h in
      none_put (is_key x.0 q) (is_key q x.0) x.1 (lookup q n) (key_flipped x.0 q) (sym (lookup-with x.0 x.1 q n) ∙ rest.1) (lookup q m) rest.0

  or_put : (b c : Bool) (v : V) (l o : Option V) → b ≡ c → (b ≡ true → l ≡ None) → option_or l (cond c (Some v) o) ≡ option_or (cond b (Some v) l) o
  or_put true true v l o e h = ap (λ (x : Option V). option_or x (Some v)) (h refl)
  or_put false false v l o e h = refl
  or_put true false v l o e h = absurd cc
  or_put false true v l o e h = absurd cc

  -- the pairs that are put in stand before those that were there
  pub lookup-with_all : (q : List ℕ) (m n : List (List ℕ × V)) → InOrder m → lookup q (with_all m n) ≡ option_or (lookup q m) (lookup q n)
  lookup-with_all q [] n s = refl
  lookup-with_all q (x ∷ m) n s =
      lookup-with_all q m (with x.0 x.1 n) (in_order_behind x m s)
      ∙ ap (option_or (lookup q m)) (lookup-with x.0 x.1 q n)
      ∙ or_put (is_key q x.0) (is_key x.0 q) x.1 (lookup q m) (lookup q n) (key_flipped q x.0) (none_behind q x m s)

  pub in_order_with_all : (m n : List (List ℕ × V)) → InOrder n → InOrder (with_all m n)
  in_order_with_all [] n s = s
  in_order_with_all (x ∷ m) n s = in_order_with_all m (with x.0 x.1 n) (in_order_with x.0 x.1 n _ s (λ _. refl))

  or_none : (o : Option V) → option_or o None ≡ o
  or_none None = refl
  or_none (Some v) = refl

  pub with_all_of_none : (m : List (List ℕ × V)) → InOrder m → with_all m [] ≡ m
  with_all_of_none m s = same_from_lookups (with_all m []) m (in_order_with_all m [] (in_order_empty {V = V} [] refl)) s (λ q. lookup-with_all q m [] s ∙ or_none (lookup q m))

-- ---- agreement

none_but : (b : Bool) (o : Option (Unit {0})) → cond b (Some tt) o ≡ None → (b ≡ false) × (o ≡ None)
none_but true o h = absurd cc
none_but false o h = (refl, h)

module _ {V : Type 0} where
  pub all_agree : (m n : List (List ℕ × V)) → InOrder m → InOrder n → AgreeOutside [] m n → m ≡ n
  all_agree m n s t h = same_from_lookups m n s t (λ q. h q refl)

  module _ (names : List (List ℕ × Unit {0})) where
    pub agree_with_itself : (m : List (List ℕ × V)) → AgreeOutside names m m
    agree_with_itself m q h = refl

    pub agree_flipped : (m n : List (List ℕ × V)) → AgreeOutside names m n → AgreeOutside names n m
    agree_flipped m n a q h = sym (a q h)

    pub agree_through : (m n p : List (List ℕ × V)) → AgreeOutside names m n → AgreeOutside names n p → AgreeOutside names m p
    agree_through m n p a b q h = a q h ∙ b q h

    -- outside of more names
    pub agree_outside_more : (more : List (List ℕ × Unit {0})) (m n : List (List ℕ × V)) → ((q : List ℕ) → lookup q more ≡ None → lookup q names ≡ None) → AgreeOutside names m n → AgreeOutside more m n
    agree_outside_more more m n among a q h = a q (among q h)

    -- outside of some names, and then of others
    pub agree_outside_both : (others : List (List ℕ × Unit {0})) (m n p : List (List ℕ × V)) → AgreeOutside names m n → AgreeOutside others n p → AgreeOutside (with_all others names) m p
    agree_outside_both others m n p a b q h =
        let none : (lookup q others ≡ None) × (lookup q names ≡ None) = none_from_with_all q others names h in
        a q none.1 ∙ b q none.0

  -- ---- a change, whose key joins the names

  module _ (names : List (List ℕ × Unit {0})) (key : List ℕ) (m n : List (List ℕ × V)) (agree : AgreeOutside names m n) where
    other_name : (q : List ℕ) → lookup q (with key tt names) ≡ None → (is_key key q ≡ false) × (lookup q names ≡ None)
    other_name q none = none_but (is_key key q) (lookup q names) (sym (lookup-with key tt q names) ∙ none)

    pub agree_with : (value : V) → AgreeOutside (with key tt names) m (with key value n)
    agree_with value q none =
        let other : (is_key key q ≡ false) × (lookup q names ≡ None) = other_name q none in
        agree q other.1 ∙ sym (lookup-with key value q n ∙ ap (λ (b : Bool). cond b (Some value) (lookup q n)) other.0)

    pub agree_without : AgreeOutside (with key tt names) m (without key n)
    agree_without q none =
        let other : (is_key key q ≡ false) × (lookup q names ≡ None) = other_name q none in
        agree q other.1 ∙ sym (lookup-without_other key q n other.0)

  -- ---- what look-ups at the names tell of equality

  not_at_key : (q : List ℕ) (name : List ℕ) (names : List (List ℕ × Unit {0})) (m n : List (List ℕ × V)) (b : Bool) → is_key q name ≡ b → lookup name m ≡ lookup name n
      → (cond b (Some tt) (lookup q names) ≡ None → lookup q m ≡ lookup q n) → lookup q names ≡ None → lookup q m ≡ lookup q n
  not_at_key q name names m n true e same agree none =
      let key : q ≡ name = same_from_key q name e in
      ap (λ (x : List ℕ). lookup x m) key ∙ same ∙ ap (λ (x : List ℕ). lookup x n) (sym key)
  not_at_key q name names m n false e same agree none = agree none

  -- a name with the same look-ups is one less to go
  pub agree_behind : (left : List (List ℕ × Unit {0})) (name : List ℕ) (names : List (List ℕ × Unit {0})) (m n : List (List ℕ × V)) → left ≡ (name, tt) ∷ names → lookup name m ≡ lookup name n → AgreeOutside left m n → AgreeOutside names m n
  agree_behind left name names m n is same agree q none =
      not_at_key q name names m n (is_key q name) refl same (λ here. agree q (ap (lookup q) is ∙ here)) none

  module _ (E : V → V → Bool) (decides : (v w : V) → Decides (E v w) (v ≡ w)) (m n : List (List ℕ × V)) where
    pub equal_from_agreement : InOrder m → InOrder n → (left : List (List ℕ × Unit {0})) → left ≡ [] → AgreeOutside left m n → true ≡ pairs_eq E m n
    equal_from_agreement s t left is agree = sym ((pairs_decides decides m n).1 (all_agree m n s t (subst (λ (x : List (List ℕ × Unit {0})). AgreeOutside x m n) is agree)))

    pub differ_from_lookups : (q : List ℕ) → (lookup q m ≡ lookup q n → ⊥) → false ≡ pairs_eq E m n
    differ_from_lookups q other = sym (false_from_ne_true (pairs_eq E m n) (λ e. other (ap (lookup q) ((pairs_decides decides m n).0 e))))

-- ---- what is read off

module _ {X : Type 0} where
  all_before : (Q : List ℕ → Type 0) (key : List ℕ) (found : Option X) (pairs : List (List ℕ × X)) → Q key → AllByRecursion Q (keys_of pairs) → AllByRecursion Q (keys_of (before key found pairs))
  all_before Q key None pairs h a = a
  all_before Q key (Some v) pairs h a = (h, a)

  in_order_before : (key : List ℕ) (found : Option X) (pairs : List (List ℕ × X)) → AllByRecursion (λ y. slice_cmp nat_cmp key y ≡ Less) (keys_of pairs) → InOrder pairs → InOrder (before key found pairs)
  unfolding IsStrictlySortedBy
  in_order_before key None pairs a s = s
  in_order_before key (Some v) pairs a s = (a, s)

  none_either : (b : Bool) (o : Option X) → o ≡ None → cond b o None ≡ None
  none_either true o e = e
  none_either false o e = refl

module _ {V X : Type 0} where
  all_read_off : (Q : List ℕ → Type 0) (find : List ℕ → Option X) (m : List (List ℕ × V)) → AllByRecursion Q (keys_of m) → AllByRecursion Q (keys_of (read_off find m))
  all_read_off Q find [] a = tt
  all_read_off Q find (x ∷ m) a = all_before Q x.0 (find x.0) (read_off find m) a.0 (all_read_off Q find m a.1)

  pub in_order_read_off : (find : List ℕ → Option X) (m : List (List ℕ × V)) → InOrder m → InOrder (read_off find m)
  unfolding IsStrictlySortedBy
  in_order_read_off find [] s = tt
  in_order_read_off find (x ∷ m) s =
      in_order_before x.0 (find x.0) (read_off find m) (all_read_off (λ y. slice_cmp nat_cmp x.0 y ≡ Less) find m s.0) (in_order_read_off find m s.1)

  found_before : (q : List ℕ) (key : List ℕ) (found : Option X) (pairs : List (List ℕ × X)) (o : Option V) (v : V) (target : Option X) (b : Bool) → is_key q key ≡ b → (b ≡ true → found ≡ target)
      → lookup q pairs ≡ cond (is_some o) target None → lookup q (before key found pairs) ≡ cond (is_some (cond b (Some v) o)) target None
  found_before q key None pairs o v target true e same rest = rest ∙ none_either (is_some o) target (sym (same refl)) ∙ same refl
  found_before q key None pairs o v target false e same rest = rest
  found_before q key (Some w) pairs o v target true e same rest = ap (λ (b : Bool). cond b (Some w) (lookup q pairs)) e ∙ same refl
  found_before q key (Some w) pairs o v target false e same rest = ap (λ (b : Bool). cond b (Some w) (lookup q pairs)) e ∙ rest

  -- what is found at a key that the map has, and nothing elsewhere
  pub lookup-read_off : (find : List ℕ → Option X) (q : List ℕ) (m : List (List ℕ × V)) → lookup q (read_off find m) ≡ cond (is_some (lookup q m)) (find q) None
  lookup-read_off find q [] = refl
  lookup-read_off find q (x ∷ m) =
      found_before q x.0 (find x.0) (read_off find m) (lookup q m) x.1 (find q) (is_key q x.0) refl (λ e. ap find (sym (same_from_key q x.0 e))) (lookup-read_off find q m)

  found_if : (o : Option V) (target : Option X) → (o ≡ None → target ≡ None) → cond (is_some o) target None ≡ target
  found_if None target h = sym (h refl)
  found_if (Some v) target h = refl

  -- where each key at which something is found is among those gone over
  pub lookup-read_off_all : (find : List ℕ → Option X) (m : List (List ℕ × V)) → ((q : List ℕ) → lookup q m ≡ None → find q ≡ None) → (q : List ℕ) → lookup q (read_off find m) ≡ find q
  lookup-read_off_all find m h q = lookup-read_off find q m ∙ found_if (lookup q m) (find q) (h q)

  -- the same is found at each key that is gone over
  pub read_off_same : (f g : List ℕ → Option X) (m : List (List ℕ × V)) → AllByRecursion (λ key. f key ≡ g key) (keys_of m) → read_off f m ≡ read_off g m
  read_off_same f g [] a = refl
  read_off_same f g (x ∷ m) a = λ i. before x.0 (a.0 i) (read_off_same f g m a.1 i)

-- what is read off over one map and over another, where each key at which something is found is among the keys of both
pub read_off_alike : {V W X : Type 0} (find : List ℕ → Option X) (m : List (List ℕ × V)) (n : List (List ℕ × W)) → InOrder m → InOrder n
    → ((q : List ℕ) → lookup q m ≡ None → find q ≡ None) → ((q : List ℕ) → lookup q n ≡ None → find q ≡ None) → read_off find m ≡ read_off find n
read_off_alike find m n s t h k =
    same_from_lookups (read_off find m) (read_off find n) (in_order_read_off find m s) (in_order_read_off find n t) (λ q. lookup-read_off_all find m h q ∙ sym (lookup-read_off_all find n k q))

-- ---- merges

module _ {V X : Type 0} (make : Option V → Option V → Option X) where
  abbrev found_at : List (List ℕ × V) → List (List ℕ × V) → List ℕ → Option X
  found_at m n key = make (lookup key m) (lookup key n)

  none_in_merge : make None None ≡ None → (m n : List (List ℕ × V)) (q : List ℕ) → lookup q (with_all m n) ≡ None → found_at m n q ≡ None
  none_in_merge none m n q h =
      let both : (lookup q m ≡ None) × (lookup q n ≡ None) = none_from_with_all q m n h in
      (λ i. make (both.0 i) (both.1 i)) ∙ none

  none_of_same : make None None ≡ None → ((v : V) → make (Some v) (Some v) ≡ None) → (o p : Option V) → o ≡ p → make o p ≡ None
  none_of_same none same None p e = ap (make None) (sym e) ∙ none
  none_of_same none same (Some v) p e = ap (make (Some v)) (sym e) ∙ same v

  -- what a merge of two maps gives is found at the names outside of which they agree
  pub merged_among : make None None ≡ None → ((v : V) → make (Some v) (Some v) ≡ None) → (names : List (List ℕ × Unit {0})) (m n : List (List ℕ × V))
      → InOrder names → InOrder m → InOrder n → AgreeOutside names m n → merged make m n ≡ read_off (λ key. make (lookup key m) (lookup key n)) names
  merged_among none same names m n r s t agree =
      read_off_alike (found_at m n) (with_all m n) names (in_order_with_all m n t) r (none_in_merge none m n) (λ q h. none_of_same none same (lookup q m) (lookup q n) (agree q h))

  -- where nothing is made without a value of the first map
  pub merged_over_first : ((o : Option V) → make None o ≡ None) → (m n : List (List ℕ × V)) → InOrder m → InOrder n → merged make m n ≡ read_off (λ key. make (lookup key m) (lookup key n)) m
  merged_over_first none m n s t =
      read_off_alike (found_at m n) (with_all m n) m (in_order_with_all m n t) s (none_in_merge (none None) m n) (λ q h. ap (λ (o : Option V). make o (lookup q n)) h ∙ none (lookup q n))

  -- where nothing is made without a value of the second map
  pub merged_over_second : ((o : Option V) → make o None ≡ None) → (m n : List (List ℕ × V)) → InOrder m → InOrder n → merged make m n ≡ read_off (λ key. make (lookup key m) (lookup key n)) n
  merged_over_second none m n s t =
      read_off_alike (found_at m n) (with_all m n) n (in_order_with_all m n t) t (none_in_merge (none None) m n) (λ q h. ap (make (lookup q m)) h ∙ none (lookup q m))

-- ---- filters

module _ {V : Type 0} (test : List ℕ → V → Bool) where
  abbrev passing : List (List ℕ × V) → List ℕ → Option V
  passing m q = option_filter (test q) (lookup q m)

  kept_before : (key : List ℕ) (v : V) (b : Bool) (pairs : List (List ℕ × V)) → cond b ((key, v) ∷ pairs) pairs ≡ before key (cond b (Some v) None) pairs
  kept_before key v true pairs = refl
  kept_before key v false pairs = refl

  -- a pair at the head is found at no key behind it
  same_behind : (x : List ℕ × V) (m : List (List ℕ × V)) (keys : List (List ℕ)) → AllByRecursion (λ y. slice_cmp nat_cmp x.0 y ≡ Less) keys → AllByRecursion (λ key. passing m key ≡ passing (x ∷ m) key) keys
  same_behind x m [] a = tt
  same_behind x m (key ∷ keys) a =
      let other : is_key key x.0 ≡ false = key_flipped key x.0 ∙ ap is_eq a.0 in
      (ap (λ (b : Bool). option_filter (test key) (cond b (Some x.1) (lookup key m))) (sym other), same_behind x m keys a.1)

  -- a filter is what is read off at the map's own keys
  pub filter_read_off : (m : List (List ℕ × V)) → InOrder m → filter (λ p. test p.0 p.1) m ≡ read_off (λ q. option_filter (test q) (lookup q m)) m
  unfolding IsStrictlySortedBy
  filter_read_off [] s = refl
  filter_read_off (x ∷ m) s =
      let rest : filter (λ p. test p.0 p.1) m ≡ read_off (passing (x ∷ m)) m = filter_read_off m s.1 ∙ read_off_same (passing m) (passing (x ∷ m)) m (same_behind x m (keys_of m) s.0) in
      let here : option_filter (test x.0) (Some x.1) ≡ passing (x ∷ m) x.0 = ap (λ (b : Bool). option_filter (test x.0) (cond b (Some x.1) (lookup x.0 m))) (sym (itself x.0)) in
      (λ i. cond (test x.0 x.1) (x ∷ rest i) (rest i)) ∙ kept_before x.0 x.1 (test x.0 x.1) (read_off (passing (x ∷ m)) m) ∙ (λ i. before x.0 (here i) (read_off (passing (x ∷ m)) m))

  -- and so what is read off at any names, where no pair outside of them passes
  pub filter_among : (m : List (List ℕ × V)) (names : List (List ℕ × Unit {0})) → InOrder m → InOrder names → ((q : List ℕ) → lookup q names ≡ None → option_filter (test q) (lookup q m) ≡ None)
      → filter (λ p. test p.0 p.1) m ≡ read_off (λ q. option_filter (test q) (lookup q m)) names
  filter_among m names s t h = filter_read_off m s ∙ read_off_alike (passing m) m names s t (λ q none. ap (option_filter (test q)) none) h
