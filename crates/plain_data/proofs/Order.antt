-- What is found, put in and taken out among pairs in the order of their keys, beside a pair e that stands in their middle.
use Rattle.std.proofs.Common.{◌≡◌, Bool, true, false, cond, List, [], ◌∷◌, ◌++◌, Some, None, refl, ◌∙◌, ap}
use Rattle.std.specs.declared.cmp.Ordering.{Ordering}
use Rattle.std.specs.declared.cmp.Ordering.TheVariants.{Less, Equal, Greater}
use Rattle.std.specs.Ordering.{is_eq, match_ordering, ordering_reverse}
use Rattle.std.specs.Cmp.{IsTotalOrder}
use Rattle.std.specs.List.{AllByRecursion}
use Rattle.std.specs.List.Sorted.{IsStrictlySortedBy}
use Rattle.std.specs.Map.{keys_of, lookup, remove_entry}
use Rattle.std.specs.BTreeMap.{insert_entry, is_at}

module _ {K : Type 0} {R : K → K → Ordering} (o : IsTotalOrder R) where
  greater_from_less : (x y : K) → R x y ≡ Less → R y x ≡ Greater
  greater_from_less x y h = o.antisymm y x ∙ ap ordering_reverse h

  less_from_greater : (x y : K) → R x y ≡ Greater → R y x ≡ Less
  less_from_greater x y h = o.antisymm y x ∙ ap ordering_reverse h

module _ {K X : Type 0} {R : K → K → Ordering} (o : IsTotalOrder R) where
  abbrev Sorted : List (K × X) → Type 0
  Sorted es = IsStrictlySortedBy R (keys_of es)

  abbrev AllKeys : (K → Type 0) → List (K × X) → Type 0
  AllKeys P es = AllByRecursion P (keys_of es)

  -- ---- the parts of pairs in order

  all_left : (P : K → Type 0) (l m : List (K × X)) → AllKeys P (l ++ m) → AllKeys P l
  all_left P [] m a = tt
  all_left P (x ∷ l) m a = (a.0, all_left P l m a.1)

  all_middle : (P : K → Type 0) (l : List (K × X)) (e : K × X) (r : List (K × X)) → AllKeys P (l ++ e ∷ r) → P e.0
  all_middle P [] e r a = a.0
  all_middle P (x ∷ l) e r a = all_middle P l e r a.1

  pub sorted_none : (es : List (K × X)) → es ≡ [] → Sorted es
  unfolding IsStrictlySortedBy
  sorted_none es is = rw is tt

  pub sorted_left : (l m : List (K × X)) → Sorted (l ++ m) → Sorted l
  unfolding IsStrictlySortedBy
  sorted_left [] m s = tt
  sorted_left (x ∷ l) m s = (all_left (λ y. R x.0 y ≡ Less) l m s.0, sorted_left l m s.1)

  pub sorted_right : (l : List (K × X)) (e : K × X) (r : List (K × X)) → Sorted (l ++ e ∷ r) → Sorted r
  unfolding IsStrictlySortedBy
  sorted_right [] e r s = s.1
  sorted_right (x ∷ l) e r s = sorted_right l e r s.1

  after_middle : (l : List (K × X)) (e : K × X) (r : List (K × X)) → Sorted (l ++ e ∷ r) → AllKeys (λ y. R e.0 y ≡ Less) r
  unfolding IsStrictlySortedBy
  after_middle [] e r s = s.0
  after_middle (x ∷ l) e r s = after_middle l e r s.1

  -- ---- keys that a search for k goes past

  abbrev IsPassed : K → List (K × X) → Type 0
  IsPassed k es = AllKeys (λ y. R k y ≡ Greater) es

  passed_greater : (k : K) (l : List (K × X)) (e : K × X) (r : List (K × X)) → R k e.0 ≡ Greater → Sorted (l ++ e ∷ r) → IsPassed k l
  unfolding IsStrictlySortedBy
  passed_greater k [] e r h s = tt
  passed_greater k (x ∷ l) e r h s =
      let before : R x.0 e.0 ≡ Less = all_middle (λ y. R x.0 y ≡ Less) l e r s.0 in
      (greater_from_less o x.0 k (o.trans x.0 e.0 k before (less_from_greater o k e.0 h)), passed_greater k l e r h s.1)

  passed_equal : (k : K) (l : List (K × X)) (e : K × X) (r : List (K × X)) → R k e.0 ≡ Equal → Sorted (l ++ e ∷ r) → IsPassed k l
  unfolding IsStrictlySortedBy
  passed_equal k [] e r h s = tt
  passed_equal k (x ∷ l) e r h s =
      let before : R x.0 e.0 ≡ Less = all_middle (λ y. R x.0 y ≡ Less) l e r s.0 in
      (o.congr k e.0 x.0 h ∙ greater_from_less o x.0 e.0 before, passed_equal k l e r h s.1)

  -- no key after e is at k, where k is below e
  abbrev IsMissed : K → List (K × X) → Type 0
  IsMissed k es = AllKeys (λ y. R k y ≡ Less) es

  missed : (k : K) (e : K × X) (r : List (K × X)) → R k e.0 ≡ Less → AllKeys (λ y. R e.0 y ≡ Less) r → IsMissed k r
  missed k e [] h a = tt
  missed k e (x ∷ r) h a = (o.trans k e.0 x.0 h a.0, missed k e r h a.1)

  -- ---- finding

  lookup_past : (k : K) (l m : List (K × X)) → IsPassed k l → lookup (is_at (R k)) (l ++ m) ≡ lookup (is_at (R k)) m
  lookup_past k [] m p = refl
  lookup_past k (x ∷ l) m p = rw p.0 (lookup_past k l m p.1)

  lookup_missed : (k : K) (r : List (K × X)) → IsMissed k r → lookup (is_at (R k)) r ≡ None
  lookup_missed k [] m = refl
  lookup_missed k (x ∷ r) m = rw m.0 (lookup_missed k r m.1)

  lookup_before : (k : K) (l : List (K × X)) (e : K × X) (r : List (K × X)) → R k e.0 ≡ Less → IsMissed k r → lookup (is_at (R k)) (l ++ e ∷ r) ≡ lookup (is_at (R k)) l
  lookup_before k [] e r h m = rw h (lookup_missed k r m)
  lookup_before k (x ∷ l) e r h m = ap (λ rest. cond (is_eq (R k x.0)) (Some x.1) rest) (lookup_before k l e r h m)

  pub lookup_left : (k : K) (l : List (K × X)) (e : K × X) (r : List (K × X)) → R k e.0 ≡ Less → Sorted (l ++ e ∷ r) → lookup (is_at (R k)) (l ++ e ∷ r) ≡ lookup (is_at (R k)) l
  lookup_left k l e r h s = lookup_before k l e r h (missed k e r h (after_middle l e r s))

  pub lookup_middle : (k : K) (l : List (K × X)) (e : K × X) (r : List (K × X)) → R k e.0 ≡ Equal → Sorted (l ++ e ∷ r) → lookup (is_at (R k)) (l ++ e ∷ r) ≡ Some e.1
  lookup_middle k l e r h s = lookup_past k l (e ∷ r) (passed_equal k l e r h s) ∙ rw h refl

  pub lookup_right : (k : K) (l : List (K × X)) (e : K × X) (r : List (K × X)) → R k e.0 ≡ Greater → Sorted (l ++ e ∷ r) → lookup (is_at (R k)) (l ++ e ∷ r) ≡ lookup (is_at (R k)) r
  lookup_right k l e r h s = lookup_past k l (e ∷ r) (passed_greater k l e r h s) ∙ rw h refl

  -- ---- putting in

  insert_past : (k : K) (v : X) (l m : List (K × X)) → IsPassed k l → insert_entry R (l ++ m) k v ≡ l ++ insert_entry R m k v
  insert_past k v [] m p = refl
  insert_past k v (x ∷ l) m p = rw p.0 (ap (λ rest. x ∷ rest) (insert_past k v l m p.1))

  pub insert_left : (k : K) (v : X) (l : List (K × X)) (e : K × X) (r : List (K × X)) → R k e.0 ≡ Less → insert_entry R (l ++ e ∷ r) k v ≡ insert_entry R l k v ++ e ∷ r
  insert_left k v [] e r h = rw h refl
  insert_left k v (x ∷ l) e r h =
      let rest : insert_entry R (l ++ e ∷ r) k v ≡ insert_entry R l k v ++ e ∷ r = insert_left k v l e r h in
      elim (R k x.0) as (λ c. match_ordering c ((k, v) ∷ x ∷ (l ++ e ∷ r)) ((x.0, v) ∷ (l ++ e ∷ r)) (x ∷ insert_entry R (l ++ e ∷ r) k v) ≡ match_ordering c ((k, v) ∷ x ∷ l) ((x.0, v) ∷ l) (x ∷ insert_entry R l k v) ++ e ∷ r) [
        | Less ↦ refl
        | Equal ↦ refl
        | Greater ↦ ap (λ es. x ∷ es) rest
      ]

  pub insert_middle : (k : K) (v : X) (l : List (K × X)) (e : K × X) (r : List (K × X)) → R k e.0 ≡ Equal → Sorted (l ++ e ∷ r) → insert_entry R (l ++ e ∷ r) k v ≡ l ++ (e.0, v) ∷ r
  insert_middle k v l e r h s = insert_past k v l (e ∷ r) (passed_equal k l e r h s) ∙ rw h refl

  pub insert_right : (k : K) (v : X) (l : List (K × X)) (e : K × X) (r : List (K × X)) → R k e.0 ≡ Greater → Sorted (l ++ e ∷ r) → insert_entry R (l ++ e ∷ r) k v ≡ l ++ e ∷ insert_entry R r k v
  insert_right k v l e r h s = insert_past k v l (e ∷ r) (passed_greater k l e r h s) ∙ rw h refl

  -- ---- taking out

  remove_past : (k : K) (l m : List (K × X)) → IsPassed k l → remove_entry (is_at (R k)) (l ++ m) ≡ l ++ remove_entry (is_at (R k)) m
  remove_past k [] m p = refl
  remove_past k (x ∷ l) m p = rw p.0 (ap (λ rest. x ∷ rest) (remove_past k l m p.1))

  remove_missed : (k : K) (r : List (K × X)) → IsMissed k r → remove_entry (is_at (R k)) r ≡ r
  remove_missed k [] m = refl
  remove_missed k (x ∷ r) m = rw m.0 (ap (λ rest. x ∷ rest) (remove_missed k r m.1))

  remove_before : (k : K) (l : List (K × X)) (e : K × X) (r : List (K × X)) → R k e.0 ≡ Less → IsMissed k r → remove_entry (is_at (R k)) (l ++ e ∷ r) ≡ remove_entry (is_at (R k)) l ++ e ∷ r
  remove_before k [] e r h m = rw h (ap (λ rest. e ∷ rest) (remove_missed k r m))
  remove_before k (x ∷ l) e r h m =
      let rest : remove_entry (is_at (R k)) (l ++ e ∷ r) ≡ remove_entry (is_at (R k)) l ++ e ∷ r = remove_before k l e r h m in
      elim (is_eq (R k x.0)) as (λ b. cond b (l ++ e ∷ r) (x ∷ remove_entry (is_at (R k)) (l ++ e ∷ r)) ≡ cond b l (x ∷ remove_entry (is_at (R k)) l) ++ e ∷ r) [
        | true ↦ refl
        | false ↦ ap (λ es. x ∷ es) rest
      ]

  pub remove_left : (k : K) (l : List (K × X)) (e : K × X) (r : List (K × X)) → R k e.0 ≡ Less → Sorted (l ++ e ∷ r) → remove_entry (is_at (R k)) (l ++ e ∷ r) ≡ remove_entry (is_at (R k)) l ++ e ∷ r
  remove_left k l e r h s = remove_before k l e r h (missed k e r h (after_middle l e r s))

  pub remove_middle : (k : K) (l : List (K × X)) (e : K × X) (r : List (K × X)) → R k e.0 ≡ Equal → Sorted (l ++ e ∷ r) → remove_entry (is_at (R k)) (l ++ e ∷ r) ≡ l ++ r
  remove_middle k l e r h s = remove_past k l (e ∷ r) (passed_equal k l e r h s) ∙ rw h refl

  pub remove_right : (k : K) (l : List (K × X)) (e : K × X) (r : List (K × X)) → R k e.0 ≡ Greater → Sorted (l ++ e ∷ r) → remove_entry (is_at (R k)) (l ++ e ∷ r) ≡ l ++ e ∷ remove_entry (is_at (R k)) r
  remove_right k l e r h s = remove_past k l (e ∷ r) (passed_greater k l e r h s) ∙ rw h refl

  -- ---- what is put in or taken out leaves the order

  all_insert : (P : K → Type 0) (k : K) (v : X) (es : List (K × X)) → P k → AllKeys P es → AllKeys P (insert_entry R es k v)
  all_insert P k v [] p a = (p, tt)
  all_insert P k v (x ∷ es) p a =
      elim (R k x.0) as (λ c. AllKeys P (match_ordering c ((k, v) ∷ x ∷ es) ((x.0, v) ∷ es) (x ∷ insert_entry R es k v))) [
        | Less ↦ (p, a)
        | Equal ↦ a
        | Greater ↦ (a.0, all_insert P k v es p a.1)
      ]

  all_remove : (P : K → Type 0) (test : K → Bool) (es : List (K × X)) → AllKeys P es → AllKeys P (remove_entry test es)
  all_remove P test [] a = tt
  all_remove P test (x ∷ es) a =
      elim (test x.0) as (λ b. AllKeys P (cond b es (x ∷ remove_entry test es))) [
        | true ↦ a.1
        | false ↦ (a.0, all_remove P test es a.1)
      ]

  below_all : (k : K) (x : K) (es : List (K × X)) → R k x ≡ Less → AllKeys (λ y. R x y ≡ Less) es → AllKeys (λ y. R k y ≡ Less) es
  below_all k x [] h a = tt
  below_all k x (y ∷ es) h a = (o.trans k x y.0 h a.0, below_all k x es h a.1)

  pub sorted_insert : (k : K) (v : X) (es : List (K × X)) → Sorted es → Sorted (insert_entry R es k v)
  unfolding IsStrictlySortedBy
  sorted_insert k v [] s = (tt, tt)
  sorted_insert k v (x ∷ es) s =
      let rest : Sorted (insert_entry R es k v) = sorted_insert k v es s.1 in
      let by : (c : Ordering) → R k x.0 ≡ c → Sorted (match_ordering c ((k, v) ∷ x ∷ es) ((x.0, v) ∷ es) (x ∷ insert_entry R es k v)) =
      λ c. elim c as (λ c. R k x.0 ≡ c → Sorted (match_ordering c ((k, v) ∷ x ∷ es) ((x.0, v) ∷ es) (x ∷ insert_entry R es k v))) [
        | Less ↦ λ h. ((h, below_all k x.0 es h s.0), s)
        | Equal ↦ λ h. s
        | Greater ↦ λ h. (all_insert (λ y. R x.0 y ≡ Less) k v es (less_from_greater o k x.0 h) s.0, rest)
      ] in
      by (R k x.0) refl

  pub sorted_remove : (test : K → Bool) (es : List (K × X)) → Sorted es → Sorted (remove_entry test es)
  unfolding IsStrictlySortedBy
  sorted_remove test [] s = tt
  sorted_remove test (x ∷ es) s =
      let rest : Sorted (remove_entry test es) = sorted_remove test es s.1 in
      elim (test x.0) as (λ b. Sorted (cond b es (x ∷ remove_entry test es))) [
        | true ↦ s.1
        | false ↦ (all_remove (λ y. R x.0 y ≡ Less) test es s.0, rest)
      ]
