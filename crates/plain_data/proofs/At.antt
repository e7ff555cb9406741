-- `Order`, at texts by their bytes, as the steps down a tree need it: d are the pairs of a tree, l, e and r those at its root, and k is the key.
use Rattle.std.proofs.Common.{◌≡◌, ℕ, List, [], ◌∷◌, ◌++◌, Some, Option, Ok, Err, Result, IfOk, sym, ◌∙◌, ap, subst}
use Rattle.std.specs.declared.cmp.Ordering.TheVariants.{Less, Equal, Greater}
use Rattle.std.specs.Ordering.{nat_cmp}
use Rattle.std.specs.Cmp.Lexicographic.{slice_cmp}
use Rattle.std.specs.BTreeMap.{is_at}
use Rattle.std.specs.FinMap.{slice_cmp-IsAntisymmetric, nat_cmp-IsAntisymmetric}
use Rattle.std.proofs.lemmas.Cmp.{nat_list_cmp_total}
use Rattle.plain_data.specs.Pairs.{lookup, with, without, InOrder}
use Rattle.plain_data.proofs.Order.{sorted_none, sorted_left, sorted_right, lookup_left, lookup_middle, lookup_right, insert_left, insert_middle, insert_right, remove_left, remove_middle, remove_right, sorted_insert, sorted_remove}

module _ {V : Type 0} where
  pub in_order_empty : (made : List (List ℕ × V)) → made ≡ [] → InOrder made
  in_order_empty made is = sorted_none nat_list_cmp_total made is

  pub in_order_with : (k : List ℕ) (v : V) (d made : List (List ℕ × V)) → InOrder d → (InOrder d → made ≡ with k v d) → InOrder made
  in_order_with k v d made s is = subst InOrder (sym (is s)) (sorted_insert nat_list_cmp_total k v d s)

  pub in_order_without : (k : List ℕ) (d made : List (List ℕ × V)) → InOrder d → (InOrder d → made ≡ without k d) → InOrder made
  in_order_without k d made s is = subst InOrder (sym (is s)) (sorted_remove nat_list_cmp_total (is_at (slice_cmp nat_cmp k)) d s)

  module _ (d l : List (List ℕ × V)) (e : List ℕ × V) (r : List (List ℕ × V)) (is : d ≡ l ++ e ∷ r) (k : List ℕ) where
    -- ---- what is found

    module _ (found : Option V) where
      pub get_left : slice_cmp nat_cmp k e.0 ≡ Less → (InOrder l → found ≡ lookup k l) → InOrder d → found ≡ lookup k d
      get_left h below s =
          let t : InOrder (l ++ e ∷ r) = subst InOrder is s in
          below (sorted_left nat_list_cmp_total l (e ∷ r) t) ∙ sym (ap (lookup k) is ∙ lookup_left nat_list_cmp_total k l e r h t)

      pub get_middle : slice_cmp nat_cmp k e.0 ≡ Equal → found ≡ Some e.1 → InOrder d → found ≡ lookup k d
      get_middle h here s =
          let t : InOrder (l ++ e ∷ r) = subst InOrder is s in
          here ∙ sym (ap (lookup k) is ∙ lookup_middle nat_list_cmp_total k l e r h t)

      pub get_right : slice_cmp nat_cmp k e.0 ≡ Greater → (InOrder r → found ≡ lookup k r) → InOrder d → found ≡ lookup k d
      get_right h below s =
          let t : InOrder (l ++ e ∷ r) = subst InOrder is s in
          below (sorted_right nat_list_cmp_total l e r t) ∙ sym (ap (lookup k) is ∙ lookup_right nat_list_cmp_total k l e r h t)

    -- ---- what is made, of one side changed and the others shared

    module _ {E : Type 0} where
      pub with_left : (made : Result (List (List ℕ × V)) E) (side : List (List ℕ × V)) (f : List ℕ × V) (q : List (List ℕ × V)) (v : V) → slice_cmp nat_cmp k e.0 ≡ Less → (InOrder l → side ≡ with k v l) → f ≡ e → q ≡ r
          → IfOk made (λ m. m ≡ side ++ f ∷ q) → IfOk made (λ m. InOrder d → m ≡ with k v d)
      with_left (Err x) side f q v h below same others whole = tt
      with_left (Ok m) side f q v h below same others whole = λ s.
          let t : InOrder (l ++ e ∷ r) = subst InOrder is s in
          let there : side ≡ with k v l = below (sorted_left nat_list_cmp_total l (e ∷ r) t) in
          let all : with k v d ≡ with k v l ++ e ∷ r = ap (with k v) is ∙ insert_left nat_list_cmp_total k v l e r h in
          cc

      pub with_middle : (made : Result (List (List ℕ × V)) E) (p : List (List ℕ × V)) (f : List ℕ × V) (q : List (List ℕ × V)) (v : V) → slice_cmp nat_cmp k e.0 ≡ Equal → p ≡ l → f ≡ (k, v) → q ≡ r
          → IfOk made (λ m. m ≡ p ++ f ∷ q) → IfOk made (λ m. InOrder d → m ≡ with k v d)
      with_middle (Err x) p f q v h before put after whole = tt
      with_middle (Ok m) p f q v h before put after whole = λ s.
          let t : InOrder (l ++ e ∷ r) = subst InOrder is s in
          let same : l ++ (k, v) ∷ r ≡ l ++ (e.0, v) ∷ r = ap (λ (x : List ℕ). l ++ (x, v) ∷ r) (slice_cmp-IsAntisymmetric nat_cmp-IsAntisymmetric k e.0 h) in
          let all : with k v d ≡ l ++ (e.0, v) ∷ r = ap (with k v) is ∙ insert_middle nat_list_cmp_total k v l e r h t in
          cc

      pub with_right : (made : Result (List (List ℕ × V)) E) (p : List (List ℕ × V)) (f : List ℕ × V) (side : List (List ℕ × V)) (v : V) → slice_cmp nat_cmp k e.0 ≡ Greater → (InOrder r → side ≡ with k v r) → p ≡ l → f ≡ e
          → IfOk made (λ m. m ≡ p ++ f ∷ side) → IfOk made (λ m. InOrder d → m ≡ with k v d)
      with_right (Err x) p f side v h below others same whole = tt
      with_right (Ok m) p f side v h below others same whole = λ s.
          let t : InOrder (l ++ e ∷ r) = subst InOrder is s in
          let there : side ≡ with k v r = below (sorted_right nat_list_cmp_total l e r t) in
          let all : with k v d ≡ l ++ e ∷ with k v r = ap (with k v) is ∙ insert_right nat_list_cmp_total k v l e r h t in
          cc

      pub without_left : (made : Result (List (List ℕ × V)) E) (side : List (List ℕ × V)) (f : List ℕ × V) (q : List (List ℕ × V)) → slice_cmp nat_cmp k e.0 ≡ Less → (InOrder l → side ≡ without k l) → f ≡ e → q ≡ r
          → IfOk made (λ m. m ≡ side ++ f ∷ q) → IfOk made (λ m. InOrder d → m ≡ without k d)
      without_left (Err x) side f q h below same others whole = tt
      without_left (Ok m) side f q h below same others whole = λ s.
          let t : InOrder (l ++ e ∷ r) = subst InOrder is s in
          let there : side ≡ without k l = below (sorted_left nat_list_cmp_total l (e ∷ r) t) in
          let all : without k d ≡ without k l ++ e ∷ r = ap (without k) is ∙ remove_left nat_list_cmp_total k l e r h t in
          cc

      pub without_middle : (made : Result (List (List ℕ × V)) E) → slice_cmp nat_cmp k e.0 ≡ Equal → IfOk made (λ m. m ≡ l ++ r) → IfOk made (λ m. InOrder d → m ≡ without k d)
      without_middle (Err x) h whole = tt
      without_middle (Ok m) h whole = λ s.
          let t : InOrder (l ++ e ∷ r) = subst InOrder is s in
          whole ∙ sym (ap (without k) is ∙ remove_middle nat_list_cmp_total k l e r h t)

      pub without_right : (made : Result (List (List ℕ × V)) E) (p : List (List ℕ × V)) (f : List ℕ × V) (side : List (List ℕ × V)) → slice_cmp nat_cmp k e.0 ≡ Greater → (InOrder r → side ≡ without k r) → p ≡ l → f ≡ e
          → IfOk made (λ m. m ≡ p ++ f ∷ side) → IfOk made (λ m. InOrder d → m ≡ without k d)
      without_right (Err x) p f side h below others same whole = tt
      without_right (Ok m) p f side h below others same whole = λ s.
          let t : InOrder (l ++ e ∷ r) = subst InOrder is s in
          let there : side ≡ without k r = below (sorted_right nat_list_cmp_total l e r t) in
          let all : without k d ≡ l ++ e ∷ without k r = ap (without k) is ∙ remove_right nat_list_cmp_total k l e r h t in
          cc
