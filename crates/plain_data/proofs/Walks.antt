-- How the pairs that a path holds stand to those that a walk has left.
use Rattle.std.proofs.Common.{◌≡◌, ℕ, suc, ◌+◌, ◌-◌, ◌<◌, List, [], ◌∷◌, ◌++◌, Some, None, Option, MatchOption, length, drop, drop-cons, get_or, append_assoc, add-one, sym, subst, length-drop, ◌∙◌, ap, arith}
use Rattle.std.proofs.lemmas.List.{append-nil, drop-append-le}
use Rattle.std.proofs.Math.Seq.{drop-append-add}
use Rattle.plain_data.specs.Walks.{AreFirst}

module _ {X : Type 0} where
  pub first_none : (xs ys : List X) → xs ≡ [] → AreFirst xs ys
  first_none xs ys is = (ys, ap (λ x. x ++ ys) (sym is))

  regroup : (r a b c d : List X) → r ++ (a ++ (b ++ (c ++ d))) ≡ (r ++ (a ++ (b ++ c))) ++ d
  regroup r a b c d = simp append_assoc

  -- the farthest is forgotten
  pub first_without_last : (p : X) (r a b c d : List X) → AreFirst ((p ∷ r) ++ (a ++ (b ++ c))) (p ∷ (r ++ (a ++ (b ++ (c ++ d)))))
  first_without_last p r a b c d = (d, ap (λ x. p ∷ x) (regroup r a b c d))

  -- down to the left of a node: t are the pairs of a tree, l, p and r those of its root, and w those of the path
  pub first_down : (t l : List X) (p : X) (r w past made : List X) → t ≡ l ++ p ∷ r → AreFirst past (p ∷ (r ++ w)) → AreFirst made (l ++ past) → AreFirst made (t ++ w)
  first_down t l p r w past made is (far, nearer) (later, below) =
      (later ++ far, ap (λ x. x ++ w) is ∙ append_assoc l (p ∷ r) w ∙ ap (λ x. l ++ x) nearer ∙ sym (append_assoc l past far) ∙ ap (λ x. x ++ far) below ∙ append_assoc made later far)

  pub first_at_end : (t w : List X) → t ≡ [] → AreFirst w (t ++ w)
  first_at_end t w is = ([], ap (λ x. x ++ w) is ∙ sym (append-nil w))

  -- ---- the place of a rank in a tree

  drop_left : (t l : List X) (p : X) (r : List X) (rank : ℕ) → t ≡ l ++ p ∷ r → rank < length l → drop rank t ≡ drop rank l ++ p ∷ r
  drop_left t l p r rank is h = ap (drop rank) is ∙ drop-append-le rank l (p ∷ r) (omega arith)

  drop_right : (t l : List X) (p : X) (r : List X) (rank : ℕ) → t ≡ l ++ p ∷ r → length l < rank → drop rank t ≡ drop (rank - length l - 1) r
  drop_right t l p r rank is h =
      let e : rank ≡ length l + suc (rank - length l - 1) = omega arith in
      ap (drop rank) is ∙ ap (λ n. drop n (l ++ p ∷ r)) e ∙ drop-append-add l (p ∷ r) (suc (rank - length l - 1))

  module _ {S : Type 0} (found : Option S) (F : S → List X) (t l : List X) (p : X) (r w : List X) (is : t ≡ l ++ p ∷ r) (rank before : ℕ) (here : before ≡ length l) where
    pub seek_left : (past : List X) → rank < before → AreFirst past (p ∷ (r ++ w)) → MatchOption found (drop rank l ≡ []) (λ s. AreFirst (F s) (drop rank l ++ past))
        → MatchOption found (drop rank t ≡ []) (λ s. AreFirst (F s) (drop rank t ++ w))
    seek_left past h far below =
        elim found as (λ o. MatchOption o (drop rank l ≡ []) (λ s. AreFirst (F s) (drop rank l ++ past)) → MatchOption o (drop rank t ≡ []) (λ s. AreFirst (F s) (drop rank t ++ w))) [
          | None ↦ λ none. absurd (omega (arith, length-drop rank l, ap length none))
          | Some s ↦ λ some. first_down (drop rank t) (drop rank l) p r w past (F s) (drop_left t l p r rank is (omega arith)) far some
        ] below

    pub seek_right : before < rank → MatchOption found (drop (rank - before - 1) r ≡ []) (λ s. AreFirst (F s) (drop (rank - before - 1) r ++ w))
        → MatchOption found (drop rank t ≡ []) (λ s. AreFirst (F s) (drop rank t ++ w))
    seek_right h below =
        let e : drop (rank - before - 1) r ≡ drop rank t = ap (λ n. drop (rank - n - 1) r) here ∙ sym (drop_right t l p r rank is (omega arith)) in
        subst (λ (x : List X). MatchOption found (x ≡ []) (λ s. AreFirst (F s) (x ++ w))) e below

  -- a walk that has not come to its end has pairs left
  pub first_before_end : (n : ℕ) (xs made : List X) → n < length xs → drop n xs ≡ [] → AreFirst made (drop n xs)
  first_before_end n xs made h none = absurd (omega (arith, length-drop n xs, ap length none))

  -- ---- one pair on: n pairs of xs were given, p is the next and v come after it

  module _ (n : ℕ) (xs : List X) (p : X) (v : List X) (h : n < length xs) (first : AreFirst (p ∷ v) (drop n xs)) where
    pub next_given : (d : List X) (q : X) → drop n xs ≡ d → q ≡ p → d ≡ q ∷ drop (n + 1) xs
    next_given d q is same =
        let e : drop n xs ≡ get_or xs n p ∷ drop (suc n) xs = drop-cons xs n p h in
        let f : drop n xs ≡ (p ∷ v) ++ first.0 = first.1 in
        rw add-one (cc)

    pub rest_first : (made : List X) → AreFirst made v → AreFirst made (drop (n + 1) xs)
    rest_first made (others, more) =
        let e : drop n xs ≡ get_or xs n p ∷ drop (suc n) xs = drop-cons xs n p h in
        let f : drop n xs ≡ (p ∷ v) ++ first.0 = first.1 in
        let rest : drop (suc n) xs ≡ v ++ first.0 = cc in
        rw add-one (others ++ first.0, rest ∙ ap (λ x. x ++ first.0) more ∙ append_assoc made others first.0)
