-- A map that was made to say at some keys what another one says there, and that agreed with it at all others, is that one.
use Rattle.std.proofs.Common.{◌≡◌, ℕ, Bool, true, false, cond, List, [], ◌∷◌, Some, None, Option, refl, sym, ◌∙◌, ap}
use Rattle.std.specs.Option.{is_some}
use Rattle.plain_data.specs.Pairs.{lookup, InOrder}
use Rattle.plain_data.specs.Agreements.{AgreeOutside}
use Rattle.plain_data.proofs.Agreements.{same_from_lookups}
use Rattle.plain_data.proofs.At.{in_order_with, in_order_without}
use Rattle.plain_data.proofs.Lookups.{is_key, same_from_key, key_flipped, lookup-with, lookup-without}
use Rattle.node_apply.specs.Updated.{updated, updated_at}

either : {A : Type 0} (c : Bool) (a b : A) → a ≡ b → cond c a b ≡ a
either true a b e = refl
either false a b e = sym e

module _ {V : Type 0} where
  in_order_updated_at : (key : List ℕ) (found : Option V) (m : List (List ℕ × V)) → InOrder m → InOrder (updated_at key found m)
  in_order_updated_at key None m s = in_order_without key m _ s (λ _. refl)
  in_order_updated_at key (Some v) m s = in_order_with key v m _ s (λ _. refl)

  lookup-updated_at : (key : List ℕ) (found : Option V) (q : List ℕ) (m : List (List ℕ × V)) → InOrder m → lookup q (updated_at key found m) ≡ cond (is_key key q) found (lookup q m)
  lookup-updated_at key None q m s = lookup-without key q m s
  lookup-updated_at key (Some v) q m s = lookup-with key v q m

  in_order_updated : (find : List ℕ → Option V) (keys : List (List ℕ × Unit {0})) (m : List (List ℕ × V)) → InOrder m → InOrder (updated find keys m)
  in_order_updated find [] m s = s
  in_order_updated find (k ∷ ks) m s = in_order_updated find ks (updated_at k.0 (find k.0) m) (in_order_updated_at k.0 (find k.0) m s)

  by_first : (find : List ℕ → Option V) (k q : List ℕ) (before : Option V) (x : Unit {0}) (others : Option (Unit {0})) (b : Bool) → is_key q k ≡ b
      → cond (is_some others) (find q) (cond b (find k) before) ≡ cond (is_some (cond b (Some x) others)) (find q) before
  by_first find k q before x others true e = either (is_some others) (find q) (find k) (ap find (same_from_key q k e))
  by_first find k q before x others false e = refl

  -- at the keys there is what was found, and elsewhere what there was
  pub lookup-updated : (find : List ℕ → Option V) (keys : List (List ℕ × Unit {0})) (q : List ℕ) (m : List (List ℕ × V)) → InOrder m
      → lookup q (updated find keys m) ≡ cond (is_some (lookup q keys)) (find q) (lookup q m)
  lookup-updated find [] q m s = refl
  lookup-updated find (k ∷ ks) q m s =
      lookup-updated find ks q (updated_at k.0 (find k.0) m) (in_order_updated_at k.0 (find k.0) m s)
      ∙ (ap (λ (o : Option V). cond (is_some (lookup q ks)) (find q) o) (lookup-updated_at k.0 (find k.0) q m s ∙ ap (λ (b : Bool). cond b (find k.0) (lookup q m)) (key_flipped k.0 q))
      ∙ by_first find k.0 q (lookup q m) k.1 (lookup q ks) (is_key q k.0) refl)

  by_found : (found : Option (Unit {0})) (at_key before after : Option V) → at_key ≡ after → (found ≡ None → before ≡ after) → cond (is_some found) at_key before ≡ after
  by_found None at_key before after e h = h refl
  by_found (Some x) at_key before after e h = e

  -- a map that agrees with another outside of the keys, and was made to say there what that one says, is the other
  pub updated_is : (find : List ℕ → Option V) (keys : List (List ℕ × Unit {0})) (m n : List (List ℕ × V)) → InOrder m → InOrder n
      → ((q : List ℕ) → find q ≡ lookup q n) → AgreeOutside keys m n → updated find keys m ≡ n
  updated_is find keys m n s t found agree =
      same_from_lookups (updated find keys m) n (in_order_updated find keys m s) t
      (λ q. lookup-updated find keys q m s ∙ by_found (lookup q keys) (find q) (lookup q m) (lookup q n) (found q) (agree q))

  pub updated_from_other : (keys : List (List ℕ × Unit {0})) (m n : List (List ℕ × V)) → InOrder m → InOrder n → AgreeOutside keys m n → updated (λ q. lookup q n) keys m ≡ n
  updated_from_other keys m n s t agree = updated_is (λ q. lookup q n) keys m n s t (λ q. refl) agree
