-- The steps by which the parts of a diff are noted, key by key.
use Rattle.std.proofs.Common.{◌≡◌, ℕ, List, Some, None, Option, refl, sym, ◌∙◌, ap}
use Rattle.plain_data.specs.Agreements.{with_all, before}
use Rattle.state_diff.specs.MapDiffs.{put_at}

module _ {X : Type 0} where
  with_all-before : (key : List ℕ) (found : Option X) (rest made : List (List ℕ × X)) → with_all (before key found rest) made ≡ with_all rest (put_at key found made)
  with_all-before key None rest made = refl
  with_all-before key (Some x) rest made = refl

  -- what is found at one key more is put in
  pub goes_on : (key : List ℕ) (found : Option X) (rest made next all : List (List ℕ × X)) → with_all (before key found rest) made ≡ all → next ≡ put_at key found made → with_all rest next ≡ all
  goes_on key found rest made next all h e = ap (with_all rest) e ∙ sym (with_all-before key found rest made) ∙ h
