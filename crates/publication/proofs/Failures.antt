-- A link in memory of which a call fails lists a call.
use Rattle.std.specs.Prelude.{◌≡◌, ◌==◌, ℕ, true, false, List, [], ◌∷◌, refl}
use Rattle.std.specs.List.{list_any}
use Rattle.publication.specs.InMemory.{is_nil}

pub listed_is_not_nil : (calls : ℕ) (failing : List ℕ) → list_any (λ call. call == calls) failing ≡ true → is_nil failing ≡ false
listed_is_not_nil calls [] e = absurd cc
listed_is_not_nil calls (call ∷ failing) e = refl
