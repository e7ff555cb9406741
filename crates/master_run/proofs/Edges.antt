-- Lists at their edges: the entries of the last batch, and a client's number of a list that has one for each client: 0 where there is no such client.
use Rattle.std.specs.Prelude.{◌≡◌, ◌-◌, ◌++◌, ℕ, zero, suc, length, List, [], ◌∷◌, Some, None, slice_get, slice_index_or, refl}
use Rattle.std.proofs.Common.{◌∙◌, ap, arith, sym}
use Rattle.session_law.specs.declared.batches.Batch.{Batch}
use Rattle.master_run.specs.Books.{last_entries}
use Rattle.master_run.proofs.Keeping.{no_some, some_same}

pub number_none : (numbers : List ℕ) (client : ℕ) → slice_get numbers client ≡ None → 0 ≡ slice_index_or numbers client 0
number_none [] client e = refl
number_none (n ∷ numbers) zero e = cc
number_none (n ∷ numbers) (suc client) e = number_none numbers client e

pub number_some : (numbers : List ℕ) (client number : ℕ) → slice_get numbers client ≡ Some number → number ≡ slice_index_or numbers client 0
number_some [] client number e = absurd (no_some number e)
number_some (n ∷ numbers) zero number e = sym (some_same n number e)
number_some (n ∷ numbers) (suc client) number e = number_some numbers client number e

place_after : (n : ℕ) → suc (suc n - 1) ≡ suc (suc n) - 1
place_after n = omega arith

pub last_some : (batches : List Batch) (batch : Batch) → slice_get batches (length batches - 1) ≡ Some batch → batch.entries ≡ last_entries batches
last_some [] batch e = absurd (no_some batch e)
last_some (first ∷ []) batch e = ap (λ (b : Batch). b.entries) (sym (some_same first batch e))
last_some (first ∷ next ∷ more) batch e =
    last_some (next ∷ more) batch (ap (λ (n : ℕ). slice_get (first ∷ next ∷ more) n) (place_after (length more)) ∙ e)

pub last_pushed : (batches : List Batch) (batch : Batch) → last_entries (batches ++ batch ∷ []) ≡ batch.entries
last_pushed [] batch = refl
last_pushed (first ∷ []) batch = refl
last_pushed (first ∷ next ∷ more) batch = last_pushed (next ∷ more) batch
