use Rattle.std.specs.Prelude.{◌-◌, length, slice_get}
use Rattle.std.specs.Option.{option_copied}
use Rattle.std.proofs.Common.{List, ◌∙◌, ap, sym}
use Rattle.session_law.specs.declared.batches.Batch.{Batch}
use Rattle.master_run.specs.Books.{Chronicle, last_entries}
use Rattle.master_run.proofs.Edges.{last_some}
use Rattle.master_run.proofs.books.Book.last_entries.Goals as goal

pub returns-in-Some : goal.returns-in-Some
returns-in-Some c =
    c.as_slice-in-Some.ensures
    ∙ last_some c.self.inside.batches c.in-Some.batch.now
    (ap (λ (all : List Batch). slice_get all (length all - 1)) (sym c.as_slice.ensures) ∙ sym c.last.ensures.value ∙ ap option_copied c.in-Some.is)
    ∙ ap (λ (b : Chronicle). last_entries b.batches) c.self.view_is
