use Rattle.std.proofs.Common.{◌∙◌, ◌++◌, ◌∷◌, [], ap}
use Rattle.std.specs.List.{list_any}
use Rattle.observers.specs.Listings.{is_watch}
use Rattle.observers.proofs.Entries.{keyed-added, values_of-added}
use Rattle.observers.proofs.watching_lists.WatchingList.add.Goals as goal

pub invariant_of-self-2 : goal.invariant_of-self-2
invariant_of-self-2 c =
    keyed-added c.self.inside.map c.insert.new.self c.spec.result.now.watch c.args.watching c.self.invariant
    (ap (λ s. s.watch) c.spec.ensures)
    (ap (λ ws. list_any (is_watch c.args.watching.spec.watch) ws) c.self.view_is ∙ c.requires)
    c.in_ok-insert.ensures.entries

pub returns-clause-ok : goal.returns-clause-ok
returns-clause-ok c =
    values_of-added c.self.inside.map c.insert.new.self c.spec.result.now.watch c.args.watching c.self.invariant
    (ap (λ s. s.watch) c.spec.ensures)
    (ap (λ ws. list_any (is_watch c.args.watching.spec.watch) ws) c.self.view_is ∙ c.requires)
    c.in_ok-insert.ensures.entries
    ∙ ap (λ ws. ws ++ c.args.watching ∷ []) c.self.view_is
