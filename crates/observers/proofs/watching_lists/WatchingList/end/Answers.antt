use Rattle.std.proofs.Common.{◌∙◌, ap, map, sym, subst}
use Rattle.std.specs.List.{list_any}
use Rattle.std.specs.Map.{set_value, values_of}
use Rattle.observers.specs.Listings.{AreKeyed, final_if, found_watch, is_watch}
use Rattle.observers.specs.Registries.{ended_if}
use Rattle.observers.specs.Watchings.{final_of}
use Rattle.observers.proofs.Entries.{ended-set_value, found_somewhere, keyed-set_value, lookup-found, same_watch}
use Rattle.observers.proofs.watching_lists.WatchingList.end.Goals as goal

pub unreachable-requires : goal.unreachable-requires
unreachable-requires c = found_somewhere c.args.watch c.self.inside.map.entries c.self.invariant (sym c.in-None.ensures.value) (ap (list_any (is_watch c.args.watch)) c.self.view_is ∙ c.requires)

pub invariant_of-self : goal.invariant_of-self
invariant_of-self c =
    let wrote = c.get_mut.follows.holds c.end.new.self in
    subst AreKeyed (sym wrote.0)
    (keyed-set_value c.args.watch c.self.inside.map.entries c.in-Some.watching.now c.end.new.self c.self.invariant (sym c.in-Some.ensures.value) (ap (λ w. w.spec.watch) c.end.ensures))

pub returns-clause-shown : goal.returns-clause-shown
returns-clause-shown c =
    c.final_shown.ensures
    ∙ ap final_of c.end.ensures
    ∙ ap final_if (c.in-Some.ensures.value ∙ lookup-found c.args.watch c.self.inside.map.entries c.self.invariant ∙ ap (found_watch c.args.watch) c.self.view_is)

pub returns-clause-list : goal.returns-clause-list
returns-clause-list c =
    let wrote = c.get_mut.follows.holds c.end.new.self in
    ap values_of wrote.0
    ∙ ap (λ w. values_of (set_value (same_watch c.args.watch) c.self.inside.map.entries w)) c.end.ensures
    ∙ ended-set_value c.args.watch c.self.inside.map.entries c.in-Some.watching.now c.self.invariant c.in-Some.ensures.unique (sym c.in-Some.ensures.value)
    ∙ ap (map (ended_if c.args.watch)) c.self.view_is
