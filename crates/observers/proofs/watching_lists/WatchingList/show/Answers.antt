use Rattle.std.proofs.Common.{◌∙◌, ap, sym, subst}
use Rattle.std.specs.Map.{values_of}
use Rattle.observers.specs.Listings.{AreKeyed, changed_at}
use Rattle.observers.specs.Watchings.{shown_to}
use Rattle.observers.specs.declared.watching_lists.WatchingList.TheInside.{Inside}
use Rattle.observers.proofs.Entries.{keyed-shown, unchanged_at, values_of-shown}
use Rattle.observers.proofs.watching_lists.WatchingList.show.Goals as goal
use Rattle.observers.proofs.watching_lists.WatchingList.show.Goals.{in-Some, in_default}

pub invariant_of-self : goal.invariant_of-self
invariant_of-self c = elim c.match-get_index_mut.branch [
  | in-Some w ↦ subst (λ (v : Inside). AreKeyed v.map.entries) (sym w.self-inside-is)
      (keyed-shown c.self.inside.map c.args.number c.args.state.now w.in-Some.watching.now w.show.new.self w.show.ensures (sym (w.in-Some.ensures.value)) c.self.invariant)
  | in_default w ↦ subst (λ (v : Inside). AreKeyed v.map.entries) (sym w.self-inside-is) c.self.invariant
]

pub returns : goal.returns
returns c = elim c.match-get_index_mut.branch [
  | in-Some w ↦ ap (λ (v : Inside). values_of v.map.entries) w.self-inside-is
      ∙ values_of-shown c.self.inside.map c.args.number c.args.state.now w.in-Some.watching.now w.show.new.self w.show.ensures (sym (w.in-Some.ensures.value))
      ∙ ap (changed_at (shown_to c.args.state.now) c.args.number) c.self.view_is
  | in_default w ↦ ap (λ (v : Inside). values_of v.map.entries) w.self-inside-is
      ∙ sym (unchanged_at (shown_to c.args.state.now) c.args.number (values_of c.self.inside.map.entries) (sym (w.in_default.ensures.value)))
      ∙ ap (changed_at (shown_to c.args.state.now) c.args.number) c.self.view_is
]
