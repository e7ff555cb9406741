use Rattle.std.proofs.Common.{◌∙◌, ap}
use Rattle.observers.specs.Listings.{found_watch}
use Rattle.observers.proofs.Entries.{lookup-found}
use Rattle.observers.proofs.watching_lists.WatchingList.get.Goals as goal

pub returns : goal.returns
returns c = c.get.ensures.value ∙ lookup-found c.args.watch c.self.inside.map.entries c.self.invariant ∙ ap (found_watch c.args.watch) c.self.view_is
