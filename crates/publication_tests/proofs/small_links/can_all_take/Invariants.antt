use Rattle.std.proofs.Common.{drop, map}
use Rattle.std.specs.List.{AllByRecursion}
use Rattle.publication.specs.Deliveries.{CanTake}
use Rattle.publication.specs.InMemory.{MemLinkView}
use Rattle.publication_tests.proofs.small_links.can_all_take.Given as goal

abbrev pub invariant-loop-link : goal.invariant-loop-link
invariant-loop-link l =
    AllByRecursion (CanTake l.prev l.new) (map (λ (link : MemLinkView). link.meaning) (drop l.link-index l.links))
    → AllByRecursion (CanTake l.prev l.new) (map (λ (link : MemLinkView). link.meaning) l.links)
