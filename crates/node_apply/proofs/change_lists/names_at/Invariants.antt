use Rattle.std.proofs.Common.{◌≡◌, ◌++◌}
use Rattle.node_apply.specs.ListedNames.{names_at}
use Rattle.node_apply.proofs.change_lists.names_at.Given as goal

-- the names so far and those that are left to list are all
abbrev pub invariant-loop-name : goal.invariant-loop-name
invariant-loop-name g l = l.made ++ names_at g.L.Listing.passes l.others l.own l.name-iterator ≡ names_at g.L.Listing.passes l.fn.others l.fn.own l.fn.names
