use Rattle.std.proofs.Common.{◌≡◌, ◌≤◌, ◌+◌, ◌++◌, flat_map, vec_capacity, vec_len}
use Rattle.observers.specs.Registries.{part_count}
use Rattle.observers.specs.Watchings.{parts_of}
use Rattle.observers.proofs.watching_lists.WatchingList.into_parts.Given as goal

abbrev pub invariant-loop-watching : goal.invariant-loop-watching
invariant-loop-watching l = record {
  goes : (goal.iterator-loop-watching).can_next l.watching-iterator × (goal.iterator-loop-watching).is_finite l.watching-iterator;
  added : l.parts.items ++ flat_map parts_of l.watching-iterator ≡ l.fn.parts.items ++ flat_map parts_of l.fn.self;
  room : vec_len l.parts + part_count l.watching-iterator ≤ vec_capacity l.parts;
}
