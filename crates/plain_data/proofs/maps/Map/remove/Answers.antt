use Rattle.plain_data.proofs.At.{in_order_without}
use Rattle.plain_data.proofs.maps.Map.remove.Goals as goal

pub invariant_of-self : goal.invariant_of-self
invariant_of-self g c = in_order_without _ _ _ c.self.invariant c.in_ok-self-inside.ensures
