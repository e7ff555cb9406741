use Rattle.plain_data.proofs.Walks.{first_down}
use Rattle.plain_data.proofs.paths.Path.+down.Goals as goal

pub returns-in-Some : goal.returns-in-Some
returns-in-Some g t c = first_down _ _ _ _ _ _ _ c.in-Some.ensures c.push.ensures c.down.ensures
