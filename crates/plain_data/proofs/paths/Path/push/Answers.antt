use Rattle.plain_data.specs.Walks.{waiting_at}
use Rattle.plain_data.proofs.Walks.{first_without_last}
use Rattle.plain_data.proofs.paths.Path.push.Goals as goal

pub returns : goal.returns
returns g c = first_without_last c.args.node.now.pair c.args.node.now.right (waiting_at c.args.self.now.first) (waiting_at c.args.self.now.second) (waiting_at c.args.self.now.third) (waiting_at c.args.self.now.fourth)
