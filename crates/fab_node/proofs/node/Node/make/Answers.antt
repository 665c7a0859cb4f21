use Rattle.std.proofs.Common.{refl}
use Rattle.fab_node.proofs.Carried.{start_stands}
use Rattle.fab_node.proofs.node.Node.make.Goals as goal

pub returns-clause-stands : goal.returns-clause-stands
returns-clause-stands g c = λ given s. start_stands given c.args.number c.args.role _ refl refl refl refl c.requires.content c.requires.synced s
