use Rattle.std.proofs.Common.{IsTrue, subst}
use Rattle.fab_protocol.specs.Tables.{ascends}
use Rattle.fab_protocol.specs.Versions.{name_of}
use Rattle.fab_versions.proofs.Standing.{blocks_ascend}
use Rattle.fab_versions.proofs.blocks.Blocks.walk_in_order.Goals as goal

pub returns : goal.returns
returns c = subst (λ l. IsTrue (ascends name_of l)) c.self.view_is (blocks_ascend c.self.inside.blocks.items c.self.invariant)
