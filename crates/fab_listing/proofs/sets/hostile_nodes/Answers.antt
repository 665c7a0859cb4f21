use Rattle.std.proofs.Common.{of_calls}
use Rattle.fab_listing.proofs.sets.hostile_nodes.Goals as goal

pub returns : goal.returns
returns c n below = let post = c.mask_of.ensures n below in search of_calls
