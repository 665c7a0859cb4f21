use Rattle.std.proofs.Common.{of_calls}
use Rattle.fab_listing.proofs.sets.nodes_named.Goals as goal

pub returns-then-are_node_names-clause-nodes : goal.returns-then-are_node_names-clause-nodes
returns-then-are_node_names-clause-nodes c n below = let post = c.mask_of.ensures n below in search of_calls
