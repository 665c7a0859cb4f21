use Rattle.fab_named.proofs.Numbered.{has_node, is_below}
use Rattle.fab_named.proofs.laws.nodes_have_numbers.Goals as goal

pub returns : goal.returns
returns c = record { below = λ s. has_node s.program.nodes; only = λ s. is_below s.program.nodes }
