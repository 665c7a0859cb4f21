use Rattle.fab_views.proofs.Sets.{sees_label, shows_class, seen_by}
use Rattle.fab_views.proofs.laws.sets_of_nodes_see.Goals as goal

pub returns : goal.returns
returns c = λ r nodes. (sees_label r nodes, shows_class r nodes, seen_by r nodes)
