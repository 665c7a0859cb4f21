use Rattle.fab_views.proofs.Bundles.{view_of}
use Rattle.fab_views.proofs.laws.sets_of_nodes_have_views.Goals as goal

pub returns : goal.returns
returns c = λ s nodes sees shows within. view_of s nodes sees shows
