use Rattle.fab_isolation.proofs.Posts.{post_few}
use Rattle.fab_isolation.proofs.laws.bundles_post_few.Goals as goal

pub returns : goal.returns
returns c = post_few
