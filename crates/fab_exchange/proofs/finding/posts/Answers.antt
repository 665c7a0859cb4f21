use Rattle.fab_exchange.specs.Dues.{posts}
use Rattle.fab_exchange.proofs.finding.posts.Goals as goal

pub returns : goal.returns
unfolding posts
returns g c = c.may_whole.ensures
