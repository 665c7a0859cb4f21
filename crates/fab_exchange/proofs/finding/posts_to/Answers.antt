use Rattle.fab_exchange.specs.Dues.{posts_to}
use Rattle.fab_exchange.proofs.finding.posts_to.Goals as goal

pub returns : goal.returns
unfolding posts_to
returns g c = c.may_post_to.ensures
