use Rattle.fab_commit.proofs.Votes.{commits_where_all_voted}
use Rattle.fab_commit.proofs.laws.all_voted.Goals as goal

pub returns : goal.returns
returns c = commits_where_all_voted
