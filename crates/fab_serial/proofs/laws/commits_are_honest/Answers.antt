use Rattle.fab_serial.proofs.Honest.{honest_commits}
use Rattle.fab_serial.proofs.laws.commits_are_honest.Goals as goal

pub returns : goal.returns
returns c = honest_commits
