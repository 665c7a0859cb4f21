use Rattle.fab_named.proofs.Named.{have_bytes}
use Rattle.fab_named.proofs.laws.posts_are_bytes.Goals as goal

pub returns : goal.returns
returns c = λ text ts s cut is. have_bytes cut is
