use Rattle.fab_principals.proofs.SetLemmas.{in_set-only}
use Rattle.fab_authority.proofs.sets.only.Goals as goal

pub returns : goal.returns
returns c = λ i. in_set-only c.args.k i c.requires
